-- A worked fetch, checked by computation: a structure and that of its member, from a peer that knows both. The texts are minimal TypeObjects (DDS-XTypes 1.3,
-- 7.3.4); the rounds are this profile's own.
use Rattle.std.specs.Prelude.{◌≡◌, ℕ, List, [], ◌∷◌, Some}
use Rattle.std.proofs.Common.{refl}
use Rattle.md5.specs.Md5.{block_words, rounds as steps, compress, hash_after, digest_bytes, md5}
use Rattle.object_formats.specs.Octets.{octets, number, zeros, padding}
use Rattle.object_formats.specs.Format.{raw, raw_at, past, aligned, num, each_at}
use Rattle.object_formats.specs.Tables.{object_of, object, struct_body, base, member, identifier, nested, name, detail, type_flags, member_flags, code_of, code_octet}
use Rattle.object_formats.specs.Rows.{one_member_text}
use Rattle.type_object.specs.Names.{named}
use Rattle.type_object.specs.References.{references}
use Rattle.type_object.specs.visits.Visits.{visits}
use Rattle.type_lookup.specs.declared.messages.messages.Fetched.{Fetched}
use Rattle.type_lookup.specs.declared.messages.messages.Message.{Message}
use Rattle.type_lookup.specs.declared.messages.messages.Message.TheVariants.{GetTypes, Types}
use Rattle.type_registry.specs.Found.{Found}
use Rattle.type_registry.specs.Passed.{PassView, known}
use Rattle.lookup_fetch.specs.Rounds.{reached, closure, plan, done, rounds, asked}
use Rattle.lookup_service.specs.replies.Replies.{served}
use Rattle.type_mirror.specs.completes.Peers.{IsReplyOf, AreRepliesOf}

unfoldable pub computed : ℕ
unfolding block_words steps compress hash_after digest_bytes md5 object_of object struct_body base member identifier nested name detail type_flags member_flags num raw raw_at past aligned octets number zeros padding each_at code_of code_octet references visits reached closure plan rounds served
computed = 0

-- ---- the two objects

abbrev pub inner : Fetched
inner = record { id = record { kind = 241; hash = 102 ∷ 240 ∷ 199 ∷ 38 ∷ 0 ∷ 173 ∷ 104 ∷ 16 ∷ 100 ∷ 22 ∷ 254 ∷ 112 ∷ 248 ∷ 94 ∷ [] }; octets = one_member_text }

-- a structure whose one member has the inner one as its type
abbrev pub text_of_outer : List ℕ
text_of_outer = 49 ∷ 0 ∷ 0 ∷ 0 ∷ 241 ∷ 81 ∷ 1 ∷ 0 ∷ 1 ∷ 0 ∷ 0 ∷ 0 ∷ 0 ∷ 0 ∷ 0 ∷ 0 ∷ 33 ∷ 0 ∷ 0 ∷ 0 ∷ 1 ∷ 0 ∷ 0 ∷ 0 ∷ 25 ∷ 0 ∷ 0 ∷ 0 ∷ 0 ∷ 0 ∷ 0 ∷ 0 ∷ 1 ∷ 0 ∷ 241 ∷ 102 ∷ 240 ∷ 199 ∷ 38 ∷ 0 ∷ 173 ∷ 104 ∷ 16 ∷ 100 ∷ 22 ∷ 254 ∷ 112 ∷ 248 ∷ 94 ∷ 1 ∷ 0 ∷ 0 ∷ 0 ∷ []

abbrev pub outer : Fetched
outer = record { id = record { kind = 241; hash = 69 ∷ 147 ∷ 96 ∷ 90 ∷ 231 ∷ 253 ∷ 221 ∷ 243 ∷ 89 ∷ 99 ∷ 17 ∷ 141 ∷ 228 ∷ 164 ∷ [] }; octets = text_of_outer }

pub inner_named : named inner.octets ≡ inner.id
unfolding computed
inner_named = refl

pub outer_named : named outer.octets ≡ outer.id
unfolding computed
outer_named = refl

-- ---- a pass that knows both

abbrev pub found_of : Fetched → Found
found_of object = record { registry = []; id = object.id; octets = object.octets; trail = [] }

abbrev pub pass : PassView
pass = record { registry = []; found = (inner.id, found_of inner) ∷ (outer.id, found_of outer) ∷ []; full = [] }

pub both_met : closure (known pass) (outer.id ∷ []) ≡ Some (outer ∷ inner ∷ [])
unfolding computed
both_met = refl

-- ---- two rounds

abbrev pub replies : List Message
replies = Types 1 (outer ∷ []) ∷ Types 2 (inner ∷ []) ∷ []

pub two_rounds : rounds (outer.id ∷ []) 1 [] replies ≡ record { requests = GetTypes 1 (outer.id ∷ []) ∷ GetTypes 2 (inner.id ∷ []) ∷ []; end = done (outer ∷ inner ∷ []) }
unfolding computed
two_rounds = refl

pub first_reply : IsReplyOf (known pass) (GetTypes 1 (outer.id ∷ [])) (Types 1 (outer ∷ []))
unfolding computed
first_reply = record { before = known pass; now = pass; knows = λ id octets a e. e; replies = refl }

pub second_reply : IsReplyOf (known pass) (GetTypes 2 (inner.id ∷ [])) (Types 2 (inner ∷ []))
unfolding computed
second_reply = record { before = known pass; now = pass; knows = λ id octets a e. e; replies = refl }

pub as_the_law_wants : AreRepliesOf (known pass) (asked (outer.id ∷ []) replies) replies
unfolding computed
as_the_law_wants = (first_reply, (second_reply, tt))
