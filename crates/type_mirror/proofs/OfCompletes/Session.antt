-- The replies of a session that knew all when it began.
use Rattle.std.proofs.Common.{◌≡◌, ℕ, List, [], ◌∷◌, ◌++◌, length, Option, refl, ap, subst, arith}
use Rattle.std.specs.Prelude.{None, Some, slice_get}
use Rattle.std.specs.Map.{lookup}
use Rattle.std.specs.Option.{option_map}
use Rattle.type_trees.specs.declared.types.HashId.{HashId}
use Rattle.type_trees.specs.Ids.{same_id}
use Rattle.type_object.specs.Names.{hash_of}
use Rattle.type_object.specs.visits.Visits.{Known}
use Rattle.type_lookup.specs.declared.messages.messages.Fetched.{Fetched}
use Rattle.type_lookup.specs.declared.messages.messages.Message.{Message}
use Rattle.type_registry.specs.Found.{Found}
use Rattle.type_registry.specs.Held.{Held, IsNamed, held}
use Rattle.type_registry.specs.Passed.{PassView, known, Keeps, IsFindingOf, IsPass}
use Rattle.type_registry.proofs.Passing.{holds_at}
use Rattle.lookup_fetch.specs.Rounds.{End, done, stopped, waits, closure, rounds, asked}
use Rattle.lookup_service.specs.States.{Replied}
use Rattle.type_mirror.specs.completes.Peers.{AreNamed, AreRepliesOf, EndsWell}
use Rattle.type_mirror.proofs.OfCompletes.Ending.{end_well}
use Rattle.lookup_fetch.proofs.Rounding.{not_waiting}

-- ---- what a pass knows

found_octets : (o : Option Found) (octets : List ℕ) → option_map (λ (f : Found). f.octets) o ≡ Some octets → (f : Found) × (o ≡ Some f) × (f.octets ≡ octets)
found_octets None octets e = absurd (cc e)
found_octets (Some f) octets e = (f, refl, cc e)

last_of : (trail : List Held) (h : Held) → slice_get (trail ++ h ∷ []) (length trail) ≡ Some h
last_of [] h = refl
last_of (x ∷ trail) h = last_of trail h

pub pass_named : (pass : PassView) → IsPass hash_of pass → AreNamed (known pass)
pass_named pass is id octets e =
    let f = found_octets (lookup (same_id id) pass.found) octets e in
    let finding = holds_at id (IsFindingOf hash_of pass.registry) pass.found f.0 is.findings f.1 in
    let shown = finding.is_finding.shown (length f.0.trail) (held f.0.id f.0.octets) (last_of f.0.trail (held f.0.id f.0.octets)) in
    subst (λ (i : HashId). IsNamed hash_of (held i octets)) finding.id_is (subst (λ (o : List ℕ). IsNamed hash_of (held f.0.id o)) f.2 shown.0)

-- ---- replies, one after another

pub replies_of : (there : Known) (state last : PassView) (requests replies : List Message) → Keeps there (known state) → Replied hash_of state requests replies last → AreRepliesOf there requests replies
replies_of there state last [] [] keeps r = tt
replies_of there state last [] (reply ∷ replies) keeps r = absurd r
replies_of there state last (request ∷ requests) [] keeps r = absurd r
replies_of there state last (request ∷ requests) (reply ∷ replies) keeps r =
    let grown : Keeps there (known r.0) = λ id octets e. r.1.grows.known id octets (keeps id octets e) in
    (record { before = known state; now = r.0; knows = λ id octets a e. grown id octets e; replies = r.1.replies }, replies_of there r.0 last requests replies grown r.2)

as_many : (state last : PassView) (requests replies : List Message) → Replied hash_of state requests replies last → length requests ≡ length replies
as_many state last [] [] r = refl
as_many state last [] (reply ∷ replies) r = absurd r
as_many state last (request ∷ requests) [] r = absurd r
as_many state last (request ∷ requests) (reply ∷ replies) r = let n = as_many r.0 last requests replies r.2 in omega (arith, n)

ended : (objects : List Fetched) (n : ℕ) (end : End) → EndsWell objects n end → (end ≡ waits → ⊥) → end ≡ done objects
ended objects n (done others) e h = ap done e
ended objects n (stopped fault) e h = absurd e
ended objects n waits e h = absurd (h refl)

pub session_ends : (entry last : PassView) (ids : List HashId) (objects : List Fetched) (messages : List Message) → IsPass hash_of entry → closure (known entry) ids ≡ Some objects → Replied hash_of entry (asked ids messages) messages last → (rounds ids 1 [] messages).end ≡ done objects
session_ends entry last ids objects messages is whole r =
    ended objects (length messages) (rounds ids 1 [] messages).end
    (end_well (known entry) ids objects messages (record { named = pass_named entry is; whole = whole }) (replies_of (known entry) entry last (asked ids messages) messages (λ id octets e. e) r))
    (not_waiting ids 1 [] messages (as_many entry last (asked ids messages) messages r))
