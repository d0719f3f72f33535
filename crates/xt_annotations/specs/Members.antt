-- What annotations say of a member (DDS-XTypes 1.3, 7.3.1.2.1).
use Rattle.std.specs.Prelude.{◌≡◌, ℕ, ◌%◌, if◌then◌else◌, ◌==◌, List, [], ◌∷◌, length, Some, None, Result, Ok, Err}
use Rattle.type_trees.specs.declared.types.Name.{Name}
use Rattle.type_trees.specs.declared.types.Name.TheVariants as name
use Rattle.type_trees.specs.Hash.{hash_id}
use Rattle.type_trees.specs.Trees.{MemberHead, Tree}
use Rattle.xt_annotations.specs.declared.notes.Note.{Note}
use Rattle.xt_annotations.specs.declared.notes.Note.TheVariants as note
use Rattle.xt_annotations.specs.declared.notes.Placed.{Placed}
use Rattle.xt_annotations.specs.declared.notes.Refused.{Refused}
use Rattle.xt_annotations.specs.declared.places.Site.{Site}
use Rattle.xt_annotations.specs.Places.{first_refused}

abbrev pub hash_id_of : Name → ℕ
hash_id_of (name.Full s) = hash_id s
hash_id_of (name.Hashed h) = h % 268435456

abbrev pub with_note : Note → MemberHead → MemberHead
with_note (note.Id n) m = record m { id = n }
with_note (note.HashId s) m = record m { id = if length s == 0 then hash_id_of m.name else hash_id s }
with_note (note.Key b) m = record m { key = b }
with_note (note.Optional b) m = record m { optional = b }
with_note (note.MustUnderstand b) m = record m { must_understand = b }
with_note (note.TryConstruct t) m = record m { tc = t }
with_note _ m = m

abbrev pub with_notes : List Placed → MemberHead → MemberHead
with_notes [] m = m
with_notes (p ∷ ps) m = with_notes ps (with_note p.note m)

-- The notes have no fault and the member is given what they say, or their first fault is named and nothing changes.
abbrev pub Applies : Result (Unit {0}) Refused → List Placed → MemberHead × Tree → MemberHead × Tree → Type 0
Applies (Ok u) notes old new = (first_refused Site.Member [] notes ≡ None) × (new ≡ (with_notes notes old.0, old.1))
Applies (Err r) notes old new = (first_refused Site.Member [] notes ≡ Some r) × (new ≡ old)
