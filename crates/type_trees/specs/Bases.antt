-- The base of a structure (DDS-XTypes 1.3, 7.2.2.4.4: single inheritance): the structure with its last base's name and flags, its
-- extensibility and its first members, and with the bases before the last.
use Rattle.std.specs.Prelude.{ℕ, zero, suc, List, [], ◌∷◌, Option, Some, None}
use Rattle.type_trees.specs.declared.types.Base.{Base}
use Rattle.type_trees.specs.Trees.{StructHead, Members, no_members, member}

abbrev pub take_members : ℕ → Members → Members
take_members zero ms = no_members
take_members (suc n) no_members = no_members
take_members (suc n) (member head t ms) = member head t (take_members n ms)

-- all but the last of a ∷ as, and the last
abbrev pub split_last : {A : Type 0} → A → List A → List A × A
split_last a [] = ([], a)
split_last a (b ∷ bs) = let r = split_last b bs in (a ∷ r.0, r.1)

abbrev pub head_of : StructHead → List Base × Base → StructHead
head_of head s = record { name = s.1.name; ext = head.ext; nested = s.1.nested; hashed_ids = s.1.hashed_ids; bases = s.0 }

abbrev pub base_from : List Base → StructHead → Members → Option (StructHead × Members)
base_from [] head ms = None
base_from (b ∷ bs) head ms = let s = split_last b bs in Some (head_of head s, take_members s.1.count ms)

-- none where there are no bases
abbrev pub base_of : StructHead → Members → Option (StructHead × Members)
base_of head ms = base_from head.bases head ms
