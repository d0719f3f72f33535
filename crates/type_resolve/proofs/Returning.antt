-- Types that come back from their objects.
use Rattle.std.specs.Prelude.{ℕ, ◌≤◌, List, [], ◌∷◌, length}
use Rattle.type_trees.specs.declared.types.Base.{Base}
use Rattle.type_trees.specs.declared.types.Flag.{Flag}
use Rattle.type_trees.specs.Trees.{Tree, prim, str, enumeration, bitmask, sequence, array, map_of, structure, union, alias, Members, no_members, member, Cases, no_cases, one_case}
use Rattle.type_resolve.specs.Objects.{member_count}

-- counts that rise to below the end (V18)
abbrev pub Rises : ℕ → List Base → ℕ → Type 0
Rises before [] end = Unit {0}
Rises before (b ∷ bs) end = (before ≤ b.count) × (b.count ≤ end) × Rises b.count bs end

abbrev pub EachPosition : List Flag → Type 0
EachPosition [] = Unit {0}
EachPosition (f ∷ fs) = (f.position ≤ 255) × EachPosition fs

abbrev mutual
  -- what a type holds in one octet is in one octet, and its bases are those of V18
  pub ComesBack : Tree → Type 0
  ComesBack (prim p) = Unit {0}
  ComesBack (str bound) = Unit {0}
  ComesBack (enumeration name ext bits literals) = bits ≤ 255
  ComesBack (bitmask name bits flags) = (bits ≤ 255) × EachPosition flags
  ComesBack (sequence bound tc t) = ComesBack t
  ComesBack (array dims tc t) = ComesBack t
  ComesBack (map_of bound kc k vc v) = ComesBack k × ComesBack v
  ComesBack (structure h ms) = MembersComeBack ms × (length h.bases ≤ 15) × Rises 0 h.bases (member_count ms)
  ComesBack (union h disc cs) = ComesBack disc × CasesComeBack cs
  ComesBack (alias name t) = ComesBack t

  pub MembersComeBack : Members → Type 0
  MembersComeBack no_members = Unit {0}
  MembersComeBack (member h t ms) = ComesBack t × MembersComeBack ms

  pub CasesComeBack : Cases → Type 0
  CasesComeBack no_cases = Unit {0}
  CasesComeBack (one_case h t cs) = ComesBack t × CasesComeBack cs
