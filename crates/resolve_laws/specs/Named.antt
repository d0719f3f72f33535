-- Types that have all their names, and whose numbers are those of the program's types (this profile's own).
use Rattle.std.specs.Prelude.{ℕ, ◌^◌, ℤ, Bool, true, false, ◌&&◌, nat_lt}
use Rattle.xt_shapes.specs.Lists.{all}
use Rattle.xt_shapes.specs.Typing.{in_range}
use Rattle.type_trees.specs.declared.types.Name.{Name}
use Rattle.type_trees.specs.Trees.{Tree, prim, str, enumeration, bitmask, sequence, array, map_of, structure, union, alias, Members, no_members, member, Cases, no_cases, one_case}
use Rattle.object_formats.specs.Tables.{has_name}

-- a name in full, and no hash
abbrev pub is_full : Name → Bool
is_full (Name.Full text) = true
is_full (Name.Hashed hash) = false

abbrev mutual
  -- Each enumeration, bitmask, structure, union, alias and base in a type has a name, and each name of a member, case, literal or flag is full.
  pub is_named : Tree → Bool
  is_named (prim p) = true
  is_named (str bound) = true
  is_named (enumeration name ext bits literals) = has_name name && all (λ l. is_full l.name) literals
  is_named (bitmask name bits flags) = has_name name && all (λ f. is_full f.name) flags
  is_named (sequence bound tc t) = is_named t
  is_named (array dims tc t) = is_named t
  is_named (map_of bound kc k vc v) = is_named k && is_named v
  is_named (structure h ms) = (has_name h.name && all (λ b. has_name b.name) h.bases) && are_named ms
  is_named (union h disc cs) = has_name h.name && (is_named disc && cases_named cs)
  is_named (alias name t) = has_name name && is_named t

  -- of each member
  pub are_named : Members → Bool
  are_named no_members = true
  are_named (member h t ms) = (is_full h.name && is_named t) && are_named ms

  -- of each case
  pub cases_named : Cases → Bool
  cases_named no_cases = true
  cases_named (one_case h t cs) = (is_full h.name && is_named t) && cases_named cs

-- a number that 32 bits hold
abbrev pub is_word : ℕ → Bool
is_word n = nat_lt n (2 ^ 32)

-- a number that 32 bits with a sign hold
abbrev pub is_signed_word : ℤ → Bool
is_signed_word value = in_range 4 true value

abbrev mutual
  -- Each bound and dimension in a type has 32 bits, and each label and each value of a literal has 32 bits with a sign: so it is of each type
  -- that a program has.
  pub numbers_fit : Tree → Bool
  numbers_fit (prim p) = true
  numbers_fit (str bound) = is_word bound
  numbers_fit (enumeration name ext bits literals) = all (λ l. is_signed_word l.value) literals
  numbers_fit (bitmask name bits flags) = true
  numbers_fit (sequence bound tc t) = is_word bound && numbers_fit t
  numbers_fit (array dims tc t) = all is_word dims && numbers_fit t
  numbers_fit (map_of bound kc k vc v) = is_word bound && (numbers_fit k && numbers_fit v)
  numbers_fit (structure h ms) = members_fit ms
  numbers_fit (union h disc cs) = numbers_fit disc && cases_fit cs
  numbers_fit (alias name t) = numbers_fit t

  -- of each member
  pub members_fit : Members → Bool
  members_fit no_members = true
  members_fit (member h t ms) = numbers_fit t && members_fit ms

  -- of each case
  pub cases_fit : Cases → Bool
  cases_fit no_cases = true
  cases_fit (one_case h t cs) = (all is_signed_word h.labels && numbers_fit t) && cases_fit cs
