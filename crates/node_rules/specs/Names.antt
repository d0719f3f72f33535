-- Names (DDS-XTypes 1.3, annex B: MemberName and QualifiedTypeName; that names are IDL's identifiers of 1 to 255 octets is this
-- profile's own).
use Rattle.std.specs.Prelude.{ℕ, Bool, true, false, cond, ◌&&◌, ◌||◌, ◌==◌, nat_le, nat_lt, List, [], ◌∷◌, length, Option, Some, None}
use Rattle.xt_shapes.specs.Lists.{all}
use Rattle.type_trees.specs.declared.types.Name.{Name}

-- an ASCII letter
abbrev pub is_letter : ℕ → Bool
is_letter o = (nat_le 65 o && nat_le o 90) || (nat_le 97 o && nat_le o 122)

-- an ASCII letter, a digit or `_`
abbrev pub is_word : ℕ → Bool
is_word o = is_letter o || (nat_le 48 o && nat_le o 57) || (o == 95)

-- a letter, then letters, digits and `_`
abbrev pub is_identifier : List ℕ → Bool
is_identifier [] = false
is_identifier (o ∷ os) = is_letter o && all is_word os

-- Identifiers joined by `::`.
abbrev mutual
  -- an identifier begins
  pub is_scoped : List ℕ → Bool
  is_scoped [] = false
  is_scoped (o ∷ os) = is_letter o && goes_on os

  -- an identifier goes on, or ends with the name, or `::` and a further identifier follow
  pub goes_on : List ℕ → Bool
  goes_on [] = true
  goes_on (o ∷ os) = cond (is_word o) (goes_on os) ((o == 58) && is_joined os)

  -- the second colon, and then an identifier
  pub is_joined : List ℕ → Bool
  is_joined [] = false
  is_joined (o ∷ os) = (o == 58) && is_scoped os

-- the name of a member, case, literal or flag; a hashed one is a number of 32 bits
abbrev pub name_fits : Name → Bool
name_fits (Name.Full text) = nat_le (length text) 255 && is_identifier text
name_fits (Name.Hashed hash) = nat_lt hash 4294967296

-- the name of a type or of a base, with its scopes; a type of a minimal object has none
abbrev pub scope_fits : Option (List ℕ) → Bool
scope_fits None = true
scope_fits (Some text) = nat_le (length text) 255 && is_scoped text
