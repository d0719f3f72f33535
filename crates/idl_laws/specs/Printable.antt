-- Lists of types of which the printed text declares them again (the layout of a printed text is this profile's own).
use Rattle.std.specs.Prelude.{◌≡◌, ℕ, ◌≤◌, ℤ, pos, Bool, true, false, not, ◌&&◌, if◌then◌else◌, ◌==◌, List, [], ◌∷◌, ◌++◌, slice_get, Option, Some, None}
use Rattle.std.specs.Str.{bytes_eq}
use Rattle.xt_shapes.specs.declared.leaves.Primitive.{Primitive}
use Rattle.xt_shapes.specs.declared.leaves.Try.{Try}
use Rattle.xt_shapes.specs.Lists.{all}
use Rattle.xt_shapes.specs.Typing.{in_range}
use Rattle.type_trees.specs.declared.types.Name.{Name}
use Rattle.type_trees.specs.declared.types.Name.TheVariants as name_of
use Rattle.type_trees.specs.declared.types.Literal.{Literal}
use Rattle.type_trees.specs.Bases.{base_of}
use Rattle.type_trees.specs.Trees.{Tree, prim, str, sequence, map_of, array, enumeration, bitmask, structure, union, alias, StructHead, Members, no_members, member, Cases, no_cases, one_case}
use Rattle.type_rules.specs.Valid.{type_fault}
use Rattle.idl_tokens.specs.Classes.{Text, is_printable}
use Rattle.idl_input.specs.Words.{is_keyword}
use Rattle.idl_types.specs.State.{Declared}
use Rattle.idl_definitions.specs.Unions.{behind}
use Rattle.idl_printer.specs.Parts.{members_behind}
use Rattle.idl_printer.specs.Lines.{last_base, count_of}

-- ---- names

-- a part before others, unless it is empty: two colons have nothing between them
abbrev pub with_part : Text → List Text → List Text
with_part [] parts = parts
with_part (b ∷ z) parts = (b ∷ z) ∷ parts

-- the parts from a place on, where an identifier was begun
abbrev pub parts_from : Text → Text → List Text
parts_from part [] = with_part part []
parts_from part (b ∷ z) = if b == 58 then with_part part (parts_from [] z) else parts_from (part ++ b ∷ []) z

-- the identifiers of a full name, which stand between colons
abbrev pub parts : Text → List Text
parts full = parts_from [] full

-- no identifier of a full name is a keyword
abbrev pub has_no_keyword : Text → Bool
has_no_keyword full = all (λ s. not (is_keyword s)) (parts full)

-- a name in full that is no keyword
abbrev pub is_spelled : Name → Bool
is_spelled (name_of.Full s) = not (is_keyword s)
is_spelled (name_of.Hashed h) = false

-- the second list begins with the first
abbrev pub begins_with : List Text → List Text → Bool
begins_with [] names = true
begins_with (s ∷ ss) [] = false
begins_with (s ∷ ss) (n ∷ ns) = bytes_eq s n && begins_with ss ns

-- neither name is the other, or a module of the other
abbrev pub are_apart : Text → Text → Bool
are_apart a b = not (begins_with (parts a) (parts b)) && not (begins_with (parts b) (parts a))

-- the names of a list are distinct, and none is a module of another
abbrev pub names_apart : Declared → Bool
names_apart [] = true
names_apart (d ∷ ds) = all (λ e. are_apart d.0 e.0) ds && names_apart ds

-- ---- types where they are used

-- a type of that name and content stands in the list
abbrev pub Stands : Declared → Text → Tree → Type 0
Stands known full t = (at : ℕ) × (slice_get known at ≡ Some (full, t))

-- the type has a name, and stands in the list under it
abbrev pub IsNamed : Declared → Option Text → Tree → Type 0
IsNamed known None t = ⊥
IsNamed known (Some full) t = Stands known full t

-- bounds and dimensions have 32 bits
abbrev pub IsBound : ℕ → Type 0
IsBound n = n ≤ 4294967295

-- A type that can be written where it is used. Each type with a name stands in the list before.
abbrev pub IsUse : Declared → Tree → Type 0
IsUse known (prim p) = Unit {0}
IsUse known (str n) = IsBound n
IsUse known (sequence n tc t) = IsBound n × IsUse known t
IsUse known (map_of n kc k vc v) = IsBound n × (IsUse known k × IsUse known v)
IsUse known (array ds tc t) = ⊥
IsUse known (enumeration name ext bits ls) = IsNamed known name (enumeration name ext bits ls)
IsUse known (bitmask name bits fs) = IsNamed known name (bitmask name bits fs)
IsUse known (structure head ms) = IsNamed known head.name (structure head ms)
IsUse known (union head disc cs) = IsNamed known head.name (union head disc cs)
IsUse known (alias name t) = IsNamed known name (alias name t)

abbrev pub EachBound : List ℕ → Type 0
EachBound [] = Unit {0}
EachBound (d ∷ ds) = IsBound d × EachBound ds

-- the type of a member, case or alias, which may have dimensions
abbrev pub IsTyped : Declared → Tree → Type 0
IsTyped known (array ds tc t) = (tc ≡ Try.Discard) × (EachBound ds × IsUse known t)
IsTyped known (prim p) = IsUse known (prim p)
IsTyped known (str n) = IsUse known (str n)
IsTyped known (sequence n tc t) = IsUse known (sequence n tc t)
IsTyped known (map_of n kc k vc v) = IsUse known (map_of n kc k vc v)
IsTyped known (enumeration name ext bits ls) = IsUse known (enumeration name ext bits ls)
IsTyped known (bitmask name bits fs) = IsUse known (bitmask name bits fs)
IsTyped known (structure head ms) = IsUse known (structure head ms)
IsTyped known (union head disc cs) = IsUse known (union head disc cs)
IsTyped known (alias name t) = IsUse known (alias name t)

-- ---- parts of definitions

-- each member's name is written as it is, and its type can be
abbrev pub EachMember : Declared → Members → Type 0
EachMember known no_members = Unit {0}
EachMember known (member m t ms) = (is_spelled m.name ≡ true) × (IsTyped known t × EachMember known ms)

-- a number of 32 bits with a sign
abbrev pub is_number : ℤ → Bool
is_number n = in_range 4 true n

-- printable ASCII other than the quote and the backslash
abbrev pub is_character : ℤ → Bool
is_character (pos n) = is_printable n && (not (n == 39) && not (n == 92))
is_character _ = false

-- a literal that can be written
abbrev pub literal_fits : Literal → Bool
literal_fits l = is_spelled l.name && is_number l.value

-- A label can be written in the form of the discriminator's type, behind aliases. One of an enumeration is a literal's name.
abbrev pub label_fits : Tree → ℤ → Bool
label_fits (prim Primitive.Char8) n = is_character n
label_fits (enumeration name ext bits ls) n = all literal_fits ls
label_fits _ n = is_number n

-- the same of each case, and its labels can be written
abbrev pub EachCase : Declared → Tree → Cases → Type 0
EachCase known disc no_cases = Unit {0}
EachCase known disc (one_case c t cs) = (is_spelled c.name ≡ true) × ((all (label_fits disc) c.labels ≡ true) × (IsTyped known t × EachCase known disc cs))

-- a structure's innermost base stands in the list
abbrev pub IsOnBase : Declared → Option (StructHead × Members) → Type 0
IsOnBase known None = Unit {0}
IsOnBase known (Some b) = IsNamed known b.0.name (structure b.0 b.1)

-- the members behind those of the base
abbrev pub own_members : StructHead → Members → Members
own_members head ms = members_behind (count_of (last_base head.bases)) ms

-- ---- definitions

-- A definition of that full name. The types in it and its base stand in the list before.
abbrev pub IsDefinition : Declared → Text → Tree → Type 0
IsDefinition known full (structure head ms) = (head.name ≡ Some full) × (IsOnBase known (base_of head ms) × EachMember known (own_members head ms))
IsDefinition known full (union head disc cs) = (head.name ≡ Some full) × (IsUse known disc × EachCase known (behind disc) cs)
IsDefinition known full (enumeration name ext bits ls) = (name ≡ Some full) × (all literal_fits ls ≡ true)
IsDefinition known full (bitmask name bits fs) = (name ≡ Some full) × (all (λ f. is_spelled f.name) fs ≡ true)
IsDefinition known full (alias name t) = (name ≡ Some full) × IsTyped known t
IsDefinition known full (prim p) = ⊥
IsDefinition known full (str n) = ⊥
IsDefinition known full (sequence n tc t) = ⊥
IsDefinition known full (array ds tc t) = ⊥
IsDefinition known full (map_of n kc k vc v) = ⊥

-- each is a valid definition behind those before it
abbrev pub AreDefinitions : Declared → Declared → Type 0
AreDefinitions known [] = Unit {0}
AreDefinitions known (d ∷ ds) = (type_fault d.1 ≡ None) × ((has_no_keyword d.0 ≡ true) × (IsDefinition known d.0 d.1 × AreDefinitions (known ++ d ∷ []) ds))

-- a list that is read again from its printed text
pub record IsPrintable (ds : Declared) : Type 0 where
  pub apart : names_apart ds ≡ true
  pub defined : AreDefinitions [] ds
