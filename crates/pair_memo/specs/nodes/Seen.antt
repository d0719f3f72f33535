-- The shape that an identifier stands for in a pool (DDS-XTypes 1.3, 7.3.4): that of its own object and of the identifiers in it, seen so
-- many levels deep. Where an identifier can't be followed it says nothing of worth; `is_seen` tells where all can be.
use Rattle.std.specs.Prelude.{ℕ, zero, suc, List, [], ◌∷◌, ◌++◌, map, Bool, true, false, ◌&&◌, Option, Some, None}
use Rattle.xt_shapes.specs.declared.leaves.Primitive.{Primitive}
use Rattle.xt_shapes.specs.Lists.{all}
use Rattle.xt_shapes.specs.Shape.{Head, CaseHead, Shape, prim, str, enumeration, bitmask, sequence, array, map_of, structure, union, Members, no_members, member, Cases, no_cases, one_case}
use Rattle.type_trees.specs.Bridge.{name_number}
use Rattle.node_judge.specs.Objects.{literal_in, flag_in}
use Rattle.object_formats.specs.Objects as o
use Rattle.object_formats.specs.Objects.{Identifier, MemberPart, CasePart, Object}
use Rattle.type_object.specs.Pools.{Texts, object_at}
use Rattle.object_walks.specs.Resolving.{bit, try_of, ext_of, in_octet}

-- ---- what an object says of its own parts

abbrev pub head_in : MemberPart → Head
head_in m = record { id = m.id; hash = name_number m.name; tc = try_of m.flags; optional = bit m.flags 8; must_understand = bit m.flags 16; key = bit m.flags 32 }

abbrev pub case_head_in : CasePart → CaseHead
case_head_in c = record { id = c.id; hash = name_number c.name; tc = try_of c.flags; labels = c.labels; is_default = bit c.flags 64 }

-- a member or case, with the identifier of its type
abbrev pub Part : Type 0
Part = Head × Identifier

abbrev pub Arm : Type 0
Arm = CaseHead × Identifier

abbrev pub part_in : MemberPart → Part
part_in m = (head_in m, m.ty)

abbrev pub arm_in : CasePart → Arm
arm_in c = (case_head_in c, c.ty)

-- ---- a structure's members: those of its bases in front of its own, up to so many bases

abbrev pub base_parts : (Identifier → List Part) → Option Object → List Part
base_parts own (Some (o.structure name flags base ms)) = own base ++ map part_in ms
base_parts own _ = []

abbrev pub base_test : (Identifier → Bool) → Option Object → Bool
base_test own (Some (o.structure name flags base ms)) = own base
base_test own _ = false

unfoldable pub inherited : ℕ → Texts → Identifier → List Part
inherited zero pool t = []
inherited (suc room) pool (o.hash id) = base_parts (λ t. inherited room pool t) (object_at id pool)
inherited (suc room) pool _ = []

unfoldable pub has_bases : ℕ → Texts → Identifier → Bool
has_bases room pool o.none = true
has_bases (suc room) pool (o.hash id) = base_test (λ t. has_bases room pool t) (object_at id pool)
has_bases _ pool _ = false

abbrev pub all_parts : Texts → Identifier → List MemberPart → List Part
all_parts pool base ms = inherited 15 pool base ++ map part_in ms

-- ---- one level

abbrev pub See : Type 0
See = Identifier → Shape

abbrev pub Test : Type 0
Test = Identifier → Bool

abbrev pub members_in : See → List Part → Members
members_in see [] = no_members
members_in see (m ∷ ms) = member m.0 (see m.1) (members_in see ms)

abbrev pub cases_in : See → List Arm → Cases
cases_in see [] = no_cases
cases_in see (c ∷ cs) = one_case c.0 (see c.1) (cases_in see cs)

abbrev pub parts_pass : Test → List Part → Bool
parts_pass test ms = all (λ m. test m.1) ms

abbrev pub arms_pass : Test → List Arm → Bool
arms_pass test cs = all (λ c. test c.1) cs

abbrev pub nothing : Shape
nothing = prim Primitive.Boolean

abbrev pub object_shape : Texts → See → Object → Shape
object_shape pool see (o.alias name t) = see t
object_shape pool see (o.enumeration name flags bits ls) = enumeration (ext_of flags) (in_octet bits) (map literal_in ls)
object_shape pool see (o.bitmask name bits fs) = bitmask (in_octet bits) (map flag_in fs)
object_shape pool see (o.structure name flags base ms) = structure (ext_of flags) (members_in see (all_parts pool base ms))
object_shape pool see (o.union name flags disc_flags disc cs) = union (ext_of flags) (bit disc_flags 32) (see disc) (cases_in see (map arm_in cs))

abbrev pub found_shape : Texts → See → Option Object → Shape
found_shape pool see None = nothing
found_shape pool see (Some x) = object_shape pool see x

abbrev pub level : Texts → See → Identifier → Shape
level pool see o.none = nothing
level pool see (o.prim p) = prim p
level pool see (o.str bound) = str bound
level pool see (o.sequence ek flags bound t) = sequence bound (try_of flags) (see t)
level pool see (o.array ek flags dims t) = array dims (try_of flags) (see t)
level pool see (o.map_of ek flags bound v key_flags k) = map_of bound (try_of key_flags) (see k) (try_of flags) (see v)
level pool see (o.hash id) = found_shape pool see (object_at id pool)

-- whether each identifier in one level passes
abbrev pub object_test : Texts → Test → Object → Bool
object_test pool test (o.alias name t) = test t
object_test pool test (o.enumeration name flags bits ls) = true
object_test pool test (o.bitmask name bits fs) = true
object_test pool test (o.structure name flags base ms) = has_bases 15 pool base && parts_pass test (all_parts pool base ms)
object_test pool test (o.union name flags disc_flags disc cs) = test disc && arms_pass test (map arm_in cs)

abbrev pub found_test : Texts → Test → Option Object → Bool
found_test pool test None = false
found_test pool test (Some x) = object_test pool test x

abbrev pub level_test : Texts → Test → Identifier → Bool
level_test pool test o.none = false
level_test pool test (o.prim p) = true
level_test pool test (o.str bound) = true
level_test pool test (o.sequence ek flags bound t) = test t
level_test pool test (o.array ek flags dims t) = test t
level_test pool test (o.map_of ek flags bound v key_flags k) = test k && test v
level_test pool test (o.hash id) = found_test pool test (object_at id pool)

-- ---- so many levels

unfoldable pub shape_within : ℕ → Texts → Identifier → Shape
shape_within zero pool t = nothing
shape_within (suc levels) pool t = level pool (λ u. shape_within levels pool u) t

unfoldable pub is_within : ℕ → Texts → Identifier → Bool
is_within zero pool t = false
is_within (suc levels) pool t = level_test pool (λ u. is_within levels pool u) t

-- no valid type is deeper than 16 levels

unfoldable pub shape_in : Texts → Identifier → Shape
shape_in pool t = shape_within 16 pool t

unfoldable pub is_seen : Texts → Identifier → Bool
is_seen pool t = is_within 16 pool t
