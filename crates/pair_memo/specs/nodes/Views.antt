-- What the program's nodes, members and cases stand for (this profile's own).
use Rattle.std.specs.Prelude.{List, [], ◌∷◌, map, Bool, true, ◌&&◌}
use Rattle.node_judge.specs.Bare as without
use Rattle.node_judge.specs.Objects.{literal_in, flag_in}
use Rattle.xt_shapes.specs.Shape.{Head, CaseHead, Shape, prim, str, enumeration, bitmask, sequence, array, map_of, structure, union, Members, Cases}
use Rattle.object_formats.specs.Objects.{Identifier}
use Rattle.object_formats.specs.View.{identifier, member, case}
use Rattle.type_object.specs.Pools.{Texts}
use Rattle.pair_memo.specs.declared.nodes.parts.Part.{Part}
use Rattle.pair_memo.specs.declared.nodes.parts.Arm.{Arm}
use Rattle.pair_memo.specs.declared.nodes.nodes.Node.{Node}
use Rattle.pair_memo.specs.declared.nodes.nodes.Node.TheVariants as n
use Rattle.pair_memo.specs.nodes.Seen as seen
use Rattle.pair_memo.specs.nodes.Seen.{See, members_in, cases_in, parts_pass, arms_pass, shape_in, is_seen, all_parts, arm_in, has_bases}

abbrev pub part_view : Part → seen.Part
part_view p = (record { id = p.id; hash = p.hash; tc = p.tc; optional = p.optional; must_understand = p.must_understand; key = p.key }, identifier p.ty.now)

abbrev pub arm_view : Arm → seen.Arm
arm_view a = (record { id = a.id; hash = a.hash; tc = a.tc; labels = a.labels.now; is_default = a.is_default }, identifier a.ty.now)

-- the members of some parts, seen in some way
abbrev pub parts_in : See → List Part → Members
parts_in see ps = members_in see (map part_view ps)

abbrev pub arms_in : See → List Arm → Cases
arms_in see cs = cases_in see (map arm_view cs)

-- the same without their types
abbrev pub part_head : Part → Head
part_head p = (part_view p).0

abbrev pub arm_head : Arm → CaseHead
arm_head a = (arm_view a).0

abbrev pub bare : List Part → Members
bare ps = without.bare (map part_head ps)

abbrev pub bare_cases : List Arm → Cases
bare_cases cs = without.bare_cases (map arm_head cs)

abbrev pub parts_seen : Texts → List Part → Bool
parts_seen pool ps = parts_pass (λ t. is_seen pool t) (map part_view ps)

abbrev pub arms_seen : Texts → List Arm → Bool
arms_seen pool cs = arms_pass (λ t. is_seen pool t) (map arm_view cs)

abbrev pub node_shape : Texts → Node → Shape
node_shape pool (n.Prim p) = prim p
node_shape pool (n.Str bound) = str bound
node_shape pool (n.Enum ext bits literals) = enumeration ext bits (map literal_in literals.now)
node_shape pool (n.Mask bits flags) = bitmask bits (map flag_in flags.now)
node_shape pool (n.Seq bound tc element) = sequence bound tc (shape_in pool (identifier element.now))
node_shape pool (n.Array dims tc element) = array dims.now tc (shape_in pool (identifier element.now))
node_shape pool (n.Map bound key_tc key tc value) = map_of bound key_tc (shape_in pool (identifier key.now)) tc (shape_in pool (identifier value.now))
node_shape pool (n.Struct ext base own) = structure ext (members_in (λ t. shape_in pool t) (all_parts pool (identifier base.now) (map member own.now)))
node_shape pool (n.Union ext key disc cases) = union ext key (shape_in pool (identifier disc.now)) (cases_in (λ t. shape_in pool t) (map arm_in (map case cases.now)))

-- whether all identifiers in a node can be followed
abbrev pub node_seen : Texts → Node → Bool
node_seen pool (n.Prim p) = true
node_seen pool (n.Str bound) = true
node_seen pool (n.Enum ext bits literals) = true
node_seen pool (n.Mask bits flags) = true
node_seen pool (n.Seq bound tc element) = is_seen pool (identifier element.now)
node_seen pool (n.Array dims tc element) = is_seen pool (identifier element.now)
node_seen pool (n.Map bound key_tc key tc value) = is_seen pool (identifier key.now) && is_seen pool (identifier value.now)
node_seen pool (n.Struct ext base own) = has_bases 15 pool (identifier base.now) && parts_pass (λ t. is_seen pool t) (all_parts pool (identifier base.now) (map member own.now))
node_seen pool (n.Union ext key disc cases) = is_seen pool (identifier disc.now) && arms_pass (λ t. is_seen pool t) (map arm_in (map case cases.now))
