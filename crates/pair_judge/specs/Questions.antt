-- A question asked of each pair in a pool, what the program's nodes and parts are under it, and the memo that goes with it (this profile's own).
use Rattle.std.specs.Prelude.{List, Bool, false, IsTrue, map}
use Rattle.xt_shapes.specs.declared.leaves.Ext.{Ext}
use Rattle.xt_shapes.specs.Lists.{all, is_some_and}
use Rattle.xt_shapes.specs.Select.{shape_at}
use Rattle.xt_shapes.specs.Shape.{Shape, structure, union, Members, Cases}
use Rattle.xcdr_model.specs.declared.verdict.Rule.TheVariants as rules
use Rattle.xcdr_model.specs.Failure.{First, rule, strong, failure, structure_rules, structure_ends, cases_failure}
use Rattle.xcdr_model.specs.Keys.{key_fit}
use Rattle.xcdr_model.specs.Rules.{label_sets}
use Rattle.object_formats.specs.declared.objects.ObjectCase.{ObjectCase}
use Rattle.object_formats.specs.declared.objects.ObjectMember.{ObjectMember}
use Rattle.object_formats.specs.declared.objects.TypeIdentifier.{TypeIdentifier}
use Rattle.object_formats.specs.View as view
use Rattle.pair_memo.specs.declared.nodes.nodes.Node.{Node}
use Rattle.pair_memo.specs.declared.nodes.parts.Arm.{Arm}
use Rattle.pair_memo.specs.declared.nodes.parts.Part.{Part}
use Rattle.pair_memo.specs.nodes.Seen.{shape_in, is_seen, all_parts, arm_in, members_in, cases_in, parts_pass, arms_pass}
use Rattle.pair_memo.specs.nodes.Views.{node_shape, node_seen, part_view, arm_view, parts_in, arms_in, parts_seen, arms_seen}
use Rattle.pair_memo.specs.Entries.{Entry}
use Rattle.pair_memo.specs.Memos.{IsMemo}
use Rattle.pair_judge.specs.Beside.{both_pass, pairs}
use Rattle.pair_judge.specs.declared.branches.Branches.{Branches}
use Rattle.pair_judge.specs.declared.question.Question.{Question}

-- the memo says of pairs what is so under the question
abbrev pub IsKept : Question → List Entry → Type 0
IsKept x es = IsMemo x.policy.now x.rep x.pool.now x.lefts.now x.rights.now es

-- ---- shapes in the pool

abbrev pub shape_of : Question → TypeIdentifier → Shape
shape_of x ty = shape_in x.pool.now (view.identifier ty)

abbrev pub shape_at_node : Question → Node → Shape
shape_at_node x node = node_shape x.pool.now node

abbrev pub part_shape : Question → Part → Shape
part_shape x p = shape_in x.pool.now (part_view p).1

abbrev pub arm_shape : Question → Arm → Shape
arm_shape x a = shape_in x.pool.now (arm_view a).1

abbrev pub part_shapes : Question → List Part → Members
part_shapes x ps = parts_in (λ t. shape_in x.pool.now t) ps

abbrev pub arm_shapes : Question → List Arm → Cases
arm_shapes x cs = arms_in (λ t. shape_in x.pool.now t) cs

abbrev pub structure_of : Question → Ext → TypeIdentifier → List ObjectMember → Shape
structure_of x ext base own = structure ext (members_in (λ t. shape_in x.pool.now t) (all_parts x.pool.now (view.identifier base) (map view.member own)))

abbrev pub union_of : Question → Ext → Bool → TypeIdentifier → List ObjectCase → Shape
union_of x ext key disc cases = union ext key (shape_of x disc) (cases_in (λ t. shape_in x.pool.now t) (map arm_in (map view.case cases)))

-- ---- what is seen in the pool

abbrev pub IsSeen : Question → TypeIdentifier → Type 0
IsSeen x ty = IsTrue (is_seen x.pool.now (view.identifier ty))

abbrev pub NodeSeen : Question → Node → Type 0
NodeSeen x node = IsTrue (node_seen x.pool.now node)

abbrev pub PartSeen : Question → Part → Type 0
PartSeen x p = IsTrue (is_seen x.pool.now (part_view p).1)

abbrev pub ArmSeen : Question → Arm → Type 0
ArmSeen x a = IsTrue (is_seen x.pool.now (arm_view a).1)

abbrev pub PartsSeen : Question → List Part → Type 0
PartsSeen x ps = IsTrue (parts_seen x.pool.now ps)

abbrev pub ArmsSeen : Question → List Arm → Type 0
ArmsSeen x cs = IsTrue (arms_seen x.pool.now cs)

abbrev pub BranchesSeen : Question → Branches → Type 0
BranchesSeen x b = IsTrue (all (both_pass (λ t. is_seen x.pool.now t)) (pairs b))

abbrev pub StructureSeen : Question → TypeIdentifier → List ObjectMember → Type 0
StructureSeen x base own = IsTrue (parts_pass (λ t. is_seen x.pool.now t) (all_parts x.pool.now (view.identifier base) (map view.member own)))

abbrev pub CasesSeen : Question → List ObjectCase → Type 0
CasesSeen x cases = IsTrue (arms_pass (λ t. is_seen x.pool.now t) (map arm_in (map view.case cases)))

-- ---- what fails under the question

abbrev pub failure_in : Question → Bool → Shape → Shape → First
failure_in x top t u = failure x.policy.now x.rep top t u

abbrev pub strong_in : Question → Shape → Shape → First
strong_in x t u = strong x.rep t u (failure_in x false t u)

abbrev pub structure_rules_in : Question → Bool → Ext → List Part → Ext → List Part → First
structure_rules_in x top e ps e2 qs = structure_rules x.policy.now top e (part_shapes x ps) e2 (part_shapes x qs) (structure_ends x.policy.now x.rep e (part_shapes x ps) (part_shapes x qs))

abbrev pub label_rules_in : Question → Ext → List Arm → List Arm → First
label_rules_in x e cs ds = rule rules.Labels (label_sets e (arm_shapes x cs) (arm_shapes x ds)) (cases_failure x.policy.now x.rep (arm_shapes x cs) (arm_shapes x ds))

-- a key member fits the other side's member of its id
abbrev pub fits_at : Question → Part → List Part → Bool
fits_at x p others = is_some_and (shape_at (part_shapes x others) p.id) (λ u. key_fit (part_shape x p) u)
