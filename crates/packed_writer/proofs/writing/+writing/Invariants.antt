use Rattle.std.proofs.Common.{◌≡◌, drop, map}
use Rattle.xt_shapes.specs.declared.leaves.Order.TheVariants.{Little}
use Rattle.xt_shapes.specs.Vals.{present, slots_of}
use Rattle.type_trees.specs.Bridge.{type_shape, members_shape, cases_shape}
use Rattle.packed_reader.specs.View.{packed_val, packed_slot}
use Rattle.xcdr_writer.specs.Parts.{members_of, pieces_of, case_of, items_fixed}
use Rattle.packed_writer.proofs.Appending.{Going}
use Rattle.packed_writer.proofs.writing.+writing.Given as goal

abbrev pub invariant-write_each-loop-value : goal.invariant-write_each-loop-value
invariant-write_each-loop-value l =
    let t = type_shape l.ty in
    Going (items_fixed l.rep Little t (map packed_val l.values)) (items_fixed l.rep Little t (map packed_val (drop l.value-index l.values))) l.initial.out l.out

abbrev pub invariant-write_members-loop-at : goal.invariant-write_members-loop-at
invariant-write_members-loop-at l = Going (members_of l.rep Little (members_shape l.members) (slots_of (map packed_slot l.slots))) (members_of l.rep Little (members_shape (drop l.at l.members)) (slots_of (map packed_slot (drop l.at l.slots)))) l.initial.out l.out

abbrev pub invariant-write_pieces-loop-at : goal.invariant-write_pieces-loop-at
invariant-write_pieces-loop-at l = Going (pieces_of l.rep Little (members_shape l.members) (slots_of (map packed_slot l.slots))) (pieces_of l.rep Little (members_shape (drop l.at l.members)) (slots_of (map packed_slot (drop l.at l.slots)))) l.initial.out l.out

abbrev pub invariant-write_case-loop-case : goal.invariant-write_case-loop-case
invariant-write_case-loop-case l =
    let s = present (packed_val l.value) in
    (case_of l.rep Little (cases_shape (drop l.case-index l.cases)) l.id s ≡ case_of l.rep Little (cases_shape l.cases) l.id s) × (l.out ≡ l.initial.out)
