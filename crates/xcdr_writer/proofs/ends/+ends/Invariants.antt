use Rattle.std.proofs.Common.{◌≡◌, drop, map, min}
use Rattle.std.specs.Option.{option_map}
use Rattle.xt_shapes.specs.declared.leaves.Order.TheVariants.{Little}
use Rattle.type_trees.specs.Bridge.{type_shape, members_shape, cases_shape}
use Rattle.type_trees.specs.View.{val, pair_val, slots_val}
use Rattle.value_writer.specs.Places.{end_of}
use Rattle.value_writer.specs.Slots.{slot_of}
use Rattle.xcdr_writer.specs.Parts.{members_of, pieces_of, case_of, items_fixed, entries_fixed}
use Rattle.xcdr_writer.proofs.ends.+ends.Given as goal

abbrev pub invariant-end_of_case-loop-case : goal.invariant-end_of_case-loop-case
invariant-end_of_case-loop-case l =
    let slot = slot_of (option_map (λ v. val v.now) l.body) in
    case_of l.rep Little (cases_shape (drop l.case-index l.cases)) l.id slot ≡ case_of l.rep Little (cases_shape l.cases) l.id slot

abbrev pub invariant-end_of_each-loop-value : goal.invariant-end_of_each-loop-value
invariant-end_of_each-loop-value l =
    (end_of (items_fixed l.rep Little (type_shape l.ty) (map val (drop l.value-index l.values))) l.end ≡ end_of (items_fixed l.rep Little (type_shape l.ty) (map val l.values)) l.place) × (min 4294967296 l.end ≡ l.end)

abbrev pub invariant-end_of_entries-loop-entry : goal.invariant-end_of_entries-loop-entry
invariant-end_of_entries-loop-entry l =
    let key = type_shape l.kind.key.ty in
    let value = type_shape l.kind.value.ty in
    (end_of (entries_fixed l.rep Little key value (map pair_val (drop l.entry-index l.entries))) l.end ≡ end_of (entries_fixed l.rep Little key value (map pair_val l.entries)) l.place) × (min 4294967296 l.end ≡ l.end)

abbrev pub invariant-end_of_members-loop-at : goal.invariant-end_of_members-loop-at
invariant-end_of_members-loop-at l =
    (end_of (members_of l.rep Little (members_shape (drop l.at l.members)) (slots_val (drop l.at l.slots))) l.end ≡ end_of (members_of l.rep Little (members_shape l.members) (slots_val l.slots)) l.place) × (min 4294967296 l.end ≡ l.end)

abbrev pub invariant-end_of_pieces-loop-at : goal.invariant-end_of_pieces-loop-at
invariant-end_of_pieces-loop-at l =
    (end_of (pieces_of l.rep Little (members_shape (drop l.at l.members)) (slots_val (drop l.at l.slots))) l.end ≡ end_of (pieces_of l.rep Little (members_shape l.members) (slots_val l.slots)) l.place) × (min 4294967296 l.end ≡ l.end)
