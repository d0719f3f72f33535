use Rattle.std.proofs.Common.{◌≡◌, drop, map}
use Rattle.std.specs.Option.{option_map}
use Rattle.type_trees.specs.Bridge.{type_shape, members_shape, cases_shape}
use Rattle.type_trees.specs.View.{val, pair_val, slots_val}
use Rattle.xt_wire.proofs.OfWriter.Puts.{Going}
use Rattle.value_writer.specs.Slots.{slot_of}
use Rattle.xcdr_writer.specs.Parts.{members_of, pieces_of, case_of, items_fixed, entries_fixed}
use Rattle.xcdr_writer.proofs.encoding.+encode.Given as goal

abbrev pub invariant-encode_each-loop-value : goal.invariant-encode_each-loop-value
invariant-encode_each-loop-value g l =
    let o = l.initial.out.order in
    let shape = type_shape l.ty in
    Going 4294967296 (items_fixed l.rep o shape (map val l.values)) (items_fixed l.rep o shape (map val (drop l.value-index l.values))) l.initial.out l.out

abbrev pub invariant-encode_entries-loop-entry : goal.invariant-encode_entries-loop-entry
invariant-encode_entries-loop-entry g l =
    let o = l.initial.out.order in
    let key = type_shape l.kind.key.ty in
    let value = type_shape l.kind.value.ty in
    Going 4294967296 (entries_fixed l.rep o key value (map pair_val l.entries)) (entries_fixed l.rep o key value (map pair_val (drop l.entry-index l.entries))) l.initial.out l.out

abbrev pub invariant-encode_members-loop-at : goal.invariant-encode_members-loop-at
invariant-encode_members-loop-at g l =
    let o = l.initial.out.order in
    Going 4294967296 (members_of l.rep o (members_shape l.members) (slots_val l.slots)) (members_of l.rep o (members_shape (drop l.at l.members)) (slots_val (drop l.at l.slots))) l.initial.out l.out

abbrev pub invariant-encode_pieces-loop-at : goal.invariant-encode_pieces-loop-at
invariant-encode_pieces-loop-at g l =
    let o = l.initial.out.order in
    Going 4294967296 (pieces_of l.rep o (members_shape l.members) (slots_val l.slots)) (pieces_of l.rep o (members_shape (drop l.at l.members)) (slots_val (drop l.at l.slots))) l.initial.out l.out

abbrev pub invariant-encode_case-loop-case : goal.invariant-encode_case-loop-case
invariant-encode_case-loop-case g l =
    let o = l.initial.out.order in
    let slot = slot_of (option_map (λ v. val v.now) l.body) in
    (case_of l.rep o (cases_shape (drop l.case-index l.cases)) l.id slot ≡ case_of l.rep o (cases_shape l.cases) l.id slot) × (l.out ≡ l.initial.out)
