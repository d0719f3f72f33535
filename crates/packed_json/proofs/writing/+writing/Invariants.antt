use Rattle.std.proofs.Common.{◌≡◌, ◌++◌, drop, map, false}
use Rattle.xt_shapes.specs.Vals.{vals_of, slots_of}
use Rattle.packed_reader.specs.View.{packed_val, packed_slot}
use Rattle.packed_json.specs.Plans.{meaning, part, vals_text, vals_fit, parts_text, parts_fit, closing}
use Rattle.packed_json.proofs.writing.+writing.Given as goal

-- what is there and what is still to come is the whole
abbrev pub invariant-write_items-loop-value : goal.invariant-write_items-loop-value
invariant-write_items-loop-value l =
    let m = meaning l.plan in
    (l.out ++ vals_text m.text l.is_later (vals_of (map packed_val (drop l.value-index l.values))) ≡ l.initial.out ++ vals_text m.text false (vals_of (map packed_val l.values)))
    × (vals_fit m.fits (vals_of (map packed_val (drop l.value-index l.values))) ≡ vals_fit m.fits (vals_of (map packed_val l.values)))

abbrev pub invariant-write_members-loop-member : goal.invariant-write_members-loop-member
invariant-write_members-loop-member l =
    let ss = slots_of (map packed_slot l.slots) in
    (l.out ++ parts_text (map part (drop l.member-index l.members)) l.is_later ss closing ≡ l.initial.out ++ parts_text (map part l.members) false ss closing)
    × (parts_fit (map part (drop l.member-index l.members)) ss ≡ parts_fit (map part l.members) ss)
