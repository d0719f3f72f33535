use Rattle.std.proofs.Common.{◌≡◌, ◌++◌, drop, map, false}
use Rattle.xt_shapes.specs.Vals.{vals_of, pairs_of, slots_of}
use Rattle.type_trees.specs.View.{val, body_val, pair_val}
use Rattle.packed_json.specs.Plans.{meaning, part, vals_text, vals_fit, pairs_text, pairs_fit, parts_text, parts_fit, closing}
use Rattle.packed_json.proofs.trees.+trees.Given as goal

-- what is there and what is still to come is the whole
abbrev pub invariant-tree_items-loop-value : goal.invariant-tree_items-loop-value
invariant-tree_items-loop-value l =
    let m = meaning l.plan in
    (l.out ++ vals_text m.text l.is_later (vals_of (map val (drop l.value-index l.values))) ≡ l.initial.out ++ vals_text m.text false (vals_of (map val l.values)))
    × (vals_fit m.fits (vals_of (map val (drop l.value-index l.values))) ≡ vals_fit m.fits (vals_of (map val l.values)))

abbrev pub invariant-tree_pairs-loop-pair : goal.invariant-tree_pairs-loop-pair
invariant-tree_pairs-loop-pair l =
    let k = meaning l.plan.key in
    let v = meaning l.plan.value in
    (l.out ++ pairs_text k.text v.text l.is_later (pairs_of (map pair_val (drop l.pair-index l.pairs))) ≡ l.initial.out ++ pairs_text k.text v.text false (pairs_of (map pair_val l.pairs)))
    × (pairs_fit k.fits v.fits (pairs_of (map pair_val (drop l.pair-index l.pairs))) ≡ pairs_fit k.fits v.fits (pairs_of (map pair_val l.pairs)))

abbrev pub invariant-tree_members-loop-member : goal.invariant-tree_members-loop-member
invariant-tree_members-loop-member l =
    let ss = slots_of (map body_val l.slots) in
    (l.out ++ parts_text (map part (drop l.member-index l.members)) l.is_later ss closing ≡ l.initial.out ++ parts_text (map part l.members) false ss closing)
    × (parts_fit (map part (drop l.member-index l.members)) ss ≡ parts_fit (map part l.members) ss)
