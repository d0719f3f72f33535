use Rattle.std.proofs.Common.{◌≡◌, ◌&&◌, drop, length, map}
use Rattle.xt_shapes.specs.Lists.{all}
use Rattle.xt_shapes.specs.Vals.{Val}
use Rattle.xt_shapes.specs.Typing.{has_type, have_types, case_type}
use Rattle.type_trees.specs.Bridge.{type_shape, members_shape, cases_shape}
use Rattle.type_trees.specs.View.{val, pair_val, slots_val}
use Rattle.type_values.proofs.typed.+has_type.Given as goal

abbrev pub invariant-all_have_type-loop-value : goal.invariant-all_have_type-loop-value
invariant-all_have_type-loop-value l =
    all (λ v. has_type (type_shape l.ty) v) (map val (drop l.value-index l.values)) ≡ all (λ v. has_type (type_shape l.ty) v) (map val l.values)

abbrev pub invariant-all_pairs_have_types-loop-pair : goal.invariant-all_pairs_have_types-loop-pair
invariant-all_pairs_have_types-loop-pair l =
    let fits = λ (e : Val × Val). has_type (type_shape l.kind.key.ty) e.0 && has_type (type_shape l.kind.value.ty) e.1 in
    all fits (map pair_val (drop l.pair-index l.pairs)) ≡ all fits (map pair_val l.pairs)

abbrev pub invariant-slots_have_types-loop-at : goal.invariant-slots_have_types-loop-at
invariant-slots_have_types-loop-at l =
    (have_types (members_shape (drop l.at l.members)) (slots_val (drop l.at l.slots)) ≡ have_types (members_shape l.members) (slots_val l.slots)) × (length l.members ≡ length l.slots)

abbrev pub invariant-case_has_type-loop-case : goal.invariant-case_has_type-loop-case
invariant-case_has_type-loop-case l =
    case_type (cases_shape (drop l.case-index l.cases)) l.id (val l.value) ≡ case_type (cases_shape l.cases) l.id (val l.value)
