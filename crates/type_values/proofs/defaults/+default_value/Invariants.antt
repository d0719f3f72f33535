use Rattle.std.proofs.Common.{◌≡◌, drop, take, map, replicate}
use Rattle.xt_shapes.specs.Defaults.{default_of, default_union}
use Rattle.type_trees.specs.Bridge.{type_shape, cases_shape}
use Rattle.type_trees.specs.View.{val, body_val}
use Rattle.type_values.proofs.DefaultSteps.{slot_default}
use Rattle.type_values.proofs.defaults.+default_value.Given as goal

abbrev pub invariant-default_slots-loop-member : goal.invariant-default_slots-loop-member
invariant-default_slots-loop-member l = map body_val l.slots ≡ map slot_default (take l.member-index l.members)

abbrev pub invariant-default_elements-loop : goal.invariant-default_elements-loop
invariant-default_elements-loop l = map val l.values ≡ replicate l.counter (default_of (type_shape l.array.elem.ty))

abbrev pub invariant-default_union-loop-case : goal.invariant-default_union-loop-case
invariant-default_union-loop-case l = default_union (cases_shape (drop l.case-index l.cases)) ≡ default_union (cases_shape l.cases)
