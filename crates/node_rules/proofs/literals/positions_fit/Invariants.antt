use Rattle.std.proofs.Common.{◌≡◌, drop, map}
use Rattle.type_trees.specs.Bridge.{flag_shape}
use Rattle.xt_shapes.specs.Lists.{all}
use Rattle.node_rules.specs.Rules.{position_fits}
use Rattle.node_rules.proofs.literals.positions_fit.Given as goal

abbrev pub invariant-loop-flag : goal.invariant-loop-flag
invariant-loop-flag l =
    all (λ x. position_fits l.bits x.position) (map flag_shape (drop l.flag-index l.flags)) ≡ all (λ x. position_fits l.bits x.position) (map flag_shape l.flags)
