use Rattle.std.proofs.Common.{◌≡◌, drop, map}
use Rattle.xcdr_model.specs.Rules.{has_value}
use Rattle.node_judge.proofs.literals.has_value.Given as goal

abbrev pub invariant-loop-literal : goal.invariant-loop-literal
invariant-loop-literal g l = has_value (map g.T.LiteralView.literal_of (drop l.literal-index l.literals)) l.value ≡ has_value (map g.T.LiteralView.literal_of l.literals) l.value
