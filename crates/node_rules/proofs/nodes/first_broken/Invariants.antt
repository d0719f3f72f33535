use Rattle.std.proofs.Common.{◌≡◌, drop}
use Rattle.node_rules.specs.Table.{first_broken}
use Rattle.node_rules.proofs.nodes.first_broken.Given as goal

abbrev pub invariant-loop-rule : goal.invariant-loop-rule
invariant-loop-rule l = first_broken (drop l.rule-index l.rules) ≡ first_broken l.rules
