use Rattle.std.proofs.Common.{◌≡◌, drop}
use Rattle.node_rules.specs.Rules.{counts_rise}
use Rattle.node_rules.proofs.nodes.counts_rise.Given as goal

abbrev pub invariant-loop-base : goal.invariant-loop-base
invariant-loop-base l = counts_rise l.before (drop l.base-index l.bases) l.members ≡ counts_rise 0 l.bases l.members
