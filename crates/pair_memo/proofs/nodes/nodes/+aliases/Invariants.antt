use Rattle.std.proofs.Common.{◌+◌, ◌*◌}
use Rattle.pair_memo.proofs.nodes.nodes.+aliases.Given as goal

abbrev pub decreases-node_behind : goal.decreases-node_behind
decreases-node_behind l = 3 * l.levels + 2

abbrev pub decreases-named : goal.decreases-named
decreases-named l = 3 * l.levels + 1

abbrev pub decreases-object_node : goal.decreases-object_node
decreases-object_node l = 3 * l.levels
