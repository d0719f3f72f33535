use Rattle.std.proofs.Common.{◌+◌, ◌*◌}
use Rattle.pair_memo.proofs.nodes.nodes.+bases.Given as goal

abbrev pub decreases-push_inherited : goal.decreases-push_inherited
decreases-push_inherited l = 2 * l.room

abbrev pub decreases-push_base : goal.decreases-push_base
decreases-push_base l = 2 * l.room + 1
