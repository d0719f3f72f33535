use Rattle.std.proofs.Common.{◌+◌, ◌*◌}
use Rattle.xt_idl.proofs.numbers.+bases.Given as goal

abbrev pub decreases-lacks_at : goal.decreases-lacks_at
decreases-lacks_at l = 2 * l.at + 1

abbrev pub decreases-lacks_below : goal.decreases-lacks_below
decreases-lacks_below l = 2 * l.at
