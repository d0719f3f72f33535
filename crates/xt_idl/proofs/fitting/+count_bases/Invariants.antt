use Rattle.std.proofs.Common.{length}
use Rattle.xt_idl.proofs.fitting.+count_bases.Given as goal

abbrev pub decreases-count_bases : goal.decreases-count_bases
decreases-count_bases l = length l.types.now
