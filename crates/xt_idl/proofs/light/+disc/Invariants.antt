use Rattle.std.proofs.Common.{length, ◌+◌, ◌*◌}
use Rattle.xt_idl.proofs.light.+disc.Given as goal

abbrev pub decreases-disc_at : goal.decreases-disc_at
decreases-disc_at l = 2 * length l.types.now

abbrev pub decreases-disc_type : goal.decreases-disc_type
decreases-disc_type l = 2 * length l.types.now + 1
