use Rattle.std.proofs.Common.{length}
use Rattle.idl_definitions.proofs.structures.+following_at.Given as goal

abbrev pub decreases-following_at : goal.decreases-following_at
decreases-following_at l = length l.types.now
