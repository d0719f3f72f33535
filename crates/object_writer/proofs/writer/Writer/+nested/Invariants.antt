use Rattle.std.proofs.Common.{◌+◌, ◌*◌}
use Rattle.object_writer.proofs.writer.Writer.+nested.Given as goal

abbrev pub decreases-branch : goal.decreases-branch
decreases-branch l = 2 * l.deep + 1

abbrev pub decreases-nested : goal.decreases-nested
decreases-nested l = 2 * l.deep
