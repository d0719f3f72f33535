use Rattle.std.proofs.Common.{◌+◌, ◌*◌}
use Rattle.object_reader.proofs.reader.Reader.+nested.Given as goal

abbrev pub decreases-array : goal.decreases-array
decreases-array l = 2 * l.deep + 1

abbrev pub decreases-map : goal.decreases-map
decreases-map l = 2 * l.deep + 1

abbrev pub decreases-nested : goal.decreases-nested
decreases-nested l = 2 * l.deep

abbrev pub decreases-sequence : goal.decreases-sequence
decreases-sequence l = 2 * l.deep + 1
