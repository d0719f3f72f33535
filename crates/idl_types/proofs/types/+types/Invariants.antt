use Rattle.std.proofs.Common.{◌*◌, ◌+◌}
use Rattle.idl_types.proofs.types.+types.Given as goal

abbrev pub decreases-type_to : goal.decreases-type_to
decreases-type_to l = 3 * l.levels

abbrev pub decreases-element : goal.decreases-element
decreases-element l = 3 * l.levels + 1

abbrev pub decreases-sequence_type : goal.decreases-sequence_type
decreases-sequence_type l = 3 * l.levels + 2

abbrev pub decreases-map_type : goal.decreases-map_type
decreases-map_type l = 3 * l.levels + 2
