use Rattle.std.proofs.Common.{◌≡◌, drop}
use Rattle.type_trees.specs.Bridge.{cases_shape}
use Rattle.assignability.specs.Met.{is_met_by}
use Rattle.assignability.proofs.met.is_met_by.Given as goal

abbrev pub invariant-loop-case : goal.invariant-loop-case
invariant-loop-case l = is_met_by (cases_shape l.left) (cases_shape l.right) (cases_shape (drop l.case-index l.side)) l.named l.id l.other ≡ is_met_by (cases_shape l.left) (cases_shape l.right) (cases_shape l.side) l.named l.id l.other
