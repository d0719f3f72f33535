use Rattle.std.proofs.Common.{◌≡◌, ◌+◌, ◌*◌, drop}
use Rattle.xt_recorder.specs.Recordings.{each, listed_at}
use Rattle.xt_recorder.proofs.closing.+listing.Given as goal

abbrev pub invariant-list_each-loop-id : goal.invariant-list_each-loop-id
invariant-list_each-loop-id l = each (listed_at l.levels l.pool) l.listed.keys (drop l.id-index l.ids) ≡ each (listed_at l.levels l.pool) l.fn.listed.keys l.ids

abbrev pub decreases-list : goal.decreases-list
decreases-list l = 3 * l.levels

abbrev pub decreases-list_each : goal.decreases-list_each
decreases-list_each l = 3 * l.levels + 1

abbrev pub decreases-list_referred : goal.decreases-list_referred
decreases-list_referred l = 3 * l.levels + 2
