use Rattle.std.proofs.Common.{◌≤◌, ◌-◌}
use Rattle.xt_wire.specs.cursor.Standing.{Moved}
use Rattle.xt_wire.specs.streams.Cursors.{stream_state}
use Rattle.xt_wire.proofs.streams.cursor.StreamCursor.advance_over.Given as goal

abbrev pub invariant-chunks : goal.invariant-chunks
invariant-chunks g l = (l.left ≤ l.initial.count) × Moved (l.initial.count - l.left) (stream_state l.initial.self) (stream_state l.self)

abbrev pub decreases-chunks : goal.decreases-chunks
decreases-chunks g l = l.left
