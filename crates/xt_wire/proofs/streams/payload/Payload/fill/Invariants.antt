use Rattle.std.proofs.Common.{length, take, ◌-◌, ◌≡◌, ◌+◌, ◌≤◌}
use Rattle.xt_wire.specs.streams.Streams.{IsAlong, AreNext}
use Rattle.xt_wire.proofs.streams.payload.Payload.fill.Given as goal

abbrev pub invariant-loop-at : goal.invariant-loop-at
invariant-loop-at g l = (l.at ≤ length l.into) × IsAlong l.initial.self l.self × (l.self.read ≡ l.initial.self.read + l.at) × AreNext l.initial.self (take l.at l.into)

abbrev pub decreases-loop-at : goal.decreases-loop-at
decreases-loop-at g l = length l.initial.into - l.at
