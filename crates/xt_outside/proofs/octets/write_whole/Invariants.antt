use Rattle.std.proofs.Common.{◌≡◌, ◌≤◌, List, ℕ, length, ◌++◌}
use Rattle.std.specs.Io.KnownBytes.{Appends}
use Rattle.xt_outside.proofs.octets.write_whole.Given as goal

-- What is left is the end of the octets, and those before it were appended.
abbrev pub invariant-loop-rest : goal.invariant-loop-rest
invariant-loop-rest g l = record {
  written : (some : List ℕ) × (l.from ≡ some ++ l.rest) × Appends (g.K.Sink.taken l.initial.sink) (g.K.Sink.taken l.sink) some;
  later : g.K.Sink.faults l.initial.sink ≤ g.K.Sink.faults l.sink;
  same : g.K.Sink.name l.sink ≡ g.K.Sink.name l.initial.sink;
}

abbrev pub decreases-loop-rest : goal.decreases-loop-rest
decreases-loop-rest g l = length l.rest
