use Rattle.std.proofs.Common.{◌≡◌, ◌++◌}
use Rattle.object_formats.specs.Octets.{zeros}
use Rattle.object_writer.proofs.writer.Writer.pad.Given as goal

abbrev pub invariant-loop : goal.invariant-loop
invariant-loop l = l.self-inside.octets.items ≡ l.fn.self ++ zeros l.counter
