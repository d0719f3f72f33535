use Rattle.std.proofs.Common.{◌≡◌, ◌-◌}
use Rattle.object_formats.specs.Format.{each_at}
use Rattle.object_reader.specs.Reading.{ahead}
use Rattle.object_reader.proofs.Loops.{with_front}
use Rattle.object_reader.proofs.reader.Reader.each.Given as goal

abbrev pub invariant-loop : goal.invariant-loop
invariant-loop g l = with_front (g.P.Part.all_seen l.row) (each_at (g.P.Part.format l.form) (l.count - l.counter) (ahead l.self)) ≡ each_at (g.P.Part.format l.form) l.count (ahead l.fn.self)
