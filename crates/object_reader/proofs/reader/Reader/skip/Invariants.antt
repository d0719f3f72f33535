use Rattle.std.proofs.Common.{◌≡◌, ◌-◌}
use Rattle.object_formats.specs.Format.{past}
use Rattle.object_reader.proofs.reader.Reader.skip.Given as goal

abbrev pub invariant-loop : goal.invariant-loop
invariant-loop l = past (l.count - l.counter) l.self.at l.self.rest.now ≡ past l.count l.fn.self.at l.fn.self.rest.now
