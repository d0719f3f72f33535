use Rattle.std.proofs.Common.{◌≡◌, ◌++◌, length, take}
use Rattle.object_formats.specs.Format.{each_spelled}
use Rattle.object_writer.proofs.writer.Writer.each.Given as goal

abbrev pub invariant-loop-part : goal.invariant-loop-part
invariant-loop-part g l = l.self ≡ l.fn.self ++ each_spelled (g.P.Part.format l.form) (length l.fn.self) (g.P.Part.all_seen (take l.part-index l.parts))
