use Rattle.std.proofs.Common.{length, ap, arith}
use Rattle.std.proofs.lemmas.List.{length-append}
use Rattle.object_formats.specs.Format.{num}
use Rattle.object_writer.proofs.Writes.{count_has_four}
use Rattle.object_writer.proofs.writer.Writer.open.Goals as goal

pub returns-clause-room : goal.returns-clause-room
returns-clause-room c =
    let old = c.args.self.now in
    omega (arith, ap length c.in_ok-word.ensures, length-append old ((num 4 4).spell (length old) 0), count_has_four (length old) 0, ap length c.self.view_is)
