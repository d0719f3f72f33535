use Rattle.object_formats.specs.Format.{num, before}
use Rattle.object_formats.specs.Tables as spec
use Rattle.object_writer.proofs.Writes.{both_written, before_written}
use Rattle.object_writer.proofs.writer.Writer.flag_parts.Goals as goal

pub returns : goal.returns
returns c =
    let N = spec.name c.args.complete in
    both_written c.name.result (num 2 2) (before spec.no_flags N) _ _ _ _ _ c.in_ok-half.ensures
    (before_written c.name.result spec.no_flags N _ _ _ _ c.in_ok-no_flags.ensures c.name.ensures)
