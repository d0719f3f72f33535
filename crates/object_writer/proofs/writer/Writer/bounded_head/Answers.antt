use Rattle.object_formats.specs.Format.{both}
use Rattle.object_formats.specs.Tables as spec
use Rattle.object_writer.proofs.Writes.{both_written}
use Rattle.object_writer.proofs.writer.Writer.bounded_head.Goals as goal

pub returns : goal.returns
returns c =
    let E = spec.ek c.args.complete in
    let F = spec.flags_of spec.tries in
    let B = spec.bound c.args.large in
    both_written c.bound.result E (both F B) _ _ _ _ _ c.in_ok-octet.ensures
    (both_written c.bound.result F B _ _ _ _ _ c.in_ok-half.ensures c.bound.ensures)
