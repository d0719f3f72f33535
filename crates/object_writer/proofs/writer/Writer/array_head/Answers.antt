use Rattle.object_formats.specs.Format.{both, several}
use Rattle.object_formats.specs.Tables as spec
use Rattle.object_writer.proofs.Writes.{both_written}
use Rattle.object_writer.proofs.writer.Writer.array_head.Goals as goal

pub returns : goal.returns
returns c =
    let E = spec.ek c.args.complete in
    let F = spec.flags_of spec.tries in
    let B = several (spec.bound c.args.large) in
    both_written c.several.result E (both F B) _ _ _ _ _ c.in_ok-octet.ensures
    (both_written c.several.result F B _ _ _ _ _ c.in_ok-half.ensures c.several.ensures)
