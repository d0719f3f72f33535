use Rattle.object_formats.specs.Format.{num, both}
use Rattle.object_formats.specs.Tables as spec
use Rattle.object_writer.proofs.Writes.{both_written}
use Rattle.object_writer.proofs.writer.Writer.member_parts.Goals as goal

pub returns : goal.returns
returns c =
    let I = num 4 4 in
    let F = spec.flags_of spec.member_flags in
    let T = spec.identifier c.args.complete in
    let N = spec.name c.args.complete in
    both_written c.name.result I (both F (both T N)) _ _ _ _ _ c.in_ok-word.ensures
    (both_written c.name.result F (both T N) _ _ _ _ _ c.in_ok-half.ensures
    (both_written c.name.result T N _ _ _ _ _ c.in_ok-identifier.ensures c.name.ensures))
