use Rattle.object_formats.specs.Format.{num, both, several}
use Rattle.object_formats.specs.Tables as spec
use Rattle.object_writer.proofs.Writes.{both_written}
use Rattle.object_writer.proofs.writer.Writer.case_parts.Goals as goal

pub returns : goal.returns
returns c =
    let I = num 4 4 in
    let F = spec.flags_of spec.case_flags in
    let T = spec.identifier c.args.complete in
    let L = several spec.signed in
    let N = spec.name c.args.complete in
    both_written c.name.result I (both F (both T (both L N))) _ _ _ _ _ c.in_ok-word.ensures
    (both_written c.name.result F (both T (both L N)) _ _ _ _ _ c.in_ok-half.ensures
    (both_written c.name.result T (both L N) _ _ _ _ _ c.in_ok-identifier.ensures
    (both_written c.name.result L N _ _ _ _ _ c.in_ok-several.ensures c.name.ensures)))
