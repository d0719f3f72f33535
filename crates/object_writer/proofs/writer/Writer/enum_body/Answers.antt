use Rattle.object_formats.specs.Format.{num, both, counted}
use Rattle.object_formats.specs.Tables as spec
use Rattle.object_writer.proofs.Writes.{both_written}
use Rattle.object_writer.proofs.writer.Writer.enum_body.Goals as goal

pub returns : goal.returns
unfolding spec.enum_body
returns c =
    let F = spec.flags_of (spec.type_flags c.args.complete) in
    let B = counted (both (num 2 2) (spec.detail c.args.complete)) in
    let L = spec.listed (spec.literal c.args.complete) in
    both_written c.listed.result F (both B L) _ _ _ _ _ c.in_ok-half.ensures
    (both_written c.listed.result B L _ _ _ _ _ c.in_ok-bits_region.ensures c.listed.ensures)
