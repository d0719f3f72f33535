use Rattle.object_formats.specs.Format.{num, both, counted}
use Rattle.object_formats.specs.Tables as spec
use Rattle.object_writer.proofs.Writes.{both_written, before_written}
use Rattle.object_writer.proofs.writer.Writer.mask_parts.Goals as goal

pub returns : goal.returns
returns c =
    let Z = spec.no_flags in
    let B = counted (both (num 2 2) (spec.detail c.args.complete)) in
    let L = spec.listed (spec.flag c.args.complete) in
    before_written c.listed.result Z (both B L) _ _ _ _ c.in_ok-no_flags.ensures
    (both_written c.listed.result B L _ _ _ _ _ c.in_ok-bits_region.ensures c.listed.ensures)
