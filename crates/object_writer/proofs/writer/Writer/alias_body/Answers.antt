use Rattle.object_formats.specs.Format.{both, before, behind, counted}
use Rattle.object_formats.specs.Tables as spec
use Rattle.object_writer.proofs.Writes.{both_written, before_written}
use Rattle.object_writer.proofs.writer.Writer.alias_body.Goals as goal

pub returns : goal.returns
unfolding spec.alias_body
returns c =
    let Z = spec.no_flags in
    let D = counted (spec.detail c.args.complete) in
    let R = counted (before spec.no_flags (behind (spec.identifier c.args.complete) (spec.closing c.args.complete))) in
    before_written c.related_region.result Z (both D R) _ _ _ _ c.in_ok-no_flags.ensures
    (both_written c.related_region.result D R _ _ _ _ _ c.in_ok-detail_region.ensures c.related_region.ensures)
