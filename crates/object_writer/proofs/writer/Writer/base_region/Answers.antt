use Rattle.object_formats.specs.Format.{both}
use Rattle.object_formats.specs.Tables as spec
use Rattle.object_writer.proofs.Writes.{region_written, then_both}
use Rattle.object_writer.proofs.writer.Writer.base_region.Goals as goal

pub returns : goal.returns
returns c = region_written c.close.result (both (spec.base c.args.complete) (spec.detail c.args.complete)) _ _ _ _ _ _ c.in_ok-start.ensures.count c.in_ok-start.ensures.start (then_both (spec.base c.args.complete) (spec.detail c.args.complete) _ _ _ _ _ c.in_ok-base.ensures c.in_ok-detail.ensures) c.close.ensures
