use Rattle.object_formats.specs.Tables as spec
use Rattle.object_writer.proofs.Writes.{region_written}
use Rattle.object_writer.proofs.writer.Writer.detail_region.Goals as goal

pub returns : goal.returns
returns c = region_written c.close.result (spec.detail c.args.complete) _ _ _ _ _ _ c.in_ok-start.ensures.count c.in_ok-start.ensures.start c.in_ok-detail.ensures c.close.ensures
