use Rattle.object_formats.specs.Format.{num, both, before, counted}
use Rattle.object_formats.specs.Tables as spec
use Rattle.object_writer.proofs.Writes.{region_written}
use Rattle.object_writer.proofs.writer.Writer.mask_body.Goals as goal

pub returns : goal.returns
unfolding spec.mask_body
returns c = region_written c.close.result (before spec.no_flags (both (counted (both (num 2 2) (spec.detail c.args.complete))) (spec.listed (spec.flag c.args.complete)))) _ _ _ _ _ _ c.in_ok-start.ensures.count c.in_ok-start.ensures.start c.in_ok-mask_parts.ensures c.close.ensures
