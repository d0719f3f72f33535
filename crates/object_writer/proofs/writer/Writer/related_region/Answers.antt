use Rattle.object_formats.specs.Format.{before, behind}
use Rattle.object_formats.specs.Tables as spec
use Rattle.object_writer.proofs.Writes.{region_written, then_before}
use Rattle.object_writer.proofs.writer.Writer.related_region.Goals as goal

pub returns : goal.returns
returns c = region_written c.close.result (before spec.no_flags (behind (spec.identifier c.args.complete) (spec.closing c.args.complete))) _ _ _ _ _ _ c.in_ok-start.ensures.count c.in_ok-start.ensures.start (then_before spec.no_flags (behind (spec.identifier c.args.complete) (spec.closing c.args.complete)) _ _ _ _ c.in_ok-no_flags.ensures c.in_ok-closed_identifier.ensures) c.close.ensures
