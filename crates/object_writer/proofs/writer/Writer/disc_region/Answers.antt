use Rattle.object_formats.specs.Format.{both, behind}
use Rattle.object_formats.specs.Tables as spec
use Rattle.object_writer.proofs.Writes.{region_written, then_both}
use Rattle.object_writer.proofs.writer.Writer.disc_region.Goals as goal

pub returns : goal.returns
returns c = region_written c.close.result (both (spec.flags_of spec.disc_flags) (behind (spec.identifier c.args.complete) (spec.closing c.args.complete))) _ _ _ _ _ _ c.in_ok-start.ensures.count c.in_ok-start.ensures.start (then_both (spec.flags_of spec.disc_flags) (behind (spec.identifier c.args.complete) (spec.closing c.args.complete)) _ _ _ _ _ c.in_ok-half.ensures c.in_ok-closed_identifier.ensures) c.close.ensures
