use Rattle.object_formats.specs.Format.{both}
use Rattle.object_formats.specs.Tables as spec
use Rattle.object_writer.proofs.Writes.{region_written}
use Rattle.object_writer.proofs.writer.Writer.literal_common.Goals as goal

pub returns : goal.returns
returns c = region_written c.close.result (both spec.signed (spec.flags_of spec.literal_flags)) _ _ _ _ _ _ c.in_ok-start.ensures.count c.in_ok-start.ensures.start c.in_ok-literal_value.ensures c.close.ensures
