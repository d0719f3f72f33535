use Rattle.object_formats.specs.Format.{both, counted}
use Rattle.object_formats.specs.Tables as spec
use Rattle.object_writer.proofs.Writes.{region_written}
use Rattle.object_writer.proofs.parts.ObjectLiteralWrite.write.Goals as goal

pub returns : goal.returns
unfolding spec.literal
returns c = region_written c.close.result (both (counted (both spec.signed (spec.flags_of spec.literal_flags))) (spec.name c.args.form)) _ _ _ _ _ _ c.in_ok-start.ensures.count c.in_ok-start.ensures.start c.in_ok-literal_parts.ensures c.close.ensures
