use Rattle.object_formats.specs.Format.{num, both, before}
use Rattle.object_formats.specs.Tables as spec
use Rattle.object_writer.proofs.Writes.{region_written}
use Rattle.object_writer.proofs.parts.ObjectFlagWrite.write.Goals as goal

pub returns : goal.returns
unfolding spec.flag
returns c = region_written c.close.result (both (num 2 2) (before spec.no_flags (spec.name c.args.form))) _ _ _ _ _ _ c.in_ok-start.ensures.count c.in_ok-start.ensures.start c.in_ok-flag_parts.ensures c.close.ensures
