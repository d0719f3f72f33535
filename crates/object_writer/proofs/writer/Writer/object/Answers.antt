use Rattle.object_formats.specs.Format.{tagged}
use Rattle.object_formats.specs.Tables as spec
use Rattle.object_formats.specs.declared.faults.ObjectRule.TheVariants as rule
use Rattle.object_writer.proofs.Writes.{region_written}
use Rattle.object_writer.proofs.writer.Writer.object.Goals as goal

pub returns : goal.returns
unfolding spec.object
returns c = region_written c.close.result (tagged rule.Kind spec.complete_of spec.own spec.is_complete spec.kinds) _ _ _ _ _ _ c.in_ok-start.ensures.count c.in_ok-start.ensures.start c.in_ok-owned.ensures c.close.ensures
