use Rattle.object_formats.specs.Format.{num, both}
use Rattle.object_formats.specs.Tables as spec
use Rattle.object_writer.proofs.Writes.{region_written}
use Rattle.object_writer.proofs.parts.ObjectMemberWrite.write.Goals as goal

pub returns : goal.returns
unfolding spec.member
returns c = region_written c.close.result (both (num 4 4) (both (spec.flags_of spec.member_flags) (both (spec.identifier c.args.form) (spec.name c.args.form)))) _ _ _ _ _ _ c.in_ok-start.ensures.count c.in_ok-start.ensures.start c.in_ok-member_parts.ensures c.close.ensures
