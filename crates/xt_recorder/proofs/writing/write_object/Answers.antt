use Rattle.object_formats.proofs.OwnKinds.{text_short}
use Rattle.xt_recorder.proofs.writing.write_object.Goals as goal

pub write_record-requires : goal.write_record-requires
write_record-requires g c = text_short c.in-Some.text.now c.in-Some.ensures.read.object c.in-Some.ensures.read.read
