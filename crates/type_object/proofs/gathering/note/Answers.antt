use Rattle.std.proofs.Common.{◌∙◌}
use Rattle.type_object.proofs.Noted.{note_is}
use Rattle.type_object.proofs.gathering.note.Goals as goal

pub returns : goal.returns
returns c = c.in_ok-insert.ensures.keys ∙ note_is c.args.id.now c.args.seen.now.keys
