use Rattle.std.proofs.Common.{Ok, Err}
use Rattle.xt_wire.proofs.OfCursor.Ahead.{decodes_octets}
use Rattle.xt_wire.proofs.cursor.reading.read_octets.Goals as goal

pub returns-in-Ok : goal.returns-in-Ok
returns-in-Ok g c = decodes_octets c.take.new.into (g.C.Cursor.state c.args.cursor.now) (g.C.Cursor.state c.take.new.self) (Ok tt) (g.met.C.Cursor.stands c.args.cursor.now) (g.met.C.Cursor.stands c.take.new.self) c.in-Ok.ensures.moves c.in-Ok.ensures.octets

pub returns-in-Err : goal.returns-in-Err
returns-in-Err g c = rw c.cut.ensures (decodes_octets c.take.new.into (g.C.Cursor.state c.args.cursor.now) (g.C.Cursor.state c.take.new.self) (Err c.in-Err.fault) (g.met.C.Cursor.stands c.args.cursor.now) (g.met.C.Cursor.stands c.take.new.self) c.in-Err.ensures.moves c.in-Err.ensures.octets)
