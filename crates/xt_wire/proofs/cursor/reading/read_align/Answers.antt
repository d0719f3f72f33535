use Rattle.std.proofs.Common.{Ok, Err}
use Rattle.xt_wire.proofs.OfCursor.Ahead.{decodes_align}
use Rattle.xt_wire.proofs.cursor.reading.read_align.Goals as goal

pub returns-in-Ok : goal.returns-in-Ok
returns-in-Ok g c = decodes_align (λ u. u) _ (g.C.Cursor.state c.args.cursor.now) (g.C.Cursor.state c.align.new.self) (Ok tt) (g.met.C.Cursor.stands c.args.cursor.now) (g.met.C.Cursor.stands c.align.new.self) c.in-Ok.ensures

pub returns-in-Err : goal.returns-in-Err
returns-in-Err g c = rw c.cut.ensures (decodes_align (λ u. u) _ (g.C.Cursor.state c.args.cursor.now) (g.C.Cursor.state c.align.new.self) (Err c.in-Err.fault) (g.met.C.Cursor.stands c.args.cursor.now) (g.met.C.Cursor.stands c.align.new.self) c.in-Err.ensures)
