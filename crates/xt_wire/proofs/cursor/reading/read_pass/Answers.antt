use Rattle.std.proofs.Common.{Ok, Err}
use Rattle.xt_wire.proofs.OfCursor.Ahead.{decodes_pass}
use Rattle.xt_wire.proofs.cursor.reading.read_pass.Goals as goal

pub returns-in-Ok-clause-value : goal.returns-in-Ok-clause-value
returns-in-Ok-clause-value g c = decodes_pass (λ u. u) _ (g.C.Cursor.state c.args.cursor.now) (g.C.Cursor.state c.pass.new.self) (Ok tt) (g.met.C.Cursor.stands c.args.cursor.now) (g.met.C.Cursor.stands c.pass.new.self) c.in-Ok.ensures

pub returns-in-Err-clause-value : goal.returns-in-Err-clause-value
returns-in-Err-clause-value g c = rw c.cut.ensures (decodes_pass (λ u. u) _ (g.C.Cursor.state c.args.cursor.now) (g.C.Cursor.state c.pass.new.self) (Err c.in-Err.fault) (g.met.C.Cursor.stands c.args.cursor.now) (g.met.C.Cursor.stands c.pass.new.self) c.in-Err.ensures)
