use Rattle.std.proofs.Common.{ℕ, List, Ok, false}
use Rattle.std.proofs.lemmas.Result.{err_from_is_err_and}
use Rattle.xt_shapes.specs.declared.leaves.Order.{Order}
use Rattle.xt_shapes.specs.Shape as model
use Rattle.xcdr_model.specs.Projection.{Part, gather_text}
use Rattle.xcdr_model.specs.Reading.{Spot, Reading, ◌>>=◌}
use Rattle.xcdr_model.specs.Xcdr2Reading.{text_at}
use Rattle.xt_wire.specs.cursor.Standing.{Standing}
use Rattle.xt_wire.proofs.OfCursor.Ahead.{Ahead, begins, goes_on, fails, ends}
use Rattle.settled_parts.specs.Parts.{part_of}
use Rattle.xcdr_reader.specs.declared.modes.Mode.{Mode}
use Rattle.xcdr_reader.specs.Modes.{read_in}
use Rattle.xcdr_reader.proofs.LeafSteps.{text_read}
use Rattle.xcdr_reader.proofs.leaves.read_text_part.Goals as goal

abbrev made : ℕ → List ℕ → Order → Spot → Reading Part
made bound t o s = Ok ((gather_text bound t, false), s)

starts : (m : Mode) (bound : ℕ) (a : Standing) → Ahead (λ o s. read_in m o (model.str bound) s) (λ o s. text_at o s >>= λ t. made bound t.0 o t.1) a a
starts m bound a = begins (λ o s. read_in m o (model.str bound) s) _ a (λ s. text_read m bound a.order s)

pub returns-in_err-octets : goal.returns-in_err-octets
returns-in_err-octets g c =
    let p = err_from_is_err_and c.from_residual.result c.from_residual.ensures.1 in
    rw (p.1, p.2) (fails (λ v. v.items) part_of text_at (made c.args.bound) (starts c.args.mode c.args.bound (g.C.Cursor.state c.args.cursor.now)) c.in_err-octets.ensures)

pub returns : goal.returns
returns g c =
    let u = goes_on (λ v. v.items) text_at (made c.args.bound) (starts c.args.mode c.args.bound (g.C.Cursor.state c.args.cursor.now)) c.in_ok-octets.ensures in
    ends part_of (λ o. (gather_text c.args.bound c.in_ok-octets.octets.items, false)) u c.text_from.ensures
