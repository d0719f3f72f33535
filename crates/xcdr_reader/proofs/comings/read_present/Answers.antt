use Rattle.std.proofs.Common.{Bool, Ok, refl, sym, ap}
use Rattle.std.proofs.lemmas.Result.{err_from_is_err_and}
use Rattle.xt_shapes.specs.declared.leaves.Order.{Order}
use Rattle.xcdr_model.specs.Reading.{Spot, Reading, ◌>>=◌}
use Rattle.xcdr_model.specs.Xcdr2Reading.{present_at}
use Rattle.xt_wire.specs.cursor.Standing.{Standing}
use Rattle.xt_wire.proofs.OfCursor.Ahead.{Ahead, begins, goes_on, fails, ends}
use Rattle.xcdr_reader.specs.declared.comings.Coming.{Coming}
use Rattle.xcdr_reader.specs.Comings.{by_presence, presence_read}
use Rattle.xcdr_reader.proofs.comings.read_present.Goals as goal

abbrev made : Bool → Order → Spot → Reading Coming
made b o s = Ok (by_presence b, s)

starts : (a : Standing) → Ahead presence_read (λ o s. present_at o s >>= λ b. made b.0 o b.1) a a
starts a = begins presence_read _ a (λ s. refl)

pub returns-in_err-there-clause-value : goal.returns-in_err-there-clause-value
returns-in_err-there-clause-value g c =
    let p = err_from_is_err_and c.from_residual.result c.from_residual.ensures.1 in
    rw (p.1, p.2) (fails (λ b. b) (λ x. x) present_at made (starts (g.C.Cursor.state c.args.cursor.now)) c.in_err-there.ensures)

pub returns-then-there-clause-value : goal.returns-then-there-clause-value
returns-then-there-clause-value g c =
    let u = goes_on (λ b. b) present_at made (starts (g.C.Cursor.state c.args.cursor.now)) c.in_ok-there.ensures in
    ends (λ x. x) (λ o. by_presence c.in_ok-there.there) u (sym (ap by_presence c.if-there.true))

pub returns-clause-value : goal.returns-clause-value
returns-clause-value g c =
    let u = goes_on (λ b. b) present_at made (starts (g.C.Cursor.state c.args.cursor.now)) c.in_ok-there.ensures in
    ends (λ x. x) (λ o. by_presence c.in_ok-there.there) u (sym (ap by_presence c.if-there.false))
