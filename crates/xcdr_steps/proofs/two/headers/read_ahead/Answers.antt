use Rattle.std.proofs.Common.{ap, ◌∙◌}
use Rattle.xcdr_model.specs.Numbers.{number}
use Rattle.xcdr_steps.proofs.OfTwo.HeaderSteps.{peek_ok, peek_err}
use Rattle.xcdr_steps.proofs.two.headers.read_ahead.Goals as goal

pub returns-in-Ok-clause-value : goal.returns-in-Ok-clause-value
returns-in-Ok-clause-value g c =
    let p = c.in-Ok.ensures in
    peek_ok c.in-Ok.octets c.number.result (g.met.C.Cursor.stands c.args.cursor.now) p (c.number.ensures.value ∙ ap (λ o. number o c.in-Ok.octets) (c.order.ensures ∙ p.stayed.within.order))

pub returns-in-Err : goal.returns-in-Err
returns-in-Err g c = rw c.cut.ensures (record { below = tt; held = tt; value = peek_err c.in-Err.fault (g.met.C.Cursor.stands c.args.cursor.now) (g.met.C.Cursor.stands c.peek.new.self) c.in-Err.ensures })
