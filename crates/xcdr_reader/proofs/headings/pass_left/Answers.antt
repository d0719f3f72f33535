use Rattle.std.proofs.Common.{ap₂, ℕ, ◌-◌}
use Rattle.xt_wire.specs.cursor.Steps.{pass_at}
use Rattle.xt_wire.proofs.OfCursor.Ahead.{last}
use Rattle.xcdr_reader.proofs.ModeSteps.{rest_passed}
use Rattle.xcdr_reader.proofs.headings.pass_left.Goals as goal

pub returns : goal.returns
returns g c =
    let n = c.region_end.result - c.place.result in
    last (λ u. u) (pass_at n) (rest_passed n (g.C.Cursor.state c.args.cursor.now) (g.met.C.Cursor.stands c.args.cursor.now) (ap₂ (λ (x y : ℕ). x - y) c.region_end.ensures c.place.ensures)) c.read_pass.ensures.value
