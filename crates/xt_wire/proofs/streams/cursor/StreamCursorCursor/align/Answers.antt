use Rattle.std.proofs.Common.{rules, ◌≡◌, ℕ, ◌-◌, ap, ◌∙◌}
use Rattle.xcdr_model.specs.Numbers.{padding}
use Rattle.xt_wire.proofs.OfStreams.Standings.{goes_on}
use Rattle.xt_wire.proofs.streams.cursor.StreamCursorCursor.align.Goals as goal

pub returns : goal.returns
returns g c =
    let self = c.args.self.now in
    let pad : c.padding-pad.result ≡ padding c.min.result (self.payload.read - self.origin) = c.padding-pad.ensures.octets ∙ ap (λ (n : ℕ). padding c.min.result (n - self.origin)) c.read-place.ensures in
    rw (← c.min.ensures, ← pad) (goes_on _ _ _ _ _ _ _ c.stopped.ensures (search rules) (search rules) c.advance.ensures.moved c.advance.ensures.stopped)
