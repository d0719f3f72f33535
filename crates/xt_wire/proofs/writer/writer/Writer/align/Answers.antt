use Rattle.std.proofs.Common.{rules, ◌≡◌, ℕ, ◌+◌, ◌<◌, ◌-◌, ◌^◌, ◌%◌, ap, sym, ◌∙◌, arith}
use Rattle.xcdr_model.specs.Numbers.{padding}
use Rattle.xt_wire.specs.writer.Writing.{padding_fixed}
use Rattle.xt_wire.specs.writer.Written.{Written}
use Rattle.xt_wire.proofs.OfWriter.Puts.{same_puts, zeros, pad_small, distance, at_place}
use Rattle.xt_wire.proofs.writer.writer.Writer.align.Goals as goal

pub returns : goal.returns
unfolding padding
returns g c =
    let unit = c.args.to in
    let now = c.args.self.now in
    let low : c.self.inside.origin < 2 ^ 64 = search rules in
    let place : c.self.inside.place ≡ now.place = ap (λ (w : Written). w.place) c.self.view_is in
    let origin : c.self.inside.origin ≡ now.origin = ap (λ (w : Written). w.origin) c.self.view_is in
    same_puts (padding_fixed unit) _ (λ p at.
    let d = distance unit c.self.inside.place c.self.inside.origin p c.requires low (place ∙ at_place now p at ∙ ap (λ (o : ℕ). (o + p) % 2 ^ 64) (sym origin)) in
    let small = pad_small unit p c.requires in
    sym (rw (c.padding-pad.ensures.octets, d) (zeros ((unit - p % unit) % unit) (omega arith)))) c.put.ensures
