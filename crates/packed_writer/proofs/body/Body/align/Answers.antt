use Rattle.std.proofs.Common.{◌≡◌, ◌-◌, ◌<◌, sym, length, arith}
use Rattle.xcdr_model.specs.Numbers.{padding}
use Rattle.xt_wire.specs.writer.Writing.{padding_fixed}
use Rattle.xt_wire.proofs.OfWriter.Puts.{zeros, pad_small}
use Rattle.packed_writer.proofs.Appending.{some_at}
use Rattle.packed_writer.proofs.body.Body.align.Goals as goal

pub returns : goal.returns
unfolding padding
returns c =
    let unit = c.args.to in
    let now = c.args.self.now in
    some_at c.put.result now c.put.new.self (padding_fixed unit) _ (λ p at.
    let there : length now.octets - now.origin ≡ p = omega (arith, at) in
    let small : padding unit p < 8 = pad_small unit p c.requires in
    sym (rw (c.padding-pad.ensures.octets, c.place.ensures, there) (zeros (padding unit p) (omega (arith, small))))) c.put.ensures
