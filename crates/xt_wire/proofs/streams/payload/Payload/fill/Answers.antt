use Rattle.std.proofs.Common.{rules, arith, length, ◌-◌, sym, subst, length-take-le}
use borrow.Rule.Slice.PartMut.{post_of}
use Rattle.xt_wire.specs.streams.Streams.{AreNext}
use Rattle.xt_wire.proofs.OfStreams.Streaming.{next_more, front_read, along_trans}
use Rattle.xt_wire.proofs.streams.payload.Payload.fill.Goals as goal

pub loop-at-preserved : goal.loop-at-preserved
loop-at-preserved g c =
    let at = c.loop-at.at in
    let into = c.loop-at.into in
    let within = c.loop-at.invariant.0 in
    let front = front_read at c.in_ok-at.field-0 into c.read_some.new.into (post_of at (length into - at) into) within (c.in_ok-at.ensures.bound.1) in
    let more = next_more c.args.self.now c.loop-at.self at _ _ c.loop-at.invariant.1 c.loop-at.invariant.2 (length-take-le at into within) c.loop-at.invariant.3 c.in_ok-at.ensures.octets in
    (search rules, along_trans c.loop-at.invariant.1 c.in_ok-at.ensures.along, omega (arith, c.loop-at.invariant.2, c.in_ok-at.ensures.read), subst (AreNext c.args.self.now) (sym front) more)
