use Rattle.std.proofs.Common.{◌∙◌}
use Rattle.key_instances.proofs.OfOctets.Unpacked.{numbers_next}
use Rattle.key_instances.proofs.octets.unpacked.unpacked_numbers.Goals as goal

pub loop-turn-preserved : goal.loop-turn-preserved
loop-turn-preserved c =
    let x = c.args.numbers.now in
    let front = rw c.prim_size-size.ensures.size at c.split_at.ensures.front in
    let back = rw c.prim_size-size.ensures.size at c.split_at.ensures.back in
    numbers_next x.prim x.order x.count c.loop-turn.turn c.loop-turn.rest.now c.split_at.result.0.now c.split_at.result.1.now c.loop-turn.values c.push.new.self c.unpacked_number.result c.loop-turn-test.true front back c.unpacked_number.ensures c.in_ok-push.ensures.ok
    ∙ c.loop-turn.invariant
