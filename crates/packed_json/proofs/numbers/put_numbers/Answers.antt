use Rattle.std.proofs.Common.{◌++◌, ◌∙◌}
use Rattle.packed_json.proofs.Lists.{numbers_next}
use Rattle.packed_json.proofs.numbers.put_numbers.Goals as goal

pub loop-turn-preserved : goal.loop-turn-preserved
loop-turn-preserved c =
    let x = c.args.numbers.now in
    let front = rw (c.prim_size-size.ensures.size, c.requires) at c.split_at.ensures.front in
    let back = rw (c.prim_size-size.ensures.size, c.requires) at c.split_at.ensures.back in
    let number = rw c.requires at c.in_ok-put_number.ensures in
    numbers_next x.prim x.order c.loop-turn.is_later x.count c.loop-turn.turn c.loop-turn.rest.now c.split_at.result.0.now c.split_at.result.1.now (c.loop-turn.out ++ c.loop-turn.block) c.make_room.new.out c.make_room.new.block c.put_number.new.block c.loop-turn-test.true front back c.in_ok-make_room.ensures.kept number
    ∙ c.loop-turn.invariant
