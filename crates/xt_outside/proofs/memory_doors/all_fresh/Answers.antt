use Rattle.std.proofs.Common.{subst}
use Rattle.std.proofs.lemmas.List.Elements.{All-more}
use Rattle.xt_outside.specs.MemoryDoors.{IsFresh}
use Rattle.xt_outside.proofs.memory_doors.all_fresh.Goals as goal

pub loop-door-preserved : goal.loop-door-preserved
loop-door-preserved c =
    All-more IsFresh c.args.doors.now c.loop-door.door-index c.door-item.result c.loop-door-test.true c.loop-door.invariant (subst IsFresh c.door-item.is (c.is_fresh.ensures c.if-not-is_fresh.false))
