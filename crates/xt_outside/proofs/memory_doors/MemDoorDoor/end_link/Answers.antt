use Rattle.std.proofs.Common.{refl}
use Rattle.xt_outside.proofs.Doors.{held-ended}
use Rattle.xt_outside.proofs.memory_doors.MemDoorDoor.end_link.Goals as goal

pub returns-clause-held : goal.returns-clause-held
returns-clause-held c =
    (_, _, refl, refl, held-ended c.args.self.now.turns c.items-turns.result.now c.args.self.now.at c.args.link c.if-at-turns.false c.items-turns.ensures.value)
