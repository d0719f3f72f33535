use Rattle.std.proofs.Common.{take, nat_lt, ◌∙◌, ap, subst, Bool}
use Rattle.std.specs.List.{list_any}
use Rattle.xt_outside.specs.MemoryDoors.{held_by}
use Rattle.xt_outside.specs.Outside.{RisesWhere}
use Rattle.xt_outside.specs.declared.memory_doors.MemDoor.{MemDoor}
use Rattle.xt_outside.proofs.Doors.{told-all, any-map}
use Rattle.xt_outside.proofs.memory_doors.MemNetNet.end_doors.Goals as goal

pub returns-clause-held : goal.returns-clause-held
returns-clause-held c = told-all (λ (d : MemDoor). held_by (take d.at d.turns)) c.args.doors

pub returns-clause-rises : goal.returns-clause-rises
returns-clause-rises c =
    rw (any-map (λ (d : MemDoor). d.tally.faults) c.args.doors) (subst (λ (b : Bool). RisesWhere b c.args.self.now.tally.faults c.raised_where-self.result) (c.any_failed.ensures ∙ ap (λ l. list_any (λ (d : MemDoor). nat_lt 0 d.tally.faults) l) c.as_slice.ensures) c.raised_where-self.ensures)
