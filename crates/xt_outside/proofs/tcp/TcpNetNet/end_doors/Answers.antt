use Rattle.std.proofs.Common.{nat_lt, ◌∙◌, ap, subst, Bool}
use Rattle.std.specs.List.{list_any}
use Rattle.xt_outside.specs.Outside.{RisesWhere}
use Rattle.xt_outside.specs.declared.tcp.TcpDoor.{TcpDoor}
use Rattle.xt_outside.proofs.Doors.{any-map}
use Rattle.xt_outside.proofs.tcp.TcpNetNet.end_doors.Goals as goal

pub returns-clause-rises : goal.returns-clause-rises
returns-clause-rises g c =
    rw (any-map (λ (d : TcpDoor). d.faults) c.args.doors) (subst (λ (b : Bool). RisesWhere b c.args.self.now.faults c.raised_where-self.result) (c.any_failed.ensures ∙ ap (λ l. list_any (λ (d : TcpDoor). nat_lt 0 d.faults) l) c.as_slice.ensures) c.raised_where-self.ensures)
