use Rattle.std.proofs.Common.{◌≤◌, sym, subst}
use Rattle.idl_types.specs.Inhabited.{TypesUpTo, LeadsUp}
use Rattle.idl_types.proofs.Inhabited.{declared_types, declared_leads}
use Rattle.idl_types.proofs.scopes.Scopes.declare.Goals as goal

pub invariant_of-self : goal.invariant_of-self
invariant_of-self c =
    let s = c.inhabit.new.self in
    let scope = c.innermost-scope.result in
    let here : scope ≤ s.highest = rw c.innermost-scope.ensures c.inhabit.ensures.here in
    record {
      types = subst (TypesUpTo s.highest) (sym c.in-Ok.ensures) (declared_types s.highest scope c.args.at s.names c.args.name.now here s.types);
      leads = subst (LeadsUp s.highest) (sym c.in-Ok.ensures) (declared_leads s.highest scope c.args.at s.names c.args.name.now s.leads);
      above = s.above;
      within = s.within;
    }
