use Rattle.std.proofs.Common.{◌<◌, sym, subst}
use Rattle.idl_types.specs.Inhabited.{TypesUpTo, LeadsUp}
use Rattle.idl_types.proofs.Inhabited.{module_types, module_leads}
use Rattle.idl_types.proofs.scopes.Scopes.add_module.Goals as goal

pub invariant_of-self : goal.invariant_of-self
invariant_of-self c =
    let s = c.inhabit_below.new.self in
    let scope = c.innermost-scope.result in
    let up : s.highest < scope → scope < c.args.number = rw c.innermost-scope.ensures c.inhabit_below.ensures.leads in
    record {
      types = subst (TypesUpTo s.highest) (sym c.in-Ok.ensures) (module_types s.highest scope c.args.number s.names c.args.name.now s.types);
      leads = subst (LeadsUp s.highest) (sym c.in-Ok.ensures) (module_leads s.highest scope c.args.number s.names c.args.name.now up s.leads);
      above = s.above;
      within = s.within;
    }
