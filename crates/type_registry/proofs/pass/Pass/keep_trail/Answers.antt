use Rattle.std.proofs.Common.{ap, sym, ◌∙◌}
use Rattle.type_registry.specs.Passed.{Occupied}
use Rattle.type_registry.proofs.Passing.{no_trail_at, pass_full_at, trail_put}
use Rattle.type_registry.proofs.pass.Pass.keep_trail.Goals as goal

pub returns-in-Some-clause-ok : goal.returns-in-Some-clause-ok
returns-in-Some-clause-ok g c = no_trail_at g.N.Naming.name _ _ c.id-id.result c.in-Some.known.now c.strangers-strangers.result c.args.trail.now c.self.view_is c.self.invariant c.in-Some.ensures c.strangers-strangers.ensures
    c.id-id.ensures.id c.requires c.agrees.ensures

pub invariant_of-self-2 : goal.invariant_of-self-2
invariant_of-self-2 g c = pass_full_at g.N.Naming.name _ _ c.id-id.result c.strangers-strangers.result c.args.trail.now _ c.self.view_is c.in_ok-insert.ensures.ok c.strangers-strangers.ensures
    (c.id-id.ensures.id ∙ ap (λ (o : Occupied). o.id) c.strangers-strangers.ensures) c.self.invariant c.requires c.id-id.ensures.full

pub returns-clause-ok : goal.returns-clause-ok
returns-clause-ok g c = trail_put _ _ c.id-id.result c.strangers-strangers.result c.args.trail.now _ c.self.view_is c.in_ok-insert.ensures.ok c.strangers-strangers.ensures
    (c.id-id.ensures.id ∙ ap (λ (o : Occupied). o.id) c.strangers-strangers.ensures) (sym c.in_default.ensures)

pub returns-clause-pass : goal.returns-clause-pass
returns-clause-pass g c = pass_full_at g.N.Naming.name _ _ c.id-id.result c.strangers-strangers.result c.args.trail.now _ c.self.view_is c.in_ok-insert.ensures.ok c.strangers-strangers.ensures
    (c.id-id.ensures.id ∙ ap (λ (o : Occupied). o.id) c.strangers-strangers.ensures) c.self.invariant c.requires c.id-id.ensures.full
