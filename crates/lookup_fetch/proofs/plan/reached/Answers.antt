use Rattle.std.proofs.Common.{◌∙◌, ◌++◌, [], ◌∷◌, sym, ap, subst, not, arith, List, length, length-append}
use Rattle.std.specs.List.{All}
use Rattle.std.proofs.lemmas.List.Elements.{All-nil}
use Rattle.type_trees.specs.declared.types.HashId.{HashId}
use Rattle.type_object.specs.References.{is_among}
use Rattle.type_lookup.specs.messages.Spelling.{IsKnownId}
use Rattle.lookup_fetch.specs.Rounds.{found_in}
use Rattle.lookup_fetch.proofs.Reaching.{reach_init, reach_step, reach_end, reach_full, first_each, put_each, more_each}
use Rattle.lookup_fetch.proofs.plan.reached.Goals as goal

pub visits-init : goal.visits-init
visits-init c = record {
  few = omega (arith, ap (λ (o : List HashId). length o) c.new-met.ensures);
  tried = c.new-tried.ensures ∙ sym c.new-met.ensures;
  leads = reach_init (found_in c.args.held.now) c.new-met.result c.put_before.new.self c.new-todo.result c.args.ids.now c.new-met.ensures c.new-todo.ensures c.in_ok-put_before.ensures;
  kinds = subst (All IsKnownId) (sym c.new-met.ensures) (All-nil IsKnownId);
  others = put_each IsKnownId c.args.ids.now c.new-todo.result c.put_before.new.self c.in_ok-put_before.ensures c.requires (subst (All IsKnownId) (sym c.new-todo.ensures) (All-nil IsKnownId));
}

pub visits-preserved : goal.visits-preserved
visits-preserved c =
    let i = c.visits.invariant in
    let first = first_each IsKnownId (λ j. not (is_among j c.visits.tried)) c.visits.todo c.first_new.new.todo c.in-Some.id c.in-Some.ensures.0 i.others in
    let r = c.in_ok-references_of.ensures in
    record {
      few = omega (arith, c.len.ensures, c.visits-test.true, ap (λ (o : List HashId). length o) c.in_ok-push.ensures.ok, length-append {A = HashId});
      tried = c.in_ok-add.ensures.ok ∙ ap (λ (o : List HashId). o ++ c.in-Some.id ∷ []) i.tried ∙ sym c.in_ok-push.ensures.ok;
      leads = reach_step (found_in c.args.held.now) c.visits.met c.push.new.self c.visits.tried c.visits.todo c.put_before-in-visits.new.self c.first_new.new.todo c.as_slice.result.now _ c.in-Some.id i.tried (omega (arith, c.len.ensures, c.visits-test.true)) c.in-Some.ensures.0 c.in_ok-push.ensures.ok c.in_ok-put_before-2.ensures (c.as_slice.ensures ∙ r.refers) i.leads;
      kinds = more_each IsKnownId c.visits.met c.push.new.self c.in-Some.id c.in_ok-push.ensures.ok i.kinds first.0;
      others = put_each IsKnownId c.as_slice.result.now c.first_new.new.todo c.put_before-in-visits.new.self c.in_ok-put_before-2.ensures (subst (All IsKnownId) (sym c.as_slice.ensures) r.kinds) first.1;
    }

pub returns-in_default-clause-met : goal.returns-in_default-clause-met
returns-in_default-clause-met c = reach_end (found_in c.args.held.now) c.visits.met c.visits.tried c.visits.todo c.args.ids.now _ c.visits.invariant.tried c.in_default.ensures.0 c.visits.invariant.leads

pub returns-clause-met : goal.returns-clause-met
returns-clause-met c = reach_full (found_in c.args.held.now) c.visits.met c.visits.todo c.args.ids.now _ (omega (arith, c.len.ensures, c.visits-test.false)) c.visits.invariant.leads
