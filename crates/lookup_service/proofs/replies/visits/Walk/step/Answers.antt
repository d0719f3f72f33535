use Rattle.std.proofs.Common.{◌∙◌, ◌++◌, sym, ap}
use Rattle.type_registry.specs.Passed.{known}
use Rattle.lookup_service.proofs.OfReplies.Putting.{grows_then}
use Rattle.lookup_service.proofs.OfReplies.Walking.{past_step, unknown_step, unknown_told, step_further, visit_step, visit_told, none_left, further_then}
use Rattle.lookup_service.proofs.replies.visits.Walk.step.Goals as goal

pub tries-preserved-then-contains : goal.tries-preserved-then-contains
tries-preserved-then-contains g c = let i = c.tries.invariant in record {
  registry = i.registry;
  seen = i.seen;
  tells = i.tells;
  further = i.further;
  leads = past_step (known c.tries.pass) (known c.tries.pass) c.tries.self.tried c.tries.self.tried c.tries.self.seen c.args.self.now.seen c.args.self.now.todo c.tries.self.todo c.take_first.new.self c.in-Some.id i.tells c.in-Some.ensures (sym c.contains.ensures ∙ c.if-contains.true) i.leads;
  grows = i.grows;
}

pub tries-preserved : goal.tries-preserved
tries-preserved g c =
    let i = c.tries.invariant in
    let f = c.in_ok-references.ensures in
    let new = sym c.contains.ensures ∙ c.if-contains.false in
    let none = rw c.in_default-2.is at f.found in
    record {
      registry = f.grows.registry ∙ i.registry;
      seen = i.seen;
      tells = unknown_told (known c.tries.pass) (known c.references_from.new.pass) c.tries.self.tried c.add.new.self c.tries.self.seen c.args.self.now.seen c.args.self.now.todo c.tries.self.todo c.take_first.new.self c.in-Some.id c.in_ok-add.ensures.ok i.tells new f.others none;
      further = further_then (known c.args.pass.now) (known c.tries.pass) (known c.references_from.new.pass) c.args.self.now.tried c.tries.self.tried c.add.new.self i.further (step_further (known c.tries.pass) (known c.references_from.new.pass) c.tries.self.tried c.add.new.self c.tries.self.seen c.args.self.now.seen c.args.self.now.todo c.tries.self.todo c.take_first.new.self c.in-Some.id c.in_ok-add.ensures.ok new f.others);
      leads = unknown_step (known c.tries.pass) (known c.references_from.new.pass) c.tries.self.tried c.add.new.self c.tries.self.seen c.args.self.now.seen c.args.self.now.todo c.tries.self.todo c.take_first.new.self c.in-Some.id c.in_ok-add.ensures.ok c.in-Some.ensures new f.others none i.leads;
      grows = grows_then _ _ _ i.grows f.grows;
    }

pub returns-in-Some-2-clause-visits : goal.returns-in-Some-2-clause-visits
returns-in-Some-2-clause-visits g c =
    let i = c.tries.invariant in
    let f = c.in_ok-references.ensures in
    let new = sym c.contains.ensures ∙ c.if-contains.false in
    let found = rw c.in-Some-2.is at f.found in
    λ yes. visit_step (known c.tries.pass) (known c.references_from.new.pass) c.tries.self.tried c.add.new.self c.tries.self.seen c.args.self.now.seen c.args.self.now.todo c.tries.self.todo c.take_first.new.self c.in-Some.id c.put_before.new.self c.push.new.self c.in-Some-2.references found.0 c.in_ok-add.ensures.ok c.in-Some.ensures (c.in_ok-put_before.ensures ∙ ap (λ r. r ++ c.take_first.new.self) c.as_slice.ensures) c.in_ok-push.ensures.ok found.2 i.tells new f.others found.1 i.leads

pub returns-in-Some-2-clause-tells : goal.returns-in-Some-2-clause-tells
returns-in-Some-2-clause-tells g c =
    let i = c.tries.invariant in
    let f = c.in_ok-references.ensures in
    visit_told (known c.tries.pass) (known c.references_from.new.pass) c.tries.self.tried c.add.new.self c.tries.self.seen c.args.self.now.seen c.args.self.now.todo c.tries.self.todo c.take_first.new.self c.in-Some.id c.push.new.self c.in_ok-add.ensures.ok c.in_ok-push.ensures.ok i.tells (sym c.contains.ensures ∙ c.if-contains.false) f.others

pub returns-in-Some-2-clause-further : goal.returns-in-Some-2-clause-further
returns-in-Some-2-clause-further g c =
    let i = c.tries.invariant in
    let f = c.in_ok-references.ensures in
    further_then (known c.args.pass.now) (known c.tries.pass) (known c.references_from.new.pass) c.args.self.now.tried c.tries.self.tried c.add.new.self i.further (step_further (known c.tries.pass) (known c.references_from.new.pass) c.tries.self.tried c.add.new.self c.tries.self.seen c.args.self.now.seen c.args.self.now.todo c.tries.self.todo c.take_first.new.self c.in-Some.id c.in_ok-add.ensures.ok (sym c.contains.ensures ∙ c.if-contains.false) f.others)

pub returns-clause-none : goal.returns-clause-none
returns-clause-none g c = λ no. none_left (known c.tries.pass) c.tries.self.tried c.tries.self.seen c.args.self.now.seen c.args.self.now.todo c.tries.self.todo c.take_first.new.self c.in_default.ensures.0 c.in_default.ensures.1 c.tries.invariant.leads
