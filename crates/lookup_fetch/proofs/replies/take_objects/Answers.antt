use Rattle.std.proofs.Common.{◌∙◌, ◌+◌, ◌++◌, List, [], refl, sym, ap, subst, arith, map, take, drop, take_all, append-nil}
use Rattle.std.proofs.lemmas.Result.{err_from_is_err_and}
use Rattle.type_trees.specs.declared.types.HashId.{HashId}
use Rattle.type_object.proofs.OfVisits.Left.{past_end}
use Rattle.type_lookup.specs.declared.messages.messages.Fetched.{Fetched}
use Rattle.lookup_fetch.specs.Rounds.{fault_in, text_of}
use Rattle.lookup_fetch.specs.Taking.{AreNew}
use Rattle.lookup_fetch.proofs.TakingIn.{fault_then, new_still, new_among, next_object, fault_here, fault_next, fault_all, held_next}
use Rattle.lookup_fetch.proofs.replies.take_objects.Goals as goal

pub objects-init : goal.objects-init
objects-init c = record {
  held = sym (append-nil c.args.held.now);
  new = subst (AreNew c.args.held.now c.args.asked.now) (sym c.new-before.ensures) c.requires;
  faults = ap (λ (o : List HashId). fault_in c.args.asked.now o c.args.objects.now) (sym c.new-before.ensures);
}

pub take_object-requires : goal.take_object-requires
take_object-requires c = new_among c.objects.held c.args.asked.now c.in_ok-among.among c.objects.before c.in_ok-among.ensures c.objects.invariant.new

pub objects-preserved : goal.objects-preserved
objects-preserved c =
    let i = c.objects.invariant in
    let t = c.in_ok-take_object.ensures in
    let next = next_object c.args.objects.now c.objects.object-index (c.objects.object-index + 1) c.object-item.result c.object-item.result c.objects-test.true refl c.object-item.is in
    record {
      held = held_next c.args.held.now c.objects.held c.take_object.new.held c.args.objects.now c.objects.object-index (c.objects.object-index + 1) c.object-item.result c.object-item.result c.objects-test.true c.object-item.is refl t.held i.held;
      new = new_still c.objects.held c.take_object.new.held c.args.asked.now c.objects.before c.add.new.self c.object-item.result.id c.object-item.result.octets t.held c.in_ok-add.ensures.ok i.new;
      faults = fault_next c.args.asked.now c.in_ok-among.among c.objects.before c.args.objects.now (drop c.objects.object-index c.args.objects.now) (drop (c.objects.object-index + 1) c.args.objects.now) c.object-item.result c.add.new.self next c.in_ok-among.ensures t.good c.in_ok-add.ensures.ok i.faults;
    }

pub returns-in_err-take_object-clause-fault : goal.returns-in_err-take_object-clause-fault
returns-in_err-take_object-clause-fault c =
    let p = err_from_is_err_and c.from_residual-in_err-take_object.result c.from_residual-in_err-take_object.ensures.1 in
    let next = next_object c.args.objects.now c.objects.object-index (c.objects.object-index + 1) c.object-item.result c.object-item.result c.objects-test.true refl c.object-item.is in
    rw (p.1, p.2) (fault_then _ _ _ (fault_here c.args.asked.now c.in_ok-among.among c.objects.before c.args.objects.now _ _ c.object-item.result next c.in_ok-among.ensures c.objects.invariant.faults) c.in_err-take_object.ensures.fault)

pub returns-clause-good : goal.returns-clause-good
returns-clause-good c = fault_all c.args.asked.now c.objects.before c.args.objects.now _ (past_end c.args.objects.now c.objects.object-index (let e = c.objects.auto.object-index-end in omega (arith, e, c.objects-test.false))) c.objects.invariant.faults

pub returns-clause-held : goal.returns-clause-held
returns-clause-held c = c.objects.invariant.held ∙ ap (λ (o : List Fetched). c.args.held.now ++ map text_of o) (take_all _ _ (let e = c.objects.auto.object-index-end in omega (arith, e, c.objects-test.false)))
