use Rattle.std.proofs.Common.{◌+◌, sym, ap, subst, arith, drop}
use Rattle.std.specs.List.{All}
use Rattle.std.proofs.lemmas.List.Elements.{All-nil}
use Rattle.type_object.proofs.OfVisits.Left.{next_item, past_end}
use Rattle.lookup_fetch.specs.Plans.{IsOwn}
use Rattle.lookup_fetch.specs.Rounds.{found_in}
use Rattle.lookup_fetch.proofs.Reaching.{gathers_none, gathers_more, gathers_not, gathers_all, item_put, more_own}
use Rattle.lookup_fetch.proofs.plan.objects.Goals as goal

pub met-init : goal.met-init
met-init c = record {
  gathers = gathers_none (found_in c.args.held.now) c.args.met.now c.new-objects.result c.new-objects.ensures;
  own = subst (All IsOwn) (sym c.new-objects.ensures) (All-nil IsOwn);
}

pub met-preserved : goal.met-preserved
met-preserved c =
    let i = c.met.invariant in
    let put = item_put c.met.objects c.push.new.self _ _ _ c.in_ok-push.ensures.ok c.in_ok-octets.ensures in
    record {
      gathers = gathers_more (found_in c.args.held.now) c.args.met.now _ _ c.met.objects c.push.new.self _ _ (next_item c.args.met.now c.met.id-index (c.met.id-index + 1) _ c.met-test.true (omega arith)) (sym c.in-Some.ensures.found) put i.gathers;
      own = more_own c.met.objects c.push.new.self _ _ put i.own c.in-Some.ensures.own;
    }

pub returns-in_default-clause-objects : goal.returns-in_default-clause-objects
returns-in_default-clause-objects c = gathers_not (found_in c.args.held.now) c.args.met.now _ _ c.met.objects _ (next_item c.args.met.now c.met.id-index (c.met.id-index + 1) _ c.met-test.true (omega arith)) (sym c.in_default.ensures.found) c.met.invariant.gathers

pub returns-clause-objects : goal.returns-clause-objects
returns-clause-objects c = gathers_all (found_in c.args.held.now) c.args.met.now (drop c.met.id-index c.args.met.now) c.met.objects (past_end c.args.met.now c.met.id-index (let e = c.met.auto.id-index-end in omega (arith, e, c.met-test.false))) c.met.invariant.gathers
