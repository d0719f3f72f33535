use Rattle.std.proofs.Common.{◌∙◌, ◌+◌, sym, ap, subst, refl, arith, List, length, length-append}
use Rattle.std.specs.List.{All}
use Rattle.std.proofs.lemmas.List.Elements.{All-nil, All-push, All-get_or}
use Rattle.type_lookup.specs.declared.messages.messages.Fetched.{Fetched}
use Rattle.type_lookup.specs.messages.Spelling.{IsFetched, IsKnownId, all_octets, fetched_octets}
use Rattle.type_registry.specs.Passed.{known}
use Rattle.type_object.proofs.OfVisits.Left.{next_item}
use Rattle.lookup_service.proofs.OfReplies.Putting.{grows_then, grows_not}
use Rattle.lookup_service.proofs.OfReplies.Getting.{serves_init, asked_unknown, asked_known, asked_full, fits_still, item_put}
use Rattle.lookup_service.proofs.replies.gets.objects.Goals as goal

pub asked-init : goal.asked-init
asked-init g c = record {
  registry = refl;
  serves = serves_init (known c.args.pass.now) c.new-tried.result c.args.ids.now c.new-objects.result c.new-tried.ensures c.new-objects.ensures;
  grows = grows_not _;
  fetched = subst (All IsFetched) (sym c.new-objects.ensures) (All-nil IsFetched);
  few = omega (arith, ap length c.new-objects.ensures);
  fits = omega (arith, ap (λ (o : List Fetched). length (all_octets fetched_octets o)) c.new-objects.ensures);
}

pub asked-preserved-in_default : goal.asked-preserved-in_default
asked-preserved-in_default g c =
    let i = c.asked.invariant in let f = c.in_ok-object.ensures in
    let new = sym c.contains.ensures ∙ c.if-contains.false in
    record {
      registry = f.grows.registry ∙ i.registry;
      serves = asked_unknown (known c.asked.pass) (known c.fetched_of.new.pass) c.asked.tried c.add.new.self c.args.ids.now c.asked.objects c.asked.room _ _ _ c.in_ok-add.ensures.ok (next_item c.args.ids.now c.asked.id-index (c.asked.id-index + 1) _ c.asked-test.true (omega arith)) new f.others (rw c.in_default.is at f.found) i.serves;
      grows = grows_then _ _ _ i.grows f.grows;
      fetched = i.fetched;
      few = omega (arith, i.few);
      fits = i.fits;
    }

pub asked-preserved : goal.asked-preserved
asked-preserved g c =
    let i = c.asked.invariant in let f = c.in_ok-object.ensures in
    let new = sym c.contains.ensures ∙ c.if-contains.false in
    let found = rw c.in-Some.is at f.found in
    let there = found.1 in
    let long = ap (λ n. n + c.len.result) c.head_size.ensures.sum ∙ ap (λ n. 19 + n) c.len.ensures in
    let put = item_put c.asked.objects c.push.new.self _ c.in-Some.object c.in_ok-push.ensures.ok found.0 in
    record {
      registry = f.grows.registry ∙ i.registry;
      serves = asked_known (known c.asked.pass) (known c.fetched_of.new.pass) c.asked.tried c.add.new.self c.args.ids.now c.asked.objects c.asked.room _ _ _ c.in-Some.object.octets (c.head_size.result + c.len.result) c.push.new.self c.in_ok-add.ensures.ok (next_item c.args.ids.now c.asked.id-index (c.asked.id-index + 1) _ c.asked-test.true (omega arith)) new f.others there c.head_size.ensures.hash long c.if-room-size.false put i.serves;
      grows = grows_then _ _ _ i.grows f.grows;
      fetched = subst (All IsFetched) (sym put) (All-push IsFetched c.asked.objects _ i.fetched (All-get_or IsKnownId c.args.ids.now c.asked.id-index _ c.asked-test.true c.requires.known, found.2));
      few = omega (arith, i.few, ap length c.in_ok-push.ensures.ok, length-append {A = Fetched});
      fits = fits_still _ _ _ _ _ _ c.head_size.ensures.hash long c.if-room-size.false put i.fits;
    }

pub returns-then-room-size-clause-served : goal.returns-then-room-size-clause-served
returns-then-room-size-clause-served g c =
    let i = c.asked.invariant in let f = c.in_ok-object.ensures in
    let new = sym c.contains.ensures ∙ c.if-contains.false in
    let found = rw c.in-Some.is at f.found in
    let there = found.1 in
    asked_full (known c.asked.pass) (known c.fetched_of.new.pass) c.asked.tried c.add.new.self c.args.ids.now c.asked.objects c.asked.room _ _ _ c.in-Some.object.octets (c.head_size.result + c.len.result) (next_item c.args.ids.now c.asked.id-index (c.asked.id-index + 1) _ c.asked-test.true (omega arith)) new f.others there c.head_size.ensures.hash (ap (λ n. n + c.len.result) c.head_size.ensures.sum ∙ ap (λ n. 19 + n) c.len.ensures) c.if-room-size.true i.serves

pub returns-in_err-object-clause-grows : goal.returns-in_err-object-clause-grows
returns-in_err-object-clause-grows g c = grows_then _ _ _ c.asked.invariant.grows c.in_err-object.ensures.grows

pub returns-then-room-size-clause-grows : goal.returns-then-room-size-clause-grows
returns-then-room-size-clause-grows g c = grows_then _ _ _ c.asked.invariant.grows c.in_ok-object.ensures.grows

pub returns-in_err-push-clause-grows : goal.returns-in_err-push-clause-grows
returns-in_err-push-clause-grows g c = grows_then _ _ _ c.asked.invariant.grows c.in_ok-object.ensures.grows
