use Rattle.std.proofs.Common.{◌∙◌, sym, ap, subst, map, take_all, List, ℕ, arith}
use Rattle.type_lookup.specs.declared.messages.messages.Fetched.{Fetched}
use Rattle.type_lookup.specs.declared.messages.messages.Message.TheVariants.{PutTypes}
use Rattle.type_lookup.specs.messages.Spelling.{HasFrame}
use Rattle.type_mirror.specs.told.Rounds.{octets_of}
use Rattle.type_mirror.proofs.Requesting.{copied_next, puts_frame}
use Rattle.type_mirror.proofs.requests.put_request.Goals as goal

pub objects-init : goal.objects-init
objects-init c = record { copied = c.new-texts.ensures }

pub objects-preserved : goal.objects-preserved
objects-preserved c = record {
  copied = copied_next c.objects.texts c.push.new.self c.args.objects.now c.objects.object-index c.object-item.result c.object-item.result _ c.objects-test.true c.object-item.is (c.in_ok-from_octets.ensures ∙ c.octets.ensures) c.in_ok-push.ensures.ok c.objects.invariant.copied;
}

pub returns-clause-request : goal.returns-clause-request
returns-clause-request c =
    let all = take_all c.objects.object-index c.args.objects.now (let e = c.objects.auto.object-index-end in omega (arith, e, c.objects-test.false)) in
    ap (PutTypes c.args.tag) (c.objects.invariant.copied ∙ ap (λ (o : List Fetched). map octets_of o) all)

pub returns-clause-frame : goal.returns-clause-frame
returns-clause-frame c =
    let all = take_all c.objects.object-index c.args.objects.now (let e = c.objects.auto.object-index-end in omega (arith, e, c.objects-test.false)) in
    let put = c.objects.invariant.copied ∙ ap (λ (o : List Fetched). map octets_of o) all in
    subst (λ (o : List (List ℕ)). HasFrame (PutTypes c.args.tag o)) (sym put) (puts_frame c.args.tag c.args.objects.now c.requires.short c.requires.few c.requires.fits)
