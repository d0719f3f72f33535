use Rattle.std.proofs.Common.{◌≤◌, ◌∙◌, ap, sym, refl, subst, [], length-take-le, take, arith}
use Rattle.std.proofs.lemmas.Result.{err_from_is_err_and}
use Rattle.type_mirror.specs.told.Rounds.{State, after_put}
use Rattle.type_mirror.proofs.Going.{over_no_memory, over_no_reply, over_said}
use Rattle.type_mirror.proofs.Requesting.{count_most, count_within, count_fits, sizes, put_asked, batch_long}
use Rattle.type_mirror.proofs.rounds.put.Goals as goal

pub returns-in_err-request-clause-goes : goal.returns-in_err-request-clause-goes
returns-in_err-request-clause-goes g c = λ name told.
    let p = err_from_is_err_and c.from_residual.result c.from_residual.ensures.1 in
    rw (p.1, p.2) (over_no_memory name c.args.tag _ _ _ _)

pub returns-in_err-reply-clause-goes : goal.returns-in_err-reply-clause-goes
returns-in_err-reply-clause-goes g c = λ name told.
    let p = err_from_is_err_and c.from_residual-in_err-reply.result c.from_residual-in_err-reply.ensures.1 in
    let state : State = record { told = told; asking = []; rest = c.args.objects.now } in
    rw (p.1, p.2) (over_no_reply name c.args.tag state c.in_ok-request.request (put_asked c.args.tag c.args.objects.now _ c.in_ok-request.request _ c.requires.some c.count_of-count.ensures refl c.in_ok-request.ensures.request) _ _ _ _ _ _ _ c.in_err-reply.ensures.exchanges)

pub returns-clause-goes : goal.returns-clause-goes
returns-clause-goes g c = λ name told.
    let state : State = record { told = told; asking = []; rest = c.args.objects.now } in
    over_said name c.args.tag state c.in_ok-request.request (put_asked c.args.tag c.args.objects.now _ c.in_ok-request.request _ c.requires.some c.count_of-count.ensures refl c.in_ok-request.ensures.request) _ _ _ _ _ _ _ _ c.in_ok-reply.reply c.in_ok-reply.ensures.exchanges
    (λ e. ap (after_put state) (batch_long c.args.tag c.args.objects.now _ c.in_ok-reply.reply c.count_of-count.ensures ∙ e)) (λ found e. ap (after_put state) (batch_long c.args.tag c.args.objects.now _ c.in_ok-reply.reply c.count_of-count.ensures ∙ e)) c.outcomes_in.result c.outcomes_in.ensures.says

pub slice_bounds-put_request-end : goal.slice_bounds-put_request-end
slice_bounds-put_request-end g c = let n = count_within c.args.objects.now in sym (length-take-le c.count_of-count.result c.args.objects.now (omega (arith, n, c.count_of-count.ensures)))

pub put_request-requires-clause-few : goal.put_request-requires-clause-few
put_request-requires-clause-few g c =
    let n = count_within c.args.objects.now in
    let few = count_most c.args.objects.now in
    omega (arith, few, c.count_of-count.ensures, length-take-le c.count_of-count.result c.args.objects.now (omega (arith, n, c.count_of-count.ensures)))

pub put_request-requires-clause-fits : goal.put_request-requires-clause-fits
put_request-requires-clause-fits g c = subst (λ n. sizes (take n c.args.objects.now) ≤ 262131) (sym c.count_of-count.ensures) (count_fits c.args.objects.now)
