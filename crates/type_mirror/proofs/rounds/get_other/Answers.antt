use Rattle.std.proofs.Common.{ap, sym, Some, ◌∷◌}
use Rattle.std.proofs.lemmas.Result.{err_from_is_err_and}
use Rattle.type_mirror.specs.told.Rounds.{State, after_clash}
use Rattle.type_mirror.proofs.Going.{over_no_memory, over_no_reply, over_said}
use Rattle.type_mirror.proofs.rounds.get_other.Goals as goal

pub returns-in_err-request-clause-goes : goal.returns-in_err-request-clause-goes
returns-in_err-request-clause-goes g c = λ told outcome later rest.
    let p = err_from_is_err_and c.from_residual.result c.from_residual.ensures.1 in
    rw (p.1, p.2) (over_no_memory g.N.Naming.name c.args.tag _ _ _ _)

pub returns-in_err-reply-clause-goes : goal.returns-in_err-reply-clause-goes
returns-in_err-reply-clause-goes g c = λ told outcome later rest.
    let p = err_from_is_err_and c.from_residual-in_err-reply.result c.from_residual-in_err-reply.ensures.1 in
    rw (p.1, p.2) (over_no_reply g.N.Naming.name c.args.tag (record { told = told; asking = record { object = c.args.object.now; outcome = outcome } ∷ later; rest = rest }) c.in_ok-request.request (ap Some (sym c.in_ok-request.ensures.request)) _ _ _ _ _ _ _ c.in_err-reply.ensures.exchanges)

pub returns-clause-goes : goal.returns-clause-goes
returns-clause-goes g c = λ told outcome later rest.
    let state : State = record { told = told; asking = record { object = c.args.object.now; outcome = outcome } ∷ later; rest = rest } in
    over_said g.N.Naming.name c.args.tag state c.in_ok-request.request (ap Some (sym c.in_ok-request.ensures.request)) _ _ _ _ _ _ _ _ c.in_ok-reply.reply c.in_ok-reply.ensures.exchanges
    (λ e. ap (after_clash state c.args.object.now later) e) (λ found e. ap (after_clash state c.args.object.now later) e) c.clash_in.result c.clash_in.ensures
