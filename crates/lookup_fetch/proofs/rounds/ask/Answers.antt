use Rattle.std.proofs.Common.{sym}
use Rattle.std.proofs.lemmas.Result.{err_from_is_err_and}
use Rattle.lookup_fetch.proofs.TakingIn.{new_asked}
use Rattle.lookup_fetch.proofs.Going.{asks_none, asks_unanswered, asks_refused, asks_good}
use Rattle.lookup_fetch.proofs.rounds.ask.Goals as goal

pub take_in-requires : goal.take_in-requires
take_in-requires g c = new_asked c.args.held.now c.args.asked.now c.requires.new

pub returns-in_err-request-clause-asks : goal.returns-in_err-request-clause-asks
returns-in_err-request-clause-asks g c = λ ids planned.
    let p = err_from_is_err_and c.from_residual.result c.from_residual.ensures.1 in
    rw (p.1, p.2) (asks_none ids c.args.tag c.args.held.now _ _ _ _)

pub returns-in_err-reply-clause-asks : goal.returns-in_err-reply-clause-asks
returns-in_err-reply-clause-asks g c = λ ids planned.
    let p = err_from_is_err_and c.from_residual-in_err-reply.result c.from_residual-in_err-reply.ensures.1 in
    rw (p.1, p.2) (asks_unanswered ids c.args.tag c.args.held.now _ c.args.asked.now _ _ _ _ _ _ planned c.in_ok-request.request _ c.in_ok-request.ensures.request c.in_err-reply.ensures.exchanges)

pub returns-in_err-take_in-clause-asks : goal.returns-in_err-take_in-clause-asks
returns-in_err-take_in-clause-asks g c = λ ids planned.
    let p = err_from_is_err_and c.from_residual-in_err-take_in.result c.from_residual-in_err-take_in.ensures.1 in
    rw (p.1, p.2) (asks_refused ids c.args.tag c.args.held.now _ c.args.asked.now _ _ _ _ _ _ planned c.in_ok-request.request c.in_ok-reply.reply _ c.in_ok-request.ensures.request c.in_ok-reply.ensures.exchanges c.in_err-take_in.ensures.fault)

pub returns-clause-asks : goal.returns-clause-asks
returns-clause-asks g c = λ ids planned.
    asks_good ids c.args.tag c.args.held.now _ c.args.asked.now _ _ _ _ _ _ planned c.in_ok-request.request c.in_ok-reply.reply _ c.in_ok-request.ensures.request c.in_ok-reply.ensures.exchanges c.in_ok-take_in.ensures.good c.in_ok-take_in.ensures.held
