use Rattle.std.proofs.lemmas.Result.{err_from_is_err_and}
use Rattle.lookup_fetch.proofs.Exchanging.{not_sent, not_read, nothing_came, came}
use Rattle.type_mirror.proofs.Going.{as_fault}
use Rattle.type_mirror.proofs.rounds.exchange.Goals as goal

pub returns-in_err-write_frame-clause-exchanges : goal.returns-in_err-write_frame-clause-exchanges
returns-in_err-write_frame-clause-exchanges g c =
    let p = err_from_is_err_and c.from_residual.result c.from_residual.ensures.1 in
    let w = c.in_err-write_frame.ensures in
    rw (p.1, p.2) (as_fault c.args.request.now _ _ _ _ _ _ _ (not_sent c.args.request.now _ _ _ _ _ _ _ w.got w.left w.prefix w.fault))

pub returns-in_err-reply-clause-exchanges : goal.returns-in_err-reply-clause-exchanges
returns-in_err-reply-clause-exchanges g c =
    let p = err_from_is_err_and c.from_residual-in_err-reply.result c.from_residual-in_err-reply.ensures.1 in
    let w = c.in_ok-write_frame.ensures in
    let r = c.in_err-reply.ensures in
    rw (p.1, p.2) (as_fault c.args.request.now _ _ _ _ _ _ _ (not_read c.args.request.now _ _ _ _ _ _ _ _ _ w.got w.left w.whole r.taken _ r.octets))

pub returns-in_default-clause-exchanges : goal.returns-in_default-clause-exchanges
returns-in_default-clause-exchanges g c =
    let w = c.in_ok-write_frame.ensures in
    let r = c.in_ok-reply.ensures in
    nothing_came c.args.request.now _ _ _ _ _ _ _ _ _ w.got w.left w.whole r.taken (rw c.in_default.is at r.octets)

pub returns-clause-exchanges : goal.returns-clause-exchanges
returns-clause-exchanges g c =
    let w = c.in_ok-write_frame.ensures in
    let r = c.in_ok-reply.ensures in
    came c.args.request.now _ _ _ _ _ _ _ _ _ w.got w.left w.whole r.taken _ (rw c.in-Some.is at r.octets)
