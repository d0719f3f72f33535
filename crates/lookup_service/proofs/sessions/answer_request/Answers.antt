use Rattle.lookup_service.proofs.Going.{breaks_in}
use Rattle.lookup_service.proofs.sessions.answer_request.Goals as goal

pub returns-clause-broken : goal.returns-clause-broken
returns-clause-broken g c = breaks_in _ _ _ _ _ _ _ _ _ _ c.in-Ok.ensures.step c.before_reply.ensures c.send.ensures.outside c.send.ensures.prefix
