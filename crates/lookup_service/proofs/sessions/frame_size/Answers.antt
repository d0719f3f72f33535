use Rattle.std.proofs.Common.{◌∙◌, ◌+◌, sym, ap}
use Rattle.lookup_service.proofs.Going.{frame_long}
use Rattle.lookup_service.proofs.sessions.frame_size.Goals as goal

pub returns-clause-size : goal.returns-clause-size
returns-clause-size c = ap (λ n. 4 + n) c.payload_size.ensures ∙ sym (frame_long c.args.message.now)
