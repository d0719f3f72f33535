use Rattle.std.proofs.Common.{arith}
use Rattle.lookup_service.proofs.OfReplies.Framed.{dependencies_frame}
use Rattle.lookup_service.proofs.replies.answers.dependencies.Goals as goal

pub returns-clause-frame : goal.returns-clause-frame
returns-clause-frame g c = dependencies_frame _ _ _ c.in_ok-needed.ensures.good c.in_ok-needed.ensures.range (omega (arith, c.in_ok-needed.ensures.count, c.page_ids.ensures.few)) c.in_ok-point.ensures.size
