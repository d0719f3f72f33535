use Rattle.type_mirror.proofs.OfTold.Session.{session}
use Rattle.type_mirror.proofs.OfTold.Ordering.{order}
use Rattle.type_mirror.proofs.OfTold.Replying.{by_replies}
use Rattle.type_mirror.proofs.OfTold.Telling.{good, both}
use Rattle.type_mirror.proofs.told.laws.pushes_tell.Goals as goal

pub returns-clause-order : goal.returns-clause-order
returns-clause-order c = order

pub returns-clause-replies : goal.returns-clause-replies
returns-clause-replies c = by_replies

pub returns-clause-session : goal.returns-clause-session
returns-clause-session c = session

pub returns-clause-good : goal.returns-clause-good
returns-clause-good c = good

pub returns-clause-both : goal.returns-clause-both
returns-clause-both c = both
