use Rattle.type_lookup.proofs.Following.{front_is}
use Rattle.type_lookup.proofs.frame.read_frame.Goals as goal

pub returns-clause-front : goal.returns-clause-front
returns-clause-front g c = front_is _ _ _ _ _ c.take_frame.ensures.octets
