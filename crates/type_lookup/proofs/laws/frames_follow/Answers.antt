use Rattle.type_lookup.proofs.Sequences.{stands, is_spelled, one_more}
use Rattle.type_lookup.proofs.laws.frames_follow.Goals as goal

pub returns : goal.returns
returns c = record { stands = stands; spelled = is_spelled; follows = one_more }
