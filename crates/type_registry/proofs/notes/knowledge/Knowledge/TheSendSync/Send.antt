use denote.RattleType.{RattleType}
use denote.Param.Send.{IsSend}
use Rattle.type_registry.proofs.OfNotes.Knows.{knows_keyless}
use Rattle.type_registry.specs.contracts.notes.knowledge.Knowledge.{the_row}

pub send : (T : RattleType) → IsSend (the_row T)
send T = record { owned = λ d vs. ((λ vss. (tt, ((λ uss. (tt, tt)), tt))), knows_keyless T d.facts); leaving = λ k f vs. tt }
