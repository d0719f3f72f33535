use denote.RattleType.{RattleType}
use denote.Struct.Owning
use denote.Struct.Struct
use denote.Param.Send.{IsSync, sendable}
use Rattle.type_registry.proofs.OfNotes.Knows.{knows_keyless}
use Rattle.type_registry.specs.contracts.notes.knowledge.Knowledge.{the_row, the_type}

pub sync : (T : RattleType) → IsSync (the_row T)
sync T = let fields : IsSync (denote.Struct.Struct.Struct (denote.Struct.Owning.shape (the_type T))) = search sendable depth 20 in
    record { shared = λ d b o κ. (fields.shared (tt, tt) b o κ, knows_keyless T d.facts) }
