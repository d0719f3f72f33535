use Rattle.std.proofs.Common.{refl}
use Rattle.type_resolve.proofs.Known.{held_after}
use Rattle.type_resolve.proofs.defining.add_objects.Goals as goal

pub keep-requires-clause-held : goal.keep-requires-clause-held
keep-requires-clause-held c = held_after refl c.in_ok-ids.ensures.0
