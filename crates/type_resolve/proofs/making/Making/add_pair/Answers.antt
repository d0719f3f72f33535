use Rattle.type_resolve.specs.Views.{itself}
use Rattle.type_resolve.proofs.Known.{known_stored}
use Rattle.type_resolve.proofs.making.Making.add_pair.Goals as goal

pub invariant_of-self : goal.invariant_of-self
invariant_of-self c = known_stored itself c.add_pair.result _ _ _ _ _ c.add_pair.ensures c.self.invariant
