use Rattle.type_resolve.proofs.Again.{resolves_again}
use Rattle.type_resolve.proofs.laws.resolves_again.Goals as goal

pub returns : goal.returns
returns c = resolves_again
