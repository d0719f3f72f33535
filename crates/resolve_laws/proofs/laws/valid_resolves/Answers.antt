use Rattle.resolve_laws.proofs.Resolving.{valid_resolves}
use Rattle.resolve_laws.proofs.laws.valid_resolves.Goals as goal

pub returns : goal.returns
returns c = valid_resolves
