use Rattle.resolve_laws.proofs.Resolving.{parts_resolve}
use Rattle.resolve_laws.proofs.laws.parts_resolve.Goals as goal

pub returns : goal.returns
returns c = parts_resolve
