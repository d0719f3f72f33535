use Rattle.resolve_laws.proofs.OfParsed.Whole.{parsed_resolves}
use Rattle.resolve_laws.proofs.parsed.laws.parsed_resolves.Goals as goal

pub returns : goal.returns
returns c = parsed_resolves
