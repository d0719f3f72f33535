use Rattle.resolve_laws.proofs.OfParsed.Whole.{parsed_is_named}
use Rattle.resolve_laws.proofs.parsed.laws.parsed_is_named.Goals as goal

pub returns : goal.returns
returns c = parsed_is_named
