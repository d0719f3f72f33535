use Rattle.resolve_laws.proofs.OfParsed.Defined.{parsed_has_objects}
use Rattle.resolve_laws.proofs.parsed.defining.parsed_has_objects.Goals as goal

pub returns : goal.returns
returns c = parsed_has_objects
