use Rattle.idl_laws.proofs.OfParsed.Whole.{parsed_is_printable}
use Rattle.idl_laws.proofs.parsed.laws.parsed_is_printable.Goals as goal

pub returns : goal.returns
returns c = parsed_is_printable
