use Rattle.idl_laws.proofs.OfParsed.Whole.{parsed_is_read_again}
use Rattle.idl_laws.proofs.parsed.laws.parsed_is_read_again.Goals as goal

pub returns : goal.returns
returns c = parsed_is_read_again
