use Rattle.idl_laws.proofs.Whole as whole
use Rattle.idl_laws.proofs.printed_is_read_again.Goals as goal

pub returns : goal.returns
returns c = whole.printed_is_read_again
