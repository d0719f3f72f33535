use Rattle.tool_verdicts.proofs.Named.{named_are_valid}
use Rattle.tool_verdicts.proofs.laws.named_are_valid.Goals as goal

pub returns : goal.returns
returns c = named_are_valid c.parsed_is_printable.ensures
