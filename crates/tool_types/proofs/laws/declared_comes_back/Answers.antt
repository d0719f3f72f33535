use Rattle.tool_types.proofs.Comes.{declared_comes_back}
use Rattle.tool_types.proofs.laws.declared_comes_back.Goals as goal

pub returns : goal.returns
returns c = declared_comes_back c.parsed_resolves.ensures c.added_are_held.ensures
