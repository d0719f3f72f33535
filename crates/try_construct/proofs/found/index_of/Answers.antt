use Rattle.try_construct.proofs.FoundSteps.{found_before}
use Rattle.try_construct.proofs.found.index_of.Goals as goal

pub returns-in-None : goal.returns-in-None
returns-in-None c = found_before c.args.members.now c.args.id c.min-start.result c.index_between-in-None.result c.index_between-in-None.ensures c.in-None.ensures
