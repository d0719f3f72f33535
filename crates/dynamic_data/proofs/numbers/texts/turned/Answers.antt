use Rattle.dynamic_data.proofs.OfNumbers.TextTurns.{no_tree}
use Rattle.dynamic_data.proofs.numbers.texts.turned.Goals as goal

pub returns-in_default : goal.returns-in_default
returns-in_default c = no_tree c.args.octets.now c.in_default.ensures.cases.0
