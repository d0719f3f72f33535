use Rattle.xt_calls.proofs.Ties.{commands_agree}
use Rattle.xt_calls.proofs.laws.commands_agree.Goals as goal

pub returns : goal.returns
returns c = commands_agree
