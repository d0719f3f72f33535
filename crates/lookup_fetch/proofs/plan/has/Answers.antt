use Rattle.std.proofs.Common.{◌∙◌}
use Rattle.lookup_fetch.specs.Rounds.{found_in}
use Rattle.lookup_fetch.proofs.Reaching.{known_is}
use Rattle.lookup_fetch.proofs.plan.has.Goals as goal

pub returns : goal.returns
returns c = c.is_some.ensures ∙ known_is _ c.octets.result (found_in c.args.held.now c.args.id.now) c.octets.ensures.found
