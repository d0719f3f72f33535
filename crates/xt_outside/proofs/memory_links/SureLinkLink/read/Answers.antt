use Rattle.xt_outside.proofs.Giving.{gives-left, gives-got}
use Rattle.xt_outside.proofs.memory_links.SureLinkLink.read.Goals as goal

pub returns-clause-octets : goal.returns-clause-octets
returns-clause-octets c = gives-left c.args.self.now.at _ _ _ c.copy_from-count.ensures.octets c.copy_from-count.ensures.all

pub returns-clause-got : goal.returns-clause-got
returns-clause-got c = gives-got c.args.self.now.at _ _ _ c.copy_from-count.ensures.octets
