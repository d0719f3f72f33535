use Rattle.type_rules.proofs.OfFaultless.Nodes.{each_rule_holds}
use Rattle.type_rules.proofs.faultless.each_rule_holds.Goals as goal

pub returns : goal.returns
returns c = each_rule_holds
