use Rattle.type_rules.proofs.OfFaultless.Parts.{each_part_is_valid}
use Rattle.type_rules.proofs.faultless.each_part_is_valid.Goals as goal

pub returns : goal.returns
returns c = each_part_is_valid
