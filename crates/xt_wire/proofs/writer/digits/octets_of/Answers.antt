use Rattle.std.proofs.Common.{rules}
use Rattle.xcdr_model.specs.Numbers.{octets}
use Rattle.xt_wire.proofs.writer.digits.octets_of.Goals as goal

pub returns-in-Little : goal.returns-in-Little
unfolding octets
returns-in-Little c = search rules

pub returns-in-Big : goal.returns-in-Big
unfolding octets
returns-in-Big c = search rules
