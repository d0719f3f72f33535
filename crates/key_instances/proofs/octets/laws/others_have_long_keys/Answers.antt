use Rattle.key_instances.proofs.OfLengths.Keys.{others_have_long_keys}
use Rattle.key_instances.proofs.octets.laws.others_have_long_keys.Goals as goal

pub returns : goal.returns
returns c = others_have_long_keys
