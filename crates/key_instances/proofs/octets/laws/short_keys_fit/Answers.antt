use Rattle.key_instances.proofs.OfLengths.Keys.{short_keys_fit}
use Rattle.key_instances.proofs.octets.laws.short_keys_fit.Goals as goal

pub returns : goal.returns
returns c = short_keys_fit
