use Rattle.std.proofs.Common.{◌++◌, ap, ◌∙◌, drop, replicate}
use Rattle.key_instances.proofs.OfOctets.Padded.{padded_is}
use Rattle.key_instances.proofs.octets.hashes.padded.Goals as goal

pub returns : goal.returns
returns c = ap (λ l. l ++ drop c.min-count.result (replicate 16 0)) c.copy_from_slice.ensures.after ∙ padded_is c.args.octets.now c.min-count.result c.min-count.ensures
