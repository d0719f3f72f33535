use Rattle.std.proofs.Common.{◌∙◌, rules}
use Rattle.node_rules.proofs.Members.{mask_tests}
use Rattle.node_rules.proofs.nodes.mask_fault.Goals as goal

pub returns : goal.returns
returns c = c.first_broken.ensures ∙ mask_tests c.args.kind.now.name c.args.kind.now.bits _ _ _ _ _ _ c.as_slice-flags.ensures c.mask_names-names.ensures c.hashes_apart-hashes.ensures (search rules) c.mask_fits-fits.ensures
