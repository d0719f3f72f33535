use Rattle.std.proofs.Common.{◌∙◌, rules}
use Rattle.node_rules.proofs.Members.{enum_tests}
use Rattle.node_rules.proofs.nodes.enum_fault.Goals as goal

pub returns : goal.returns
returns c = c.first_broken.ensures ∙ enum_tests c.args.kind.now.name c.args.kind.now.ext c.args.kind.now.bits _ _ _ _ _ _ c.as_slice-literals.ensures c.enum_names-names.ensures c.hashes_apart-hashes.ensures (search rules) c.enum_fits-fits.ensures
