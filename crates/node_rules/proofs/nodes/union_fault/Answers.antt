use Rattle.std.proofs.Common.{◌∙◌, rules}
use Rattle.node_rules.specs.Table.{union_head}
use Rattle.node_rules.proofs.Members.{union_tests}
use Rattle.node_rules.proofs.nodes.union_fault.Goals as goal

pub returns : goal.returns
returns c = c.first_broken.ensures ∙ union_tests (union_head c.args.kind.now) _ _ _ _ _ _ _ _ _ _ c.as_slice-cases.ensures c.union_names-names.ensures c.hashes_apart-hashes.ensures c.ids_fit-ids.ensures (search rules) (search rules) c.is_discriminator-disc.ensures c.labels_hold-labels.ensures
