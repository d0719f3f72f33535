use Rattle.std.proofs.Common.{◌∙◌, rules}
use Rattle.node_rules.specs.Table.{struct_head}
use Rattle.node_rules.proofs.Members.{struct_tests}
use Rattle.node_rules.proofs.nodes.struct_fault.Goals as goal

pub returns : goal.returns
returns c = c.first_broken.ensures ∙ struct_tests (struct_head c.args.kind.now) _ _ _ _ _ _ _ _ _ c.as_slice-members.ensures c.struct_names-names.ensures c.hashes_apart-hashes.ensures c.ids_fit-ids.ensures (search rules) c.counted_keyable-keyable.ensures c.keys_discard-discard.ensures (search rules)
