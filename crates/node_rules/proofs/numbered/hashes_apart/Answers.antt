use Rattle.std.proofs.Common.{◌∙◌}
use Rattle.type_trees.specs.Bridge.{name_number}
use Rattle.node_rules.proofs.Mapped.{distinct_pos}
use Rattle.node_rules.proofs.numbered.hashes_apart.Goals as goal

pub returns : goal.returns
returns g c = c.all_distinct.ensures ∙ distinct_pos (λ x. name_number (g.T.HasName.name_of x)) c.args.items.now
