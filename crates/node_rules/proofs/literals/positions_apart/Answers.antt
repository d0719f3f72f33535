use Rattle.std.proofs.Common.{◌∙◌, map}
use Rattle.type_trees.specs.Bridge.{flag_shape}
use Rattle.node_rules.proofs.Mapped.{distinct_pos}
use Rattle.node_rules.proofs.literals.positions_apart.Goals as goal

pub returns : goal.returns
returns c = c.all_distinct.ensures ∙ distinct_pos (λ f. f.position) (map flag_shape c.args.flags.now)
