use Rattle.type_trees.proofs.Labels.{label_met}
use Rattle.type_trees.proofs.cases.is_met.Goals as goal

pub returns-in-Ok : goal.returns-in-Ok
returns-in-Ok c = λ yes. label_met c.args.labels.now c.in-Ok.field-0 c.args.label.now c.in-Ok.ensures.bound c.in-Ok.ensures.ok
