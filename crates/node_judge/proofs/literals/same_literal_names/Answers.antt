use Rattle.std.proofs.Common.{◌∙◌}
use Rattle.node_judge.proofs.MarkSteps.{literal_names_by_marks}
use Rattle.node_judge.proofs.literals.same_literal_names.Goals as goal

pub returns : goal.returns
returns g c = c.same_marks.ensures ∙ literal_names_by_marks g.T.Marked.mark_of g.T.LiteralView.literal_of g.met.T.LiteralView.marked c.args.left.now c.args.right.now
