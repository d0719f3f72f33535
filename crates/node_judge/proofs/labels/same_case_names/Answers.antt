use Rattle.std.proofs.Common.{◌∙◌}
use Rattle.node_judge.proofs.MarkSteps.{case_names_by_marks}
use Rattle.node_judge.proofs.labels.same_case_names.Goals as goal

pub returns : goal.returns
returns g c = c.same_marks.ensures ∙ case_names_by_marks g.T.Marked.mark_of g.T.CaseView.head_of g.met.T.CaseView.marked c.args.left.now c.args.right.now
