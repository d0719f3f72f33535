use Rattle.std.proofs.Common.{◌∙◌}
use Rattle.node_judge.proofs.MarkSteps.{names_by_marks}
use Rattle.node_judge.proofs.members.same_names.Goals as goal

pub returns : goal.returns
returns g c = c.same_marks.ensures ∙ names_by_marks g.T.Marked.mark_of g.T.MemberView.head_of g.met.T.MemberView.marked c.args.left.now c.args.right.now
