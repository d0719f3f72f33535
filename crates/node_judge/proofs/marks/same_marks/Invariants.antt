use Rattle.std.proofs.Common.{◌≡◌, length, map}
use Rattle.node_judge.specs.Marks.{same_marks}
use Rattle.node_judge.proofs.marks.same_marks.Given as goal

abbrev pub invariant-loop-rest : goal.invariant-loop-rest
invariant-loop-rest g l = same_marks (map g.T.Marked.mark_of l.rest) (map g.T.Marked.mark_of l.right) ≡ same_marks (map g.T.Marked.mark_of l.left) (map g.T.Marked.mark_of l.right)

abbrev pub decreases-loop-rest : goal.decreases-loop-rest
decreases-loop-rest g l = length l.rest
