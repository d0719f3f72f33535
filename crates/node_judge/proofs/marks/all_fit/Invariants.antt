use Rattle.std.proofs.Common.{◌≡◌, map, drop}
use Rattle.node_judge.specs.Marks.{fits}
use Rattle.node_judge.proofs.marks.all_fit.Given as goal
use Rattle.xt_shapes.specs.Lists.{all}

abbrev pub invariant-loop-other : goal.invariant-loop-other
invariant-loop-other g l =
    all (λ mark. all (λ held. fits held mark) l.block) (map g.T.Marked.mark_of (drop l.other-index l.others)) ≡ all (λ mark. all (λ held. fits held mark) l.block) (map g.T.Marked.mark_of l.others)
