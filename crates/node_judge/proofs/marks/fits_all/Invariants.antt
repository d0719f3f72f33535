use Rattle.std.proofs.Common.{◌≡◌, ◌&&◌, drop}
use Rattle.node_judge.specs.Marks.{fits}
use Rattle.node_judge.proofs.marks.fits_all.Given as goal
use Rattle.xt_shapes.specs.Lists.{all}

abbrev pub invariant-loop-held : goal.invariant-loop-held
invariant-loop-held l = (l.fit && all (λ held. fits held l.mark) (drop l.held-index l.block)) ≡ all (λ held. fits held l.mark) l.block
