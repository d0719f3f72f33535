use Rattle.std.proofs.Common.{◌∙◌, sym, true, false}
use Rattle.node_judge.proofs.MarkSteps.{block_step}
use Rattle.node_judge.proofs.marks.same_marks.Goals as goal

pub returns-then-not-block_fits : goal.returns-then-not-block_fits
returns-then-not-block_fits g c = sym (block_step g.T.Marked.mark_of false 256 _ _ _ _ c.split_at.ensures.front c.split_at.ensures.back c.if-not-block_fits.ensures) ∙ c.loop-rest.invariant

pub loop-rest-preserved : goal.loop-rest-preserved
loop-rest-preserved g c = sym (block_step g.T.Marked.mark_of true 256 _ _ _ _ c.split_at.ensures.front c.split_at.ensures.back c.if-not-block_fits.ensures) ∙ c.loop-rest.invariant
