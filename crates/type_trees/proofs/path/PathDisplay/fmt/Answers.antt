use Rattle.std.proofs.Common.{rules, sym}
use Rattle.std.proofs.Output.{has_written_append, has_written_of_eq}
use Rattle.xt_shapes.specs.declared.leaves.Step.TheVariants.{Member}
use Rattle.type_trees.proofs.Steps.{steps_more}
use Rattle.type_trees.proofs.path.PathDisplay.fmt.Goals as goal

pub loop-step-preserved : goal.loop-step-preserved
loop-step-preserved g c = λ plain.
    let before = c.loop-step.invariant plain in
    has_written_of_eq _ _ _ _ _ (sym (steps_more c.as_slice-step-items.result.now c.loop-step.step-index (Member 0) c.loop-step-test.true))
    (has_written_append _ _ _ _ _ _ before (c.in_ok-write.ensures.writes before.plain (search rules)))
