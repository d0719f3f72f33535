use Rattle.std.proofs.Common.{◌∙◌, sym, true, false, ◌<◌, length, arith}
use Rattle.xcdr_model.specs.Equivalence.{same_flag}
use Rattle.node_judge.proofs.PlaceSteps.{each_unequal, each_step}
use Rattle.node_judge.proofs.equal.same_flags.Goals as goal

pub returns-then-left-right : goal.returns-then-left-right
returns-then-left-right g c = sym (each_unequal same_flag g.T.FlagView.flag_of _ _ c.if-left-right.true)

pub returns-then-not-same_flag : goal.returns-then-not-same_flag
returns-then-not-same_flag g c =
    let within : c.loop-at.at < length c.args.right.now = omega (arith, c.loop-at-test.true, c.loop-at.invariant.1) in
    sym (each_step same_flag g.T.FlagView.flag_of false _ _ _ _ _ c.loop-at-test.true within c.index-left-at.is c.index-right-at.is c.if-not-same_flag.ensures) ∙ c.loop-at.invariant.0

pub loop-at-preserved : goal.loop-at-preserved
loop-at-preserved g c =
    let within : c.loop-at.at < length c.args.right.now = omega (arith, c.loop-at-test.true, c.loop-at.invariant.1) in (
      sym (each_step same_flag g.T.FlagView.flag_of true _ _ _ _ _ c.loop-at-test.true within c.index-left-at.is c.index-right-at.is c.if-not-same_flag.ensures) ∙ c.loop-at.invariant.0,
      c.loop-at.invariant.1,
    )
