use Rattle.std.proofs.Common.{◌∙◌, sym, arith, rules}
use Rattle.type_trees.specs.View.{tree}
use Rattle.type_trees.specs.Bridge.{members_shape}
use Rattle.assignability.proofs.FailureSteps.{key_end, key_passed, key_found, member_depth, depth_positive}
use Rattle.assignability.proofs.tops.key_failure.Goals as goal

pub returns-then-not-key_fits-clause-value : goal.returns-then-not-key_fits-clause-value
returns-then-not-key_fits-clause-value c =
    let is = key_found _ _ _ _ c.loop-member-test.true c.member-item.is c.if-not-key_fits.ensures in rw (c.beneath.ensures.rule, c.beneath.ensures.path, c.here.ensures.rule, c.here.ensures.path) (sym is ∙ c.loop-member.invariant)

pub returns-then-not-key_fits-clause-short : goal.returns-then-not-key_fits-clause-short
returns-then-not-key_fits-clause-short c =
    let deep = member_depth _ _ _ c.loop-member-test.true c.member-item.is in
    let some = depth_positive (tree c.member-item.result.ty) in rw (c.beneath.ensures.path, c.here.ensures.path) (omega (arith, deep, some))

pub loop-member-preserved : goal.loop-member-preserved
loop-member-preserved c = sym (key_passed _ _ _ _ c.loop-member-test.true c.member-item.is c.if-not-key_fits.ensures) ∙ c.loop-member.invariant

pub returns-clause-value : goal.returns-clause-value
returns-clause-value c = sym (key_end c.args.left.now (members_shape c.args.right.now) c.loop-member.member-index (search rules)) ∙ c.loop-member.invariant
