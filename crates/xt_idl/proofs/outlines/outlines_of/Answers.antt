use Rattle.std.proofs.Common.{arith}
use Rattle.xt_idl.proofs.Outlined.{outlined_more}
use Rattle.xt_idl.proofs.outlines.outlines_of.Goals as goal

pub loop-at-preserved : goal.loop-at-preserved
loop-at-preserved c =
    outlined_more c.args.types.now c.loop-at.at c.index-types-at.result (omega (arith, c.loop-at-test.true)) c.index-types-at.is c.loop-at.row c.push.new.self _ c.in_ok-push.ensures.ok c.loop-at.invariant c.in_ok-name.ensures (rw c.in-Some.is at c.in_ok-ty.ensures)
