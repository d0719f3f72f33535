use Rattle.std.proofs.Common.{◌∙◌, arith}
use Rattle.idl_types.specs.Definitions.{declared, members_before}
use Rattle.xt_idl.proofs.Measuring.{member_on}
use Rattle.xt_idl.proofs.measures.measure_members.Goals as goal

pub loop-member-preserved : goal.loop-member-preserved
loop-member-preserved c =
    let ts = declared c.args.known.now.types.now in
    c.with_member-sum.ensures ∙ member_on ts (members_before ts c.args.base) c.args.own.now c.loop-member.member-index c.member-item.result (omega (arith, c.loop-member-test.true)) c.member-item.is c.loop-member.sum c.measure_use-measure.result c.loop-member.invariant c.measure_use-measure.ensures
