use Rattle.std.proofs.Common.{arith}
use Rattle.type_object.proofs.Noted.{members_step}
use Rattle.type_object.proofs.gathering.gather_members.Goals as goal

pub loop-member-preserved : goal.loop-member-preserved
loop-member-preserved c = members_step c.args.members.now c.loop-member.member-index c.member-item.result _ _ _ (omega (arith, c.loop-member-test.true)) c.member-item.is c.in_ok-gather_in.ensures c.loop-member.invariant
