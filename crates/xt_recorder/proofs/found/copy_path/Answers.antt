use Rattle.std.proofs.Common.{arith}
use Rattle.xt_recorder.proofs.Kept.{one_more, fewer}
use Rattle.xt_recorder.proofs.found.copy_path.Goals as goal

pub push-requires : goal.push-requires
push-requires c = fewer c.args.path.now c.loop-index.copy c.loop-index.index c.len-index-end.result c.loop-index.invariant c.len-index-end.ensures c.loop-index-test.true (omega (arith, c.if-len-gt-MOST_STEPS.false, c.len.ensures, c.len-index-end.ensures))

pub loop-index-preserved : goal.loop-index-preserved
loop-index-preserved c = one_more c.args.path.now c.loop-index.copy c.push.new.self c.loop-index.index c.at.result c.loop-index.invariant c.at.ensures c.push.ensures
