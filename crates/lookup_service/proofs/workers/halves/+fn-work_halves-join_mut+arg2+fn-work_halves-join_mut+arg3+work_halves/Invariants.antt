use Rattle.std.proofs.Common.{length}
use Rattle.lookup_service.proofs.workers.halves.+fn-work_halves-join_mut+arg2+fn-work_halves-join_mut+arg3+work_halves.Given as goal

abbrev pub decreases-join_mut+arg2 : goal.decreases-join_mut+arg2
decreases-join_mut+arg2 g l = length l.front.now

abbrev pub decreases-join_mut+arg3 : goal.decreases-join_mut+arg3
decreases-join_mut+arg3 g l = length l.back.now

abbrev pub decreases-work_halves : goal.decreases-work_halves
decreases-work_halves g l = length l.workers.now
