use Rattle.std.proofs.Common.{rules, get_or}
use Rattle.lookup_service.specs.workers.Outcomes.{AllWorked, Works}
use Rattle.lookup_service.proofs.OfWorkers.Working.{worked_single, worked_both}
use Rattle.lookup_service.proofs.workers.halves.+fn-work_halves-join_mut+arg2+fn-work_halves-join_mut+arg3+work_halves.Goals as goal

pub returns-then-count-eq1 : goal.returns-then-count-eq1
returns-then-count-eq1 g t c =
    let P = Works g.F.Fn c.args.work.now in
    let one : P (get_or c.args.workers.now 0 c.index-workers-0.result) c.work.new.arg2 c.work.result = search rules in
    worked_single P c.args.workers.now c.index-workers-0.result c.work.new.arg2 c.work.result c.if-count-eq1.true one

pub returns : goal.returns
returns g t c =
    let P = Works g.F.Fn c.args.work.now in
    let cut = c.split_at_mut-front in
    let front : AllWorked P cut.result.0.now c.front-1.given.0 c.join_mut-first.result.0 = search rules in
    let back : AllWorked P cut.result.1.now c.back-1.given.0 c.join_mut-first.result.1 = search rules in
    rw (cut.ensures.value, c.both.ensures) (worked_both P cut.result.0.now cut.result.1.now c.front-1.given.0 c.back-1.given.0 c.join_mut-first.result.0 c.join_mut-first.result.1 front back)
