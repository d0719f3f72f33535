use Rattle.std.specs.Prelude.{Err}
use Rattle.std.proofs.lemmas.Result.{err_from_is_err_and}
use Rattle.xt_io.specs.Outside.{Rose}
use Rattle.lookup_service.specs.workers.Outcomes.{AllWorked}
use Rattle.lookup_service.specs.workers.Served.{SeatServed}
use Rattle.lookup_service.proofs.OfWorkers.Working.{worked_more, left_at, one_failed, same_fault}
use Rattle.lookup_service.proofs.workers.workers.serve_workers.Goals as goal

pub returns-in_err-work_all-clause-served : goal.returns-in_err-work_all-clause-served
returns-in_err-work_all-clause-served g c =
    let Q = SeatServed g.N.Naming.name g.D.Door.held g.D.Door.faults g.D.Door.out (λ seat. seat.door) (λ seat. seat.pass) c.args.turns in
    let p = err_from_is_err_and c.from_residual.result c.from_residual.ensures.1 in
    rw (p.1, p.2) (worked_more _ Q _ _ _ (λ x y b w. left_at Q x y w.argument.now w.after_call.now b w.argument_is w.left w.call) c.in_err-work_all.ensures)

pub returns-in_err-work_all-clause-cause : goal.returns-in_err-work_all-clause-cause
returns-in_err-work_all-clause-cause g c e =
    let Q = SeatServed g.N.Naming.name g.D.Door.held g.D.Door.faults g.D.Door.out (λ seat. seat.door) (λ seat. seat.pass) c.args.turns in
    let p = err_from_is_err_and c.from_residual.result c.from_residual.ensures.1 in
    let all : AllWorked Q c.args.seats.now c.work_all.new.workers (Err c.in_err-work_all.field-0.0) = worked_more _ Q _ _ _ (λ x y b w. left_at Q x y w.argument.now w.after_call.now b w.argument_is w.left w.call) c.in_err-work_all.ensures in
    one_failed Q (λ old new. Rose (g.D.Door.faults old.door) (g.D.Door.faults new.door)) c.args.seats.now c.work_all.new.workers (Err c.in_err-work_all.field-0.0) (λ x y b q h. q.cause.failed h) all (same_fault c.in_err-work_all.field-0.0 (rw (p.1, p.2) at e))

pub returns-clause-served : goal.returns-clause-served
returns-clause-served g c =
    let Q = SeatServed g.N.Naming.name g.D.Door.held g.D.Door.faults g.D.Door.out (λ seat. seat.door) (λ seat. seat.pass) c.args.turns in
    worked_more _ Q _ _ _ (λ x y b w. left_at Q x y w.argument.now w.after_call.now b w.argument_is w.left w.call) c.in_ok-work_all.ensures
