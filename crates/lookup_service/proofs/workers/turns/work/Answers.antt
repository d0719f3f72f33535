use Rattle.std.proofs.Common.{◌≡◌, ◌∙◌, refl, arith, rules}
use Rattle.lookup_service.proofs.OfReplies.Putting.{grows_then, grows_not}
use Rattle.lookup_service.proofs.OfWorkers.Serving.{served_none, served_turn, served_refused, served_all, holds_none, holds_turn, cause_refused, cause_all}
use Rattle.lookup_service.proofs.workers.turns.work.Goals as goal

pub turns-init : goal.turns-init
turns-init g c = record {
  served = served_none _ _ _;
  all_turns = holds_none _;
  registry = refl;
  grows = grows_not _;
  none_out = c.requires.none_out;
  later = omega arith;
}

pub turns-preserved : goal.turns-preserved
turns-preserved g c =
    let i = c.turns.invariant in let a = c.in-Ok.ensures in let s = c.session-ended.ensures in let e = c.end_link.ensures in let w = c.still_suffices-sufficed.ensures in
    record {
      served = served_turn _ _ _ _ _ _ _ _ _ _ _ _ _ _ _ _ _ _ _ _ w.before w.memory a.held c.holds.ensures a.link s.session s.cause e.held i.served;
      all_turns = holds_turn _ _ _ _ _ _ a.held e.held i.all_turns;
      registry = s.grows.registry ∙ i.registry;
      grows = grows_then _ _ _ i.grows s.grows;
      none_out = e.out;
      later = (let x = i.later in let y = a.cause.later in let z = e.count in omega (arith, x, y, z));
    }

pub returns-in-Err-clause-served : goal.returns-in-Err-clause-served
returns-in-Err-clause-served g c = let i = c.turns.invariant in let a = c.in-Err.ensures in record {
  served = served_refused _ _ _ _ _ _ _ _ _ c.in-Err.fault a.held (omega (arith, c.turns-test.true)) i.served;
  grows = i.grows;
  none_out = a.refused;
  cause = cause_refused _ _ _ c.in-Err.fault i.later a.cause;
}

pub returns-in-Err-clause-fewer : goal.returns-in-Err-clause-fewer
returns-in-Err-clause-fewer g c = (c.turns.turn, omega (arith, c.turns-test.true), rw c.in-Err.ensures.held c.turns.invariant.all_turns)

pub returns-clause-served : goal.returns-clause-served
returns-clause-served g c = let i = c.turns.invariant in let all : c.turns.turn ≡ c.args.turns = search rules in record {
  served = served_all _ c.turns.sufficed _ _ _ _ _ _ all i.served;
  grows = i.grows;
  none_out = i.none_out;
  cause = cause_all _ _ c.turns.sufficed i.later;
}

pub returns-clause-all_turns : goal.returns-clause-all_turns
returns-clause-all_turns g c = let all : c.turns.turn ≡ c.args.turns = search rules in rw (← all) c.turns.invariant.all_turns
