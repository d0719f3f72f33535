use Rattle.std.proofs.Common.{◌∙◌, refl, arith}
use Rattle.std.proofs.lemmas.Result.{err_from_is_err_and}
use Rattle.lookup_fetch.proofs.Going.{started, one_round, last_round, stopped_round, no_more}
use Rattle.lookup_fetch.proofs.fetches.fetch.Goals as goal

pub rounds-init : goal.rounds-init
rounds-init g c = record {
  going = started c.args.ids.now c.new-held.result _ _ _ c.new-held.ensures;
  later = omega arith;
  same = refl;
}

pub rounds-preserved : goal.rounds-preserved
rounds-preserved g c = let i = c.rounds.invariant in let r = c.in_ok-last.ensures in record {
  going = one_round _ _ _ _ _ _ _ _ _ _ _ _ _ i.going (rw c.in_default.is at r.round);
  later = omega (arith, i.later, r.cause.later);
  same = r.same ∙ i.same;
}

pub returns-in_err-last-clause-fetches : goal.returns-in_err-last-clause-fetches
returns-in_err-last-clause-fetches g c =
    let p = err_from_is_err_and c.from_residual.result c.from_residual.ensures.1 in
    rw (p.1, p.2) (stopped_round _ _ _ _ _ _ _ _ _ _ _ _ _ c.rounds.invariant.going _ c.in_err-last.ensures.round)

pub returns-in-Some-clause-fetches : goal.returns-in-Some-clause-fetches
returns-in-Some-clause-fetches g c = last_round _ _ _ _ _ _ _ _ _ _ _ _ _ c.rounds.invariant.going c.in-Some.objects (rw c.in-Some.is at c.in_ok-last.ensures.round)

pub returns-in-Some-clause-own : goal.returns-in-Some-clause-own
returns-in-Some-clause-own g c = rw c.in-Some.is at c.in_ok-last.ensures.own

pub returns-clause-fetches : goal.returns-clause-fetches
returns-clause-fetches g c = no_more _ _ _ _ _ _ _ _ _ c.rounds.invariant.going
