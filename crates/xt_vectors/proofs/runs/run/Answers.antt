use Rattle.std.proofs.Common.{sym, subst, arith}
use Rattle.xt_vectors.specs.declared.runs.Counts.{Counts}
use Rattle.xt_vectors.specs.Laws.{IsSound}
use Rattle.xt_vectors.specs.Runs.{IsBelow, course}
use Rattle.xt_vectors.proofs.Courses.{below_none, below_more, course_more, one_on, summed_up}
use Rattle.xt_vectors.proofs.runs.run.Goals as goal

pub loop-turn-init : goal.loop-turn-init
loop-turn-init c = record {
  state = c.new-draws.ensures;
  counts = c.none-counts.ensures;
  few = subst (λ (k : Counts). IsBelow k 1) (sym c.none-counts.ensures) (below_none 1 (omega arith));
  holds = c.new-hasher.ensures;
}

pub with-counts-requires : goal.with-counts-requires
with-counts-requires c = below_more _ _ _ (omega (arith, c.loop-turn-test.true, c.ranges.count.fits)) c.loop-turn.invariant.few

pub loop-turn-preserved : goal.loop-turn-preserved
loop-turn-preserved c = one_on (course c.args.seed c.loop-turn._turn) c.loop-turn._turn _ _ _ _ _ _ _ _ _ (course_more c.args.seed c.loop-turn._turn) c.loop-turn.invariant c.in_ok-pair.ensures.item c.in_ok-pair.ensures.state c.in_ok-try_pair.ensures.item c.in_ok-try_pair.ensures.hashed c.with-counts.ensures

pub returns : goal.returns
returns c = summed_up c.args.seed c.args.count c.loop-turn._turn _ _ _ _ _ c.loop-turn.invariant (omega (arith, c.loop-turn-test.false, c.loop-turn.auto._turn-end)) c.finalize.ensures c.summary.ensures

pub try_pair-requires : goal.try_pair-requires
try_pair-requires c = subst IsSound (sym c.in_ok-pair.ensures.item) (c.each_is_sound.ensures c.loop-turn.draws.state)
