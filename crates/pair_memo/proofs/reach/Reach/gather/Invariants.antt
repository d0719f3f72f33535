use Rattle.std.specs.Prelude.{All}
use Rattle.object_walks.specs.Laws.{IsReached}
use Rattle.pair_memo.proofs.reach.Reach.gather.Given as goal

abbrev pub invariant-loop-at : goal.invariant-loop-at
invariant-loop-at l = All (λ id. IsReached l.pool l.asked id) l.ids.keys
