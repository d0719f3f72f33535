-- What the answers of a Replayer stand for (this profile's own).
use Rattle.std.specs.Prelude.{◌≡◌, Err}
use Rattle.assignability.specs.Views.{verdict_view}
use Rattle.settled_parts.specs.Settling.{outcome_val}
use Rattle.type_object.specs.declared.pool.PoolFault.TheVariants as P
use Rattle.type_object.specs.Faults as pool_faults
use Rattle.type_object.specs.Pools as pools
use Rattle.object_walks.specs.declared.resolving.ResolveFault.TheVariants as R
use Rattle.object_walks.specs.Walking as walk_faults
use Rattle.object_walks.specs.Resolving as walks
use Rattle.xt_recorder.specs.declared.replayed.Replayed.{Replayed}
use Rattle.xt_recorder.specs.declared.replayed.Replayed.TheVariants as replayed
use Rattle.xt_recorder.specs.declared.replayed.ReplayFault.{ReplayFault}
use Rattle.xt_recorder.specs.declared.replayed.ReplayFault.TheVariants as faults
use Rattle.xt_recorder.specs.Replays.{Step, Answer, nothing, begins, reads, malformed, misplaced, not_added, unresolved, no_top}

abbrev pub answer : Replayed → Answer
answer replayed.Nothing = nothing
answer (replayed.Stream id rep verdict) = begins id rep (verdict_view verdict)
answer (replayed.Read outcome) = reads (outcome_val outcome)
answer (replayed.Malformed at why) = malformed (record { at = at; why = why })

-- what a fault says of a record; nothing, where memory is wanting. Neither a pool's fault nor a walk's is its own want of memory.
abbrev pub Refuses : ReplayFault → Step → Type 0
Refuses faults.Misplaced step = step ≡ Err misplaced
Refuses (faults.Pool P.OutOfMemory) step = ⊥
Refuses (faults.Pool fault) step = (refusal : pools.Refusal) × pool_faults.Refuses {A = pools.Texts} fault (Err refusal) × (step ≡ Err (not_added refusal))
Refuses (faults.Resolve R.OutOfMemory) step = ⊥
Refuses (faults.Resolve fault) step = (refusal : walks.Refusal) × walk_faults.Refuses {A = pools.Texts} fault (Err refusal) × (step ≡ Err (unresolved refusal))
Refuses (faults.Top id) step = step ≡ Err (no_top id)
Refuses faults.OutOfMemory step = Unit {0}
