-- What calls of `take` answer, one after another, is the replay.
use Rattle.std.proofs.Common.{◌≡◌, refl, ap, subst, ◌∙◌, List, [], ◌∷◌, map, Option, Some, None, Ok, Err}
use Rattle.type_trees.specs.Trees.{Tree}
use Rattle.xt_io.specs.declared.Item.{Item}
use Rattle.type_object.specs.declared.pool.PoolFault.TheVariants as P
use Rattle.object_walks.specs.declared.resolving.ResolveFault.TheVariants as R
use Rattle.xt_recorder.specs.declared.replayed.Replayed.{Replayed}
use Rattle.xt_recorder.specs.declared.replayed.ReplayFault.{ReplayFault}
use Rattle.xt_recorder.specs.declared.replayed.ReplayFault.TheVariants as faults
use Rattle.xt_recorder.specs.Replays.{State, Answer, Answers, Step, Refusal, misplaced, not_added, unresolved, no_top, taken, and_then, replay_from}
use Rattle.xt_recorder.specs.Answers.{answer, Refuses}
use Rattle.xt_recorder.specs.Laws.{Takes, AreReplayed, TakesAreReplay}
use Rattle.xt_recorder.proofs.Telling.{more, no_item}

pub one_step : (reader : Tree) (s : State) (item : Item) (items : List Item) (r : Step) → taken reader s item ≡ r → replay_from reader s (item ∷ items) ≡ and_then r (more reader items)
unfolding replay_from
one_step reader s item items r e = ap (λ (x : Step). and_then x (more reader items)) e

-- an answer in front of what is replayed
abbrev pub in_front : Answer → Answers → Answers
in_front x found = (x ∷ found.0, found.1)

one_before : (x : Answer) (xs : List Answer) (fault : Option ReplayFault) (found whole : Answers) → whole ≡ in_front x found → AreReplayed xs fault found → AreReplayed (x ∷ xs) fault whole
one_before x xs None found whole e h = e ∙ ap (in_front x) h
one_before x xs (Some faults.OutOfMemory) found whole e h = (h.0, e ∙ ap (in_front x) h.1)
one_before x xs (Some faults.Misplaced) found whole e h = (h.0, h.1, e ∙ ap (in_front x) h.2)
one_before x xs (Some (faults.Pool f)) found whole e h = (h.0, h.1, e ∙ ap (in_front x) h.2)
one_before x xs (Some (faults.Resolve f)) found whole e h = (h.0, h.1, e ∙ ap (in_front x) h.2)
one_before x xs (Some (faults.Top id)) found whole e h = (h.0, h.1, e ∙ ap (in_front x) h.2)

module _ (reader : Tree) (s : State) (item : Item) (items : List Item) where
  abbrev Ended : ReplayFault → Type 0
  Ended fault = (refusal : Refusal) × Refuses fault (Err refusal) × (replay_from reader s (item ∷ items) ≡ ([], Some refusal))

  ended : (fault : ReplayFault) (refusal : Refusal) → taken reader s item ≡ Err refusal → Refuses fault (taken reader s item) → Ended fault
  ended fault refusal e h = (refusal, subst (Refuses fault) e h, one_step reader s item items (Err refusal) e)

  refused_here : (fault : ReplayFault) → Refuses fault (taken reader s item) → AreReplayed [] (Some fault) (replay_from reader s (item ∷ items))
  refused_here faults.OutOfMemory h = (replay_from reader s (item ∷ items), refl)
  refused_here faults.Misplaced h = ended faults.Misplaced misplaced h h
  refused_here (faults.Pool P.OutOfMemory) h = absurd h
  refused_here (faults.Pool (P.Object f)) h = ended (faults.Pool (P.Object f)) (not_added h.0) h.2 h
  refused_here (faults.Pool (P.Clash id)) h = ended (faults.Pool (P.Clash id)) (not_added h.0) h.2 h
  refused_here (faults.Pool P.Full) h = ended (faults.Pool P.Full) (not_added h.0) h.2 h
  refused_here (faults.Resolve R.OutOfMemory) h = absurd h
  refused_here (faults.Resolve (R.Missing id)) h = ended (faults.Resolve (R.Missing id)) (unresolved h.0) h.2 h
  refused_here (faults.Resolve (R.Recursive id)) h = ended (faults.Resolve (R.Recursive id)) (unresolved h.0) h.2 h
  refused_here (faults.Resolve (R.Invalid id f)) h = ended (faults.Resolve (R.Invalid id f)) (unresolved h.0) h.2 h
  refused_here (faults.Top id) h = ended (faults.Top id) (no_top id) h h

takes_from : (reader : Tree) (s : State) (items : List Item) (xs : List Replayed) (fault : Option ReplayFault) → Takes reader s items xs fault → AreReplayed (map answer xs) fault (replay_from reader s items)
takes_from reader s [] [] None t = no_item reader s
takes_from reader s [] [] (Some fault) t = absurd t
takes_from reader s [] (x ∷ xs) fault t = absurd t
takes_from reader s (item ∷ items) [] None t = absurd t
takes_from reader s (item ∷ items) [] (Some fault) t = refused_here reader s item items fault t
takes_from reader s (item ∷ items) (x ∷ xs) fault t =
    one_before (answer x) (map answer xs) fault (replay_from reader t.0 items) (replay_from reader s (item ∷ items)) (one_step reader s item items (Ok (answer x, t.0)) t.1) (takes_from reader t.0 items xs fault t.2)

pub takes_are_replay : TakesAreReplay
takes_are_replay reader pool items xs fault t = takes_from reader (record { pool = pool; stream = None }) items xs fault t
