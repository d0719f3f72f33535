-- The laws of recordings.
use Rattle.std.proofs.Common.{◌≡◌, refl, ap, ◌∙◌, Bool, true, false, List, [], ◌∷◌, map, Option, Some, None, Result, Ok, if◌then◌else◌, inr}
use Rattle.type_trees.specs.Trees.{Tree}
use Rattle.type_trees.specs.Bridge.{shape}
use Rattle.type_rules.specs.Laws.{ShapeKeepsRules}
use Rattle.xt_io.specs.declared.Item.{Item}
use Rattle.xt_io.specs.declared.Kind.{Kind}
use Rattle.xcdr_model.specs.declared.malformed.Fault.{Fault}
use Rattle.xcdr_model.specs.Policies.{standard}
use Rattle.xcdr_model.specs.Samples.{Outcome, projection, read_sample}
use Rattle.shape_laws.specs.Soundness.{CrossSample}
use Rattle.xt_recorder.specs.Replays.{State, Stream, Answer, Answers, Step, nothing, reads, sample_answer, sample_taken, taken_as, taken, and_then, replay_from}
use Rattle.xt_recorder.specs.Laws.{SamplesProjected, NoPassed}

-- one sample of a stream
one_sample : (reader : Tree) (s : State) (st : Stream) (item : Item) (assigned : Bool) → item.kind ≡ Kind.Sample → s.stream ≡ Some st → st.yes ≡ assigned
    → taken reader s item ≡ (if assigned then Ok (sample_answer (read_sample st.rep (shape reader) item.payload), s) else Ok (nothing, s))
one_sample reader s st item assigned kind stream says =
    ap (λ (k : Kind). taken_as k reader s item.payload) kind
    ∙ ap (λ (x : Option Stream). sample_taken reader s x item.payload) stream
    ∙ ap (λ (b : Bool). if b then Ok (sample_answer (read_sample st.rep (shape reader) item.payload), s) else Ok (nothing, s)) says

abbrev pub more : Tree → List Item → State → Answers
more reader items s = replay_from reader s items

next_item : (reader : Tree) (s : State) (item : Item) (items : List Item) (x : Answer) (xs : List Answer) → taken reader s item ≡ Ok (x, s) → replay_from reader s items ≡ (xs, None) → replay_from reader s (item ∷ items) ≡ (x ∷ xs, None)
unfolding replay_from
next_item reader s item items x xs one rest =
    ap (λ (r : Step). and_then r (more reader items)) one
    ∙ ap (λ (r : Answers). let found : Answers = (x ∷ r.0, r.1) in found) rest

pub no_item : (reader : Tree) (s : State) → replay_from reader s [] ≡ ([], None)
unfolding replay_from
no_item reader s = refl

pub projected : ShapeKeepsRules → CrossSample → SamplesProjected
projected kept cross reader t s st [] [] rv tv fits stream assigned spell = no_item reader s
projected kept cross reader t s st [] (v ∷ vs) rv tv fits stream assigned spell = absurd spell
projected kept cross reader t s st (item ∷ items) [] rv tv fits stream assigned spell = absurd spell
projected kept cross reader t s st (item ∷ items) (v ∷ vs) rv tv fits stream assigned spell =
    next_item reader s item items (reads (projection (shape reader) (shape t) v)) (map (λ w. reads (projection (shape reader) (shape t) w)) vs)
    (one_sample reader s st item true spell.0 stream assigned ∙ ap (λ (r : Result Outcome Fault). let step : Step = Ok (sample_answer r, s) in step) (cross standard st.rep (shape reader) (shape t) v item.payload (kept reader rv) (kept t tv) (inr fits) spell.1))
    (projected kept cross reader t s st items vs rv tv fits stream assigned spell.2)

pub passed : NoPassed
passed reader s st [] stream refused are = no_item reader s
passed reader s st (item ∷ items) stream refused are = next_item reader s item items nothing (map (λ i. nothing) items) (one_sample reader s st item false are.0 stream refused) (passed reader s st items stream refused are.1)
