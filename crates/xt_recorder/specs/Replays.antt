-- What a reader makes of recordings, record by record (this profile's own).
use Rattle.std.specs.Prelude.{ℕ, Bool, true, false, List, [], ◌∷◌, Option, Some, None, Result, Ok, Err, if◌then◌else◌}
use Rattle.xt_shapes.specs.declared.leaves.Rep.{Rep}
use Rattle.type_trees.specs.declared.types.HashId.{HashId}
use Rattle.type_trees.specs.Trees.{Tree}
use Rattle.type_trees.specs.Bridge.{shape}
use Rattle.type_trees.specs.samples.Tops.{is_top}
use Rattle.xt_io.specs.declared.Item.{Item}
use Rattle.xt_io.specs.declared.Kind.{Kind}
use Rattle.xt_io.specs.declared.Kind.TheVariants.{Object, Sample, Idl, Json, Note}
use Rattle.type_object.specs.Pools as pools
use Rattle.type_object.specs.Pools.{Texts, added}
use Rattle.object_walks.specs.Resolving as walks
use Rattle.object_walks.specs.Resolving.{resolved}
use Rattle.xcdr_model.specs.declared.malformed.Fault.{Fault}
use Rattle.xcdr_model.specs.Failure.{First, first_failure}
use Rattle.xcdr_model.specs.Policies.{standard}
use Rattle.xcdr_model.specs.Samples.{Outcome, read_sample}
use Rattle.xt_recorder.specs.Streams.{stream_of}

-- The stream that the samples belong to: their representation, and whether the reader's type is assignable from theirs.
pub record Stream : Type 0 where
  pub rep : Rep
  pub yes : Bool

-- the pool, and the stream, once there was one
pub record State : Type 0 where
  pub pool : Texts
  pub stream : Option Stream

-- What is answered of a record: nothing; of a stream its type's identifier, its representation, and the first rule that fails; of a sample
-- what it is to the reader, or its first fault.
pub data Answer : Type 0 where
  nothing : Answer
  begins : HashId → Rep → First → Answer
  reads : Outcome → Answer
  malformed : Fault → Answer

-- Why a record is refused: it has no place, its object isn't added, its stream's type doesn't resolve, or is no structure or union.
pub data Refusal : Type 0 where
  misplaced : Refusal
  not_added : pools.Refusal → Refusal
  unresolved : walks.Refusal → Refusal
  no_top : HashId → Refusal

-- an answer and the state after it
abbrev pub Step : Type 0
Step = Result (Answer × State) Refusal

abbrev pub is_yes : First → Bool
is_yes None = true
is_yes (Some failure) = false

-- ---- each kind of record

abbrev pub object_taken : State → Result (HashId × Texts) pools.Refusal → Step
object_taken s (Ok r) = Ok (nothing, record { pool = r.1; stream = s.stream })
object_taken s (Err refusal) = Err (not_added refusal)

-- the stream of a type, under the standard policy
abbrev pub stream_judged : State → HashId → Rep → First → Step
stream_judged s id rep first = Ok (begins id rep first, record { pool = s.pool; stream = Some (record { rep = rep; yes = is_yes first }) })

abbrev pub stream_begun : Tree → State → HashId → Rep → Result Tree walks.Refusal → Step
stream_begun reader s id rep (Ok t) = if is_top (shape t) then stream_judged s id rep (first_failure standard rep (shape reader) (shape t)) else Err (no_top id)
stream_begun reader s id rep (Err refusal) = Err (unresolved refusal)

abbrev pub note_taken : Tree → State → Option (HashId × Rep) → Step
note_taken reader s None = Ok (nothing, s)
note_taken reader s (Some st) = stream_begun reader s st.0 st.1 (resolved s.pool st.0)

abbrev pub sample_answer : Result Outcome Fault → Answer
sample_answer (Ok outcome) = reads outcome
sample_answer (Err fault) = malformed fault

-- The representation in which samples are read: that of a stream whose type the reader's is assignable from.
abbrev pub read_in : Option Stream → Option Rep
read_in None = None
read_in (Some st) = if st.yes then Some st.rep else None

-- A sample of a stream that is not assignable is passed over. Before the first stream it has no place.
abbrev pub sample_taken : Tree → State → Option Stream → List ℕ → Step
sample_taken reader s None payload = Err misplaced
sample_taken reader s (Some st) payload = if st.yes then Ok (sample_answer (read_sample st.rep (shape reader) payload), s) else Ok (nothing, s)

abbrev pub taken_as : Kind → Tree → State → List ℕ → Step
taken_as Object reader s payload = object_taken s (added s.pool payload)
taken_as Sample reader s payload = sample_taken reader s s.stream payload
taken_as Idl reader s payload = Err misplaced
taken_as Json reader s payload = Err misplaced
taken_as Note reader s payload = note_taken reader s (stream_of payload)

-- One record, for a reader's type.
abbrev pub taken : Tree → State → Item → Step
taken reader s item = taken_as item.kind reader s item.payload

-- ---- records in order, up to the first that is refused

-- the answers, and why the record behind them is refused
abbrev pub Answers : Type 0
Answers = List Answer × Option Refusal

abbrev pub and_then : Step → (State → Answers) → Answers
and_then (Ok r) more = let rest = more r.1 in (r.0 ∷ rest.0, rest.1)
and_then (Err refusal) more = ([], Some refusal)

unfoldable pub replay_from : Tree → State → List Item → Answers
replay_from reader s [] = ([], None)
replay_from reader s (item ∷ items) = and_then (taken reader s item) (λ next. replay_from reader next items)

-- from a pool on
abbrev pub replay : Tree → Texts → List Item → Answers
replay reader pool items = replay_from reader (record { pool = pool; stream = None }) items
