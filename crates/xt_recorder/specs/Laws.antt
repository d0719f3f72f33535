-- The laws of recordings (this profile's own).
use Rattle.std.specs.Prelude.{◌≡◌, ◌↔◌, ℕ, ◌+◌, ◌≤◌, List, [], ◌∷◌, ◌++◌, map, length, All, true, false, Option, Some, None, Ok, Err}
use Rattle.xt_shapes.specs.declared.leaves.Rep.{Rep}
use Rattle.xt_shapes.specs.Shape.{Shape}
use Rattle.xt_shapes.specs.Vals.{Val}
use Rattle.type_trees.specs.declared.types.HashId.{HashId}
use Rattle.type_trees.specs.Ids.{is_object_kind, id_octets}
use Rattle.type_trees.specs.Trees.{Tree}
use Rattle.type_trees.specs.Bridge.{shape}
use Rattle.type_trees.specs.samples.Tops.{is_top}
use Rattle.type_rules.specs.Valid.{type_fault}
use Rattle.object_formats.specs.Objects.{Object}
use Rattle.type_object.specs.Pools.{Texts, IsPool, found, object_at}
use Rattle.type_object.specs.References.{is_among, in_order}
use Rattle.object_walks.specs.Resolving.{resolved}
use Rattle.object_walks.specs.Laws.{IsReached}
use Rattle.xt_io.specs.declared.Item.{Item}
use Rattle.xt_io.specs.declared.Kind.TheVariants.{Object as ObjectKind, Sample, Note}
use Rattle.xt_io.specs.Records.{items_octets}
use Rattle.xcdr_model.specs.Assignable.{Assignable}
use Rattle.xcdr_model.specs.Policies.{standard}
use Rattle.xcdr_model.specs.Samples.{projection}
use Rattle.xcdr_model.specs.SampleSpelling.{IsSample}
use Rattle.xcdr_model.specs.Failure.{Failure, first_failure}
use Rattle.hex.specs.Hex.{IsBytes}
use Rattle.xt_recorder.specs.declared.replayed.Replayed.{Replayed}
use Rattle.xt_recorder.specs.declared.replayed.ReplayFault.{ReplayFault}
use Rattle.xt_recorder.specs.declared.replayed.ReplayFault.TheVariants as faults
use Rattle.xt_recorder.specs.Streams.{stream_text, stream_of}
use Rattle.xt_recorder.specs.Recordings.{listed_at, closed, opening}
use Rattle.xt_recorder.specs.Replays.{State, Stream, Answer, Answers, Refusal, nothing, begins, reads, taken, replay_from, replay}
use Rattle.xt_recorder.specs.Answers.{answer, Refuses}

-- ---- streams

-- an identifier of a type: its kind, and 14 octets
pub record IsId (id : HashId) : Type 0 where
  pub kind : is_object_kind id.kind ≡ true
  pub count : length id.hash ≡ 14
  pub octets : IsBytes (id_octets id)

-- A stream's text says its identifier and its representation, and no other text does.
abbrev pub StreamTold : Type 0
StreamTold = (id : HashId) (rep : Rep) → IsId id → stream_of (stream_text id rep) ≡ Some (id, rep)

abbrev pub StreamOnly : Type 0
StreamOnly = (payload : List ℕ) (id : HashId) (rep : Rep) → stream_of payload ≡ Some (id, rep) → payload ≡ stream_text id rep

-- ---- replay

-- each record is a sample that spells its value
abbrev pub Spell : Rep → Shape → List Item → List Val → Type 0
Spell rep t [] [] = Unit {0}
Spell rep t [] (v ∷ vs) = ⊥
Spell rep t (item ∷ items) [] = ⊥
Spell rep t (item ∷ items) (v ∷ vs) = (item.kind ≡ Sample) × IsSample rep t v item.payload × Spell rep t items vs

-- Samples of a stream from whose type the reader's is assignable are replayed as the projections of what they spell.
abbrev pub SamplesProjected : Type 0
SamplesProjected = (reader t : Tree) (s : State) (st : Stream) (items : List Item) (vs : List Val) → type_fault reader ≡ None → type_fault t ≡ None → Assignable standard st.rep (shape reader) (shape t)
    → s.stream ≡ Some st → st.yes ≡ true → Spell st.rep (shape t) items vs → replay_from reader s items ≡ (map (λ v. reads (projection (shape reader) (shape t) v)) vs, None)

abbrev pub AreSamples : List Item → Type 0
AreSamples [] = Unit {0}
AreSamples (item ∷ items) = (item.kind ≡ Sample) × AreSamples items

-- Of samples of a stream from whose type the reader's isn't assignable nothing is told.
abbrev pub NoPassed : Type 0
NoPassed = (reader : Tree) (s : State) (st : Stream) (items : List Item) → s.stream ≡ Some st → st.yes ≡ false → AreSamples items → replay_from reader s items ≡ (map (λ item. nothing) items, None)

-- ---- calls of `take`

-- What calls of `take` answered, a call for each record on what the one before it left. A fault ends them.
abbrev pub Takes : Tree → State → List Item → List Replayed → Option ReplayFault → Type 0
Takes reader s [] [] None = Unit {0}
Takes reader s [] [] (Some fault) = ⊥
Takes reader s [] (x ∷ xs) fault = ⊥
Takes reader s (item ∷ items) [] None = ⊥
Takes reader s (item ∷ items) [] (Some fault) = Refuses fault (taken reader s item)
Takes reader s (item ∷ items) (x ∷ xs) fault = (next : State) × (taken reader s item ≡ Ok (answer x, next)) × Takes reader next items xs fault

-- These answers are the whole replay; a fault behind them says why it ends there. Where memory was wanting they begin it.
abbrev pub AreReplayed : List Answer → Option ReplayFault → Answers → Type 0
AreReplayed xs None found = found ≡ (xs, None)
AreReplayed xs (Some faults.OutOfMemory) found = (rest : Answers) × (found ≡ (xs ++ rest.0, rest.1))
AreReplayed xs (Some fault) found = (refusal : Refusal) × Refuses fault (Err refusal) × (found ≡ (xs, Some refusal))

-- What a new Replayer answers of records, up to the first fault, is their replay.
abbrev pub TakesAreReplay : Type 0
TakesAreReplay = (reader : Tree) (pool : Texts) (items : List Item) (xs : List Replayed) (fault : Option ReplayFault) → Takes reader (record { pool = pool; stream = None }) items xs fault
    → AreReplayed (map answer xs) fault (replay reader pool items)

-- ---- what a recording carries

-- an identifier behind others: it is none of them, it has an object, and all in this are among them
pub record IsBehind (pool : Texts) (before : List HashId) (id : HashId) : Type 0 where
  pub new : is_among id before ≡ false
  pub object : Object
  pub there : object_at id pool ≡ Some object
  pub parts : All (λ i. is_among i before ≡ true) (in_order object)

abbrev pub AreBehind : Texts → List HashId → List HashId → Type 0
AreBehind pool before [] = Unit {0}
AreBehind pool before (id ∷ ids) = IsBehind pool before id × AreBehind pool (before ++ id ∷ []) ids

-- What is listed is what is reached: each that is reached and no other, each once, and each behind all that its object refers to. With more
-- levels no more would be listed.
pub record ListsReached (pool : Texts) (id : HashId) : Type 0 where
  pub reached : (i : HashId) → (is_among i (closed pool id) ≡ true) ↔ IsReached pool id i
  pub ordered : AreBehind pool [] (closed pool id)
  pub levels : (n : ℕ) → length pool ≤ n → listed_at n pool [] id ≡ closed pool id

abbrev pub ClosedIsReached : Type 0
ClosedIsReached = (pool : Texts) (id : HashId) (t : Tree) → resolved pool id ≡ Ok t → ListsReached pool id

-- ---- a recording as a whole

-- these records are the objects of these identifiers
abbrev pub AreObjects : Texts → List HashId → List Item → Type 0
AreObjects pool [] [] = Unit {0}
AreObjects pool [] (item ∷ items) = ⊥
AreObjects pool (id ∷ ids) [] = ⊥
AreObjects pool (id ∷ ids) (item ∷ items) = (item.kind ≡ ObjectKind) × (found id pool ≡ Some item.payload) × AreObjects pool ids items

-- the records at the beginning of a stream: what it carries, and its Note
pub record IsOpening (pool : Texts) (id : HashId) (rep : Rep) (items : List Item) (note : Item) : Type 0 where
  pub objects : AreObjects pool (closed pool id) items
  pub kind : note.kind ≡ Note
  pub payload : note.payload ≡ stream_text id rep

-- What `write_stream` writes are the octets of such records.
abbrev pub OpeningIsRecords : Type 0
OpeningIsRecords = (pool : Texts) (id : HashId) (rep : Rep) (objects : List Item) (note : Item) → IsOpening pool id rep objects note → items_octets (objects ++ note ∷ []) ≡ opening pool id rep

-- under no identifier do the two have different texts, and they have no more than a pool may have
pub record GoTogether (a b : Texts) : Type 0 where
  pub agree : (id : HashId) (x y : List ℕ) → found id a ≡ Some x → found id b ≡ Some y → x ≡ y
  pub few : length a + length b ≤ 4096

-- a stream of a type, recorded from one pool and replayed over another
pub record IsStream (pool start : Texts) (id : HashId) (t : Tree) : Type 0 where
  pub pooled : IsPool pool
  pub resolves : resolved pool id ≡ Ok t
  pub top : is_top (shape t) ≡ true
  pub together : GoTogether start pool

-- Where the reader's type is assignable from a recording's, the recording is replayed, whatever came before it, as the projections of the
-- values that its samples spell.
abbrev pub RecordingReplayed : Type 0
RecordingReplayed = (reader t : Tree) (pool : Texts) (s : State) (id : HashId) (rep : Rep) (objects samples : List Item) (note : Item) (vs : List Val) → IsStream pool s.pool id t → IsOpening pool id rep objects note
    → Spell rep (shape t) samples vs → type_fault reader ≡ None → Assignable standard rep (shape reader) (shape t)
    → replay_from reader s (objects ++ note ∷ samples) ≡ (map (λ item. nothing) objects ++ begins id rep None ∷ map (λ v. reads (projection (shape reader) (shape t) v)) vs, None)

-- Where it isn't, the rule that fails is told, and nothing of the samples.
abbrev pub RecordingRefused : Type 0
RecordingRefused = (reader t : Tree) (pool : Texts) (s : State) (id : HashId) (rep : Rep) (objects samples : List Item) (note : Item) (f : Failure) → IsStream pool s.pool id t → IsOpening pool id rep objects note
    → AreSamples samples → first_failure standard rep (shape reader) (shape t) ≡ Some f
    → replay_from reader s (objects ++ note ∷ samples) ≡ (map (λ item. nothing) objects ++ begins id rep (Some f) ∷ map (λ item. nothing) samples, None)
