-- A recording as a whole: what it carries, its Note and its samples.
use Rattle.std.proofs.Common.{◌≡◌, ℕ, Bool, true, false, List, [], ◌∷◌, ◌++◌, map, Option, Some, None, Result, Ok, Err, refl, sym, ap, ap₂, ◌∙◌, append_assoc, append-nil, if◌then◌else◌, arith}
use Rattle.type_trees.specs.declared.types.HashId.{HashId}
use Rattle.type_trees.specs.Trees.{Tree}
use Rattle.type_trees.specs.Bridge.{shape}
use Rattle.type_trees.specs.samples.Tops.{is_top}
use Rattle.type_rules.specs.Laws.{ShapeKeepsRules}
use Rattle.type_rules.specs.Valid.{type_fault}
use Rattle.xt_shapes.specs.declared.leaves.Rep.{Rep}
use Rattle.xt_shapes.specs.declared.leaves.Step.{Step as TypeStep}
use Rattle.object_formats.specs.Objects.{Object}
use Rattle.type_object.specs.Pools.{Texts, IsPool, found, object_in}
use Rattle.object_walks.specs.Resolving.{Stop, checked, settled, resolved, walked}
use Rattle.object_walks.specs.Laws.{IsReached}
use Rattle.xt_io.specs.declared.Item.{Item}
use Rattle.xt_io.specs.declared.Kind.{Kind}
use Rattle.xt_io.specs.Records.{record_octets, items_octets}
use Rattle.xcdr_model.specs.Failure.{First, first_failure}
use Rattle.xcdr_model.specs.Policies.{standard}
use Rattle.shape_laws.specs.Soundness.{CrossSample}
use Rattle.shape_laws.specs.Verdicts.{Judged}
use Rattle.xt_recorder.specs.Recordings.{object_record, object_records, closed}
use Rattle.xt_recorder.specs.Streams.{stream_text, stream_of}
use Rattle.xt_recorder.specs.Replays.{State, Stream, Answers, nothing, begins, is_yes, no_top, stream_judged, stream_begun, note_taken, taken_as, taken, replay_from}
use Rattle.xt_recorder.specs.Laws.{IsId, IsOpening, IsStream, AreObjects, OpeningIsRecords, RecordingReplayed, RecordingRefused}
use Rattle.xt_recorder.proofs.Among.{all_one}
use Rattle.xt_recorder.proofs.Agreeing.{resolved_same}
use Rattle.xt_recorder.proofs.Called.{in_front, one_step}
use Rattle.xt_recorder.proofs.Hanging.{Hangs, hangs, resolved_hangs}
use Rattle.xt_recorder.proofs.Loading.{behind, loaded}
use Rattle.xt_recorder.proofs.Printed.{pooled_id}
use Rattle.xt_recorder.proofs.Reached.{parts_reached, itself_reached, few_behind, closed_is_reached}
use Rattle.xt_recorder.proofs.StreamTexts.{told}
use Rattle.xt_recorder.proofs.Telling.{projected, passed}

-- ---- octets

objects_octets : (pool : Texts) (ids : List HashId) (items rest : List Item) → AreObjects pool ids items → items_octets (items ++ rest) ≡ object_records pool ids ++ items_octets rest
objects_octets pool [] [] rest are = refl
objects_octets pool [] (item ∷ items) rest are = absurd are
objects_octets pool (id ∷ ids) [] rest are = absurd are
objects_octets pool (id ∷ ids) (item ∷ items) rest are =
    let one : record_octets item.kind item.payload ≡ object_record (found id pool) = ap (λ (k : Kind). record_octets k item.payload) are.0 ∙ ap object_record (sym are.1) in
    ap₂ (λ (x y : List ℕ). x ++ y) one (objects_octets pool ids items rest are.2) ∙ sym (append_assoc (object_record (found id pool)) (object_records pool ids) (items_octets rest))

pub opening_is_records : OpeningIsRecords
opening_is_records pool id rep objects note is =
    let last : items_octets (note ∷ []) ≡ record_octets Kind.Note (stream_text id rep) = append-nil (record_octets note.kind note.payload) ∙ ap₂ (λ (k : Kind) (p : List ℕ). record_octets k p) is.kind is.payload in
    objects_octets pool (closed pool id) objects (note ∷ []) is.objects ∙ ap (λ (l : List ℕ). object_records pool (closed pool id) ++ l) last

-- ---- an identifier that resolves is one of a type

text_there : (x : Object) (text : Option (List ℕ)) → object_in text ≡ Some x → (bs : List ℕ) × (text ≡ Some bs)
text_there x None e = absurd (cc e)
text_there x (Some bs) e = (bs, refl)

hanging_id : (pool : Texts) (id : HashId) → IsPool pool → Hangs pool [] id → IsId id
hanging_id pool id pooled (hangs x has new parts) = let text = text_there x (found id pool) has in pooled_id pool id text.0 pooled text.1

pooled_stream : (pool : Texts) (id : HashId) (t : Tree) → IsPool pool → resolved pool id ≡ Ok t → IsId id
pooled_stream pool id t pooled e = hanging_id pool id pooled (resolved_hangs pool id t e)

-- ---- the stream begins

note_step : (reader t : Tree) (s : State) (id : HashId) (rep : Rep) (note : Item) (first : First) → note.kind ≡ Kind.Note → stream_of note.payload ≡ Some (id, rep) → resolved s.pool id ≡ Ok t → is_top (shape t) ≡ true
    → first_failure standard rep (shape reader) (shape t) ≡ first → taken reader s note ≡ stream_judged s id rep first
note_step reader t s id rep note first kind says resolves top is =
    ap (λ (k : Kind). taken_as k reader s note.payload) kind ∙ ap (note_taken reader s) says ∙ ap (stream_begun reader s id rep) resolves
    ∙ ap (λ (b : Bool). if b then stream_judged s id rep (first_failure standard rep (shape reader) (shape t)) else Err (no_top id)) top ∙ ap (stream_judged s id rep) is

module _ (reader t : Tree) (pool : Texts) (s : State) (id : HashId) (rep : Rep) (objects : List Item) (note : Item) (stream : IsStream pool s.pool id t) (is : IsOpening pool id rep objects note) where
  -- the pool behind the objects, in which the identifier has its type
  record Opened (first : First) : Type 0 where
    after : Texts
    goes : (samples : List Item)
        → replay_from reader s (objects ++ note ∷ samples) ≡ behind (map (λ item. nothing) objects) (in_front (begins id rep first) (replay_from reader (record { pool = after; stream = Some (record { rep = rep; yes = is_yes first }) }) samples))

  opened : (first : First) → first_failure standard rep (shape reader) (shape t) ≡ first → Opened first
  opened first judged =
      let reach = closed_is_reached pool id t stream.resolves in
      let few = few_behind pool (closed pool id) reach.ordered in
      let load = loaded pool stream.pooled (closed pool id) objects is.objects s.pool stream.together.agree (omega (arith, few, stream.together.few)) in
      let agrees : (i : HashId) → IsReached pool id i → object_in (found i load.after) ≡ object_in (found i pool) = λ i r. ap object_in (load.has i ((reach.reached i).1 r)) in
      let same : resolved load.after id ≡ Ok t = resolved_same load.after pool (IsReached pool id) agrees (λ i x r e. parts_reached pool id i x r e) id (all_one (IsReached pool id) id (itself_reached pool id)) ∙ stream.resolves in
      let ready : State = record { pool = load.after; stream = s.stream } in
      let printed = pooled_stream pool id t stream.pooled stream.resolves in
      let begun : taken reader ready note ≡ stream_judged ready id rep first = note_step reader t ready id rep note first is.kind (ap stream_of is.payload ∙ told id rep printed) same stream.top judged in
      record {
        after = load.after;
        goes = λ samples. load.goes reader s.stream (note ∷ samples) ∙ ap (behind (map (λ item. nothing) objects)) (one_step reader ready note samples (stream_judged ready id rep first) begun);
      }

-- ---- the type that resolves has no fault

checked_valid : (id : HashId) (u : Tree) (fault : Option (ℕ × List TypeStep)) (t : Tree) → type_fault u ≡ fault → checked id u fault ≡ Ok t → type_fault t ≡ None
checked_valid id u None t e h = (let same : u ≡ t = cc h in ap type_fault (sym same) ∙ e)
checked_valid id u (Some f) t e h = absurd (cc h)

settled_valid : (id : HashId) (w : Result Tree Stop) (t : Tree) → settled id w ≡ Ok t → type_fault t ≡ None
settled_valid id (Ok u) t e = checked_valid id u (type_fault u) t refl e
settled_valid id (Err s) t e = absurd (cc e)

resolved_valid : (pool : Texts) (id : HashId) (t : Tree) → resolved pool id ≡ Ok t → type_fault t ≡ None
unfolding resolved
resolved_valid pool id t e = settled_valid id (walked pool id) t e

-- ---- the laws

pub replayed : ShapeKeepsRules → Judged → CrossSample → RecordingReplayed
replayed kept judged cross reader t pool s id rep objects samples note vs stream is spell valid assigned =
    let yes : first_failure standard rep (shape reader) (shape t) ≡ None = (judged standard rep (shape reader) (shape t) (kept reader valid)).1 assigned in
    let o = opened reader t pool s id rep objects note stream is None yes in
    let st : Stream = record { rep = rep; yes = true } in
    let all = projected kept cross reader t (record { pool = o.after; stream = Some st }) st samples vs valid (resolved_valid pool id t stream.resolves) assigned refl refl spell in
    o.goes samples ∙ ap (λ (found : Answers). behind (map (λ item. nothing) objects) (in_front (begins id rep None) found)) all

pub refused : RecordingRefused
refused reader t pool s id rep objects samples note f stream is are fails =
    let o = opened reader t pool s id rep objects note stream is (Some f) fails in
    let st : Stream = record { rep = rep; yes = false } in
    let none = passed reader (record { pool = o.after; stream = Some st }) st samples refl refl are in
    o.goes samples ∙ ap (λ (found : Answers). behind (map (λ item. nothing) objects) (in_front (begins id rep (Some f)) found)) none
