-- That a command with nothing wrong in what it is given ends as the law says.
use Rattle.std.proofs.Common.{◌≡◌, ℕ, ◌+◌, ◌≤◌, List, [], ◌∷◌, ◌++◌, map, max, length, ◌⊎◌, inl, inr, Bool, true, false, if◌then◌else◌, None, Some, Result, Ok, Err, refl, sym, ap, ◌∙◌, subst}
use Rattle.std.proofs.lemmas.Bool.{le-leb, lt-leb, le-ltb}
use Rattle.std.specs.Prelude.{◌||◌, ◌&&◌, codes}
use Rattle.std.specs.declared.option.Option.{Option}
use Rattle.xt_io.specs.declared.Kind.{Kind}
use Rattle.xt_io.specs.declared.Kind.TheVariants.{Sample, Json, Note}
use Rattle.xt_io.specs.declared.Item.{Item}
use Rattle.xt_io.specs.Bundles.{Bundle, bundle, limit_of}
use Rattle.xt_shapes.specs.declared.leaves.Rep.{Rep}
use Rattle.xt_shapes.specs.Lists.{all}
use Rattle.type_trees.specs.Trees.{Tree, prim, str, enumeration, bitmask, sequence, array, map_of, structure, union, alias}
use Rattle.type_trees.specs.Bridge.{shape}
use Rattle.type_trees.specs.samples.Tops.{is_top}
use Rattle.type_trees.specs.declared.types.HashId.{HashId}
use Rattle.type_rules.specs.Laws.{ShapeKeepsRules}
use Rattle.type_object.specs.Pools.{Texts}
use Rattle.xt_shapes.specs.declared.leaves.Ext.{Ext}
use Rattle.type_trees.specs.declared.types.Base.{Base}
use Rattle.type_resolve.specs.Objects.{identifier, last_layer, layer_object, member_count, member_parts, own, top}
use Rattle.object_formats.specs.Objects as o
use Rattle.object_formats.specs.Objects.{Identifier, MemberPart}
use Rattle.xt_shapes.specs.declared.leaves.Order.TheVariants.{Little}
use Rattle.xt_shapes.specs.Vals.{Val}
use Rattle.xcdr_model.specs.SampleSpelling.{fixed_sample}
use Rattle.json_values.specs.declared.faults.ValueFault.{ValueFault}
use Rattle.xcdr_model.specs.declared.verdict.Policy.{Policy}
use Rattle.xcdr_model.specs.Failure.{First}
use Rattle.shape_laws.specs.Verdicts.{ExactlyOne, Judged}
use Rattle.xt_recorder.specs.Replays as replays
use Rattle.key_instances.specs.kept.Kept.{Puts, kept, keys_of}
use Rattle.tool_runs.specs.declared.output.ending.Ending.TheVariants.{Done, Refused}
use Rattle.tool_runs.specs.declared.output.ending.Cause.TheVariants.{No}
use Rattle.tool_runs.specs.declared.output.ending.Style.{Style}
use Rattle.tool_runs.specs.declared.output.ending.Style.TheVariants as styles
use Rattle.tool_runs.specs.output.Outputs.{Output, Refusal, Turn, goes_on, over, ◌>>=◌, bundle_refusal, misplaced, refused, unless_refused, finished, after_pieces, after_turn, run, run_over, same_kind, taking, passed}
use Rattle.xt_io.specs.Records.{record_octets}
use Rattle.tool_runs.specs.output.Texts.{bundle_text}
use Rattle.tool_runs.specs.front.Fronts.{Front, closed}
use Rattle.tool_runs.specs.Commands.{command_output, body_behind, ends_behind, answer_to, only}
use Rattle.tool_types.specs.Types.{Declared, declare}
use Rattle.tool_types.specs.names.Identified.{by_hash, hash_meant, id_named}
use Rattle.tool_types.specs.names.Names.{Meaning, typed, identified, meant, type_meant, topped, top_named, pair_named}
use Rattle.tool_words.specs.Words.{Pair, Reference, Command, compile, judge, read, write, convert, show, wrap, instances, keep, replay, make, compare}
use Rattle.tool_samples.specs.lines.Lines.{judged, json_refusal, unless_failed, written, read_turn, convert_turn, write_turn}
use Rattle.tool_verdicts.specs.Verdicts.{NamedAreValid, assignable, reader_type}
use Rattle.tool_commands.specs.recordings.Recording.{opening_pieces, record_turn, samples_recorded}
use Rattle.tool_commands.specs.recordings.Replaying.{replay_turn, replayed, stepped}
use Rattle.tool_samples.specs.instances.Instancing.{full, instances_body, instances_end, most_keys}
use Rattle.tool_samples.specs.instances.Laws.{KeepsLast, has_place, kept_output, puts_of}
use Rattle.tool_commands.specs.listing.Listing.{all_shown, all_texts, object_record}
use Rattle.type_resolve.specs.Adding.{all_added}
use Rattle.tool_verdicts.specs.Versions.{findings, telling, versions}
use Rattle.tool_commands.specs.Commands.{judge_lines, read_lines, convert_records, write_records, record_records, replay_lines, instances_lines}
use Rattle.xt_tool.specs.Output.{asked, of_command}
use Rattle.xt_tool.specs.Headline.{AreSamples}
use Rattle.xt_tool.proofs.Depths.{HasDepth, has_depth}
use Rattle.xt_tool.specs.Completeness.{Given, HoldsSamples, IsValue, AreValues, HoldsValues, Fits, ByVerdict, ByKeys, Lists, Completes, Completeness}

abbrev Types : Type 0
Types = List Declared × Texts

-- ---- records that go on

-- some pieces, and then the next record
abbrev GoesOn : (ℕ → Item → Unit {0} → Turn (Unit {0})) → ℕ → Item → Type 0
GoesOn turn k item = (pieces : List (List ℕ)) × (turn k item tt ≡ goes_on pieces tt)

abbrev AllGoOn : (ℕ → Item → Unit {0} → Turn (Unit {0})) → ℕ → List Item → Type 0
AllGoOn turn k [] = Unit {0}
AllGoOn turn k (item ∷ items) = GoesOn turn k item × AllGoOn turn (k + 1) items

ends_done : (style : Style) (turn : ℕ → Item → Unit {0} → Turn (Unit {0})) (k : ℕ) (items : List Item) → AllGoOn turn k items → (run_over style turn (λ (u : Unit {0}). finished) tt k items None).ending ≡ Done
unfolding run_over
ends_done style turn k [] all = refl
ends_done style turn k (item ∷ items) all =
    ap (λ (t : Turn (Unit {0})). (after_turn style t (λ (u : Unit {0}). run_over style turn (λ (v : Unit {0}). finished) u (k + 1) items None)).ending) all.0.1 ∙ ends_done style turn (k + 1) items all.1

sample_goes : (take : ℕ → Item → Unit {0} → Turn (Unit {0})) (k : ℕ) (kind : Kind) (at : ℕ) (payload : List ℕ) → (kind ≡ Sample) ⊎ (kind ≡ Note) → ((item : Item) → GoesOn take k item) → GoesOn (taking Sample take) k (record { kind = kind; at = at; payload = payload })
sample_goes take k Sample at payload is law = law (record { kind = Sample; at = at; payload = payload })
sample_goes take k Note at payload is law = ([], refl)
sample_goes take k Kind.Object at payload is law = elim is [ inl e ↦ absurd cc | inr e ↦ absurd cc ]
sample_goes take k Kind.Idl at payload is law = elim is [ inl e ↦ absurd cc | inr e ↦ absurd cc ]
sample_goes take k Kind.Json at payload is law = elim is [ inl e ↦ absurd cc | inr e ↦ absurd cc ]

samples_go : (take : ℕ → Item → Unit {0} → Turn (Unit {0})) → ((k : ℕ) (item : Item) → GoesOn take k item) → (k : ℕ) (items : List Item) → AreSamples items → AllGoOn (taking Sample take) k items
samples_go take law k [] are = tt
samples_go take law k (item ∷ items) are = (sample_goes take k item.kind item.at item.payload are.0 (law k), samples_go take law (k + 1) items are.1)

samples_end : (style : Style) (take : ℕ → Item → Unit {0} → Turn (Unit {0})) (k : ℕ) (body : Bundle) → ((k : ℕ) (item : Item) → GoesOn take k item) → HoldsSamples body → (run_over style (taking Sample take) (λ (u : Unit {0}). finished) tt k body.items body.end).ending ≡ Done
samples_end style take k body law holds =
    ap (λ end. (run_over style (taking Sample take) (λ (u : Unit {0}). finished) tt k body.items end).ending) holds.whole ∙ ends_done style (taking Sample take) k body.items (samples_go take law k body.items holds.samples)

-- ---- values in JSON

value_goes : (rep : Rep) (t : Tree) (k : ℕ) (item : Item) → IsValue rep t item → GoesOn (taking Json (write_turn rep t)) k item
value_goes rep t k item is =
    let pieces = record_octets Sample (fixed_sample rep Little (shape t) is.value) ∷ [] in (
      pieces,
      ap (λ (kind : Kind). if same_kind kind Json then write_turn rep t k item tt else passed item tt) is.kind
          ∙ ap (λ (read : Result Val ValueFault). written rep t k read) is.reads
          ∙ ap (λ (long : Bool). let turn : Turn (Unit {0}) = if long then over (json_refusal k (codes "LARGE /")) else goes_on pieces tt in turn) is.fits,
    )

note_goes : (take : ℕ → Item → Unit {0} → Turn (Unit {0})) (k : ℕ) (item : Item) → item.kind ≡ Note → GoesOn (taking Json take) k item
note_goes take k item is = (
  [],
  ap (λ (kind : Kind). if same_kind kind Json then take k item tt else passed item tt) is
      ∙ ap (λ (kind : Kind). let turn : Turn (Unit {0}) = if same_kind kind Note then goes_on [] tt else over (misplaced item) in turn) is,
)

values_go : (rep : Rep) (t : Tree) (k : ℕ) (items : List Item) → AreValues rep t items → AllGoOn (taking Json (write_turn rep t)) k items
values_go rep t k [] are = tt
values_go rep t k (item ∷ items) (inl is, more) = (value_goes rep t k item is, values_go rep t (k + 1) items more)
values_go rep t k (item ∷ items) (inr is, more) = (note_goes (write_turn rep t) k item is, values_go rep t (k + 1) items more)

values_end : (rep : Rep) (t : Tree) (k : ℕ) (body : Bundle) → HoldsValues rep t body → (run_over styles.Records (taking Json (write_turn rep t)) (λ (u : Unit {0}). finished) tt k body.items body.end).ending ≡ Done
values_end rep t k body holds =
    ap (λ end. (run_over styles.Records (taking Json (write_turn rep t)) (λ (u : Unit {0}). finished) tt k body.items end).ending) holds.whole
    ∙ ends_done styles.Records (taking Json (write_turn rep t)) k body.items (values_go rep t k body.items holds.values)

-- ---- recordings

abbrev Replayed : Tree → ℕ → List Item → replays.State → Output
Replayed t k items s = run_over styles.Lines (replay_turn t) (λ (s : replays.State). finished) s k items None

step_ends : (t : Tree) (k : ℕ) (item : Item) (items : List Item) → ((s : replays.State) → (replays.replay_from t s items).1 ≡ None → (Replayed t (k + 1) items s).ending ≡ Done) → (step : replays.Step) → (replays.and_then step (λ s. replays.replay_from t s items)).1 ≡ None → (after_turn styles.Lines (stepped t k item step) (Replayed t (k + 1) items)).ending ≡ Done
step_ends t k item items rest (Ok r) none = rest r.1 none
step_ends t k item items rest (Err refusal) none = absurd cc

replay_ends : (t : Tree) (k : ℕ) (items : List Item) (s : replays.State) → (replays.replay_from t s items).1 ≡ None → (Replayed t k items s).ending ≡ Done
unfolding run_over replays.replay_from
replay_ends t k [] s none = refl
replay_ends t k (item ∷ items) s none = step_ends t k item items (replay_ends t (k + 1) items) (replays.taken t s item) none

-- ---- the front

-- what a command comes to behind its front
at_front : (style : Style) (behind : Front → Result Output Refusal) (octets : List ℕ) (types : Types) (body : Bundle) (given : Given octets types body) → command_output style behind (bundle octets) ≡ unless_refused style (behind (record { records = given.records; body = body }))
at_front style behind octets types body given = ap (λ (f : Result Front Refusal). unless_refused style (f >>= behind)) given.opens

-- one that reads the rest of its input
at_close : (style : Style) (answered : List Item → Result Output Refusal) (octets : List ℕ) (types : Types) (body : Bundle) (given : Given octets types body) → closed body ≡ Ok tt → command_output style (ends_behind answered) (bundle octets) ≡ unless_refused style (answered given.records)
at_close style answered octets types body given closes =
    at_front style (ends_behind answered) octets types body given ∙ ap (λ (c : Result (Unit {0}) Refusal). unless_refused style (c >>= λ u. answered given.records)) closes

-- what the records of the front declare is answered
lists : (style : Style) (answered : Types → Output) (octets : List ℕ) (types : Types) (body : Bundle) → Given octets types body → closed body ≡ Ok tt
    → command_output style (ends_behind (λ records. declare 0 [] records >>= λ types. Ok (answered types))) (bundle octets) ≡ answered types
lists style answered octets types body given closes =
    at_close style (λ records. declare 0 [] records >>= λ types. Ok (answered types)) octets types body given closes ∙ ap (λ (d : Result Types Refusal). unless_refused style (d >>= λ types. Ok (answered types))) given.declares

-- ---- the verdict

reader_found : (pair : Pair) (records : List Item) (types : Types) (both : Tree × Tree) → declare 0 [] records ≡ Ok types → pair_named pair.reader pair.writer types ≡ Ok both → reader_type pair records ≡ (judged pair.policy pair.rep both.0 both.1 >>= λ u. Ok both.0)
reader_found pair records types both declares named =
    ap (λ (d : Result Types Refusal). d >>= assignable pair) declares ∙ ap (λ (p : Result (Tree × Tree) Refusal). p >>= λ ts. judged pair.policy pair.rep ts.0 ts.1 >>= λ u. Ok ts.0) named

record Verdict (pair : Pair) (both : Tree × Tree) (records : List Item) : Type 0 where
  yes : Fits pair both → reader_type pair records ≡ Ok both.0
  no : (Fits pair both → ⊥) → (refusal : Refusal) × (reader_type pair records ≡ Err refusal) × (refusal.cause ≡ No)

verdict : ShapeKeepsRules → NamedAreValid → Judged → ExactlyOne → (pair : Pair) (records : List Item) (types : Types) (both : Tree × Tree) → declare 0 [] records ≡ Ok types → pair_named pair.reader pair.writer types ≡ Ok both → Verdict pair both records
verdict rules named_valid law one pair records types both declares named =
    let valid = named_valid records types pair.reader pair.writer both.0 both.1 declares named in
    let kept_rules = rules both.0 valid.0 in
    let found = reader_found pair records types both declares named in
    record {
      yes = λ fits. found ∙ ap (λ (f : First). unless_failed f >>= λ u. Ok both.0) ((law pair.policy pair.rep (shape both.0) (shape both.1) kept_rules).1 fits);
      no = λ not. elim (one pair.policy pair.rep (shape both.0) (shape both.1) kept_rules).some [
        | inl fits ↦ absurd (not fits)
        | inr failure ↦ (_, found ∙ ap (λ (f : First). unless_failed f >>= λ u. Ok both.0) failure.1, refl)
      ];
    }

-- what is made of the reader's type ends as done, and of a refusal as that
by_verdict : (pair : Pair) (both : Tree × Tree) (records : List Item) → Verdict pair both records → (made : Result Tree Refusal → Output) → (made (Ok both.0)).ending ≡ Done → ((refusal : Refusal) → (made (Err refusal)).ending ≡ Refused refusal.cause) → ByVerdict pair both (made (reader_type pair records)).ending
by_verdict pair both records v made done not = record {
  yes = λ fits. ap (λ found. (made found).ending) (v.yes fits) ∙ done;
  no = λ none. let (refusal, found, cause) = v.no none in ap (λ found. (made found).ending) found ∙ not refusal ∙ ap (λ cause. Refused cause) cause;
}

-- ---- tops

last_is_hashed : (ext : Ext) (base : Identifier) (had : ℕ) (bs : List Base) (b : Base) (parts : List MemberPart) → (id : HashId) × (last_layer true ext base had (bs ++ b ∷ []) parts ≡ o.hash id)
last_is_hashed ext base had [] b parts = (_, refl)
last_is_hashed ext base had (x ∷ bs) b parts = last_is_hashed ext (own (layer_object true ext base had x parts)) (max had x.count) bs b parts

-- the identifier of a structure or union is a hash
top_is_hashed : (t : Tree) → is_top (shape t) ≡ true → (id : HashId) × (identifier true t ≡ o.hash id)
unfolding identifier
top_is_hashed (prim p) is = absurd cc
top_is_hashed (str bound) is = absurd cc
top_is_hashed (enumeration name ext bits literals) is = (_, refl)
top_is_hashed (bitmask name bits flags) is = (_, refl)
top_is_hashed (sequence bound tc t) is = absurd cc
top_is_hashed (array dims tc t) is = absurd cc
top_is_hashed (map_of bound kc k vc v) is = absurd cc
top_is_hashed (structure h ms) is = last_is_hashed h.ext o.none 0 h.bases (top h (member_count ms)) (member_parts true ms)
top_is_hashed (union h disc cs) is = (_, refl)
top_is_hashed (alias name t) is = (_, refl)

abbrev topped_type : List ℕ → Tree → Result Tree Refusal
topped_type word t = topped word t >>= λ u. Ok t

is_topped : (word : List ℕ) (t s : Tree) (b : Bool) → is_top (shape t) ≡ b → topped_type word t ≡ Ok s → is_top (shape t) ≡ true
is_topped word t s true is found = is
is_topped word t s false is found = absurd (let e : Result Tree Refusal = topped_type word t in cc)

meant_has_id : (word : List ℕ) (pool : Texts) (m : Option Meaning) (t : Tree) → (type_meant word pool m >>= topped_type word) ≡ Ok t → (id : HashId) × (hash_meant word m ≡ Ok id)
meant_has_id word pool None t found = absurd cc
meant_has_id word pool (Some (typed s)) t found =
    let (id, is) = top_is_hashed s (is_topped word s t (is_top (shape s)) refl found) in
    (id, ap (by_hash word) is)
meant_has_id word pool (Some (identified id)) t found = (id, refl)

top_has_id : (r : Reference) (types : Types) (t : Tree) → top_named r types ≡ Ok t → (id : HashId) × (id_named r types ≡ Ok id)
top_has_id r types t found =
    let (id, is) = meant_has_id r.word types.1 (meant r.form types) t found in
    (id, ap (λ (s : Result Tree Refusal). s >>= λ t. hash_meant r.word (meant r.form types)) found ∙ is)

-- ---- keys

-- by whether there are few enough
abbrev kept_if : Bool → ℕ → Tree → Puts → Output
kept_if few depth t puts = if few then instances_end t (kept depth puts) else refused styles.Lines full

by_keys : (pair : Pair) (both : Tree × Tree) (records : List Item) → Verdict pair both records → (depth : ℕ) (puts : Puts) (made : Result Tree Refusal → Output) → made (Ok both.0) ≡ kept_output depth both.0 puts → ((refusal : Refusal) → (made (Err refusal)).ending ≡ Refused refusal.cause) → ByKeys pair both (length (keys_of [] puts)) (made (reader_type pair records)).ending
by_keys pair both records v depth puts made is_kept not =
    let yes = λ (fits : Fits pair both). ap (λ found. (made found).ending) (v.yes fits) ∙ ap (λ (o : Output). o.ending) is_kept in
    record {
      few = λ fits most. yes fits ∙ ap (λ (b : Bool). (kept_if b depth both.0 puts).ending) (le-leb (length (keys_of [] puts)) most_keys most);
      many = λ fits more. yes fits ∙ ap (λ (b : Bool). (kept_if b depth both.0 puts).ending) (lt-leb (length (keys_of [] puts)) most_keys more);
      no = λ none. let (refusal, found, cause) = v.no none in ap (λ found. (made found).ending) found ∙ not refusal ∙ ap (λ cause. Refused cause) cause;
    }

-- ---- each command

abbrev read_made : Pair → ℕ → Bundle → Result Tree Refusal → Output
read_made pair k body found =
    let write : Result (ℕ → Bundle → Output) Refusal = found >>= λ t. Ok (λ (k : ℕ) (body : Bundle). run styles.Lines (taking Sample (read_turn pair.rep t)) (λ (u : Unit {0}). finished) tt k body) in
    unless_refused styles.Lines (write >>= λ w. Ok (w k body))

abbrev converted_made : Pair → Rep → ℕ → Bundle → Result Tree Refusal → Output
converted_made pair to k body found =
    let write : Result (ℕ → Bundle → Output) Refusal = found >>= λ t. Ok (λ (k : ℕ) (body : Bundle). run styles.Records (taking Sample (convert_turn pair.rep to t)) (λ (u : Unit {0}). finished) tt k body) in
    unless_refused styles.Records (write >>= λ w. Ok (w k body))

abbrev kept_made : Pair → ℕ → ℕ → Bundle → Result Tree Refusal → Output
kept_made pair depth k body found =
    let write : Result (ℕ → Bundle → Output) Refusal = found >>= λ t. Ok (λ (k : ℕ) (body : Bundle). instances_body depth pair.rep t [] k body) in
    unless_refused styles.Lines (write >>= λ w. Ok (w k body))

abbrev judged_made : Result Tree Refusal → Output
judged_made found =
    let lines : Result (List (List ℕ)) Refusal = found >>= λ t. Ok (codes "yes\n" ∷ []) in
    unless_refused styles.Lines (lines >>= λ pieces. Ok (only pieces))

has_places : (items : List Item) → AreSamples items → all has_place items ≡ true
has_places [] are = refl
has_places (item ∷ items) are = place item.kind are.0 (has_places items are.1) where
  place : (kind : Kind) → (kind ≡ Sample) ⊎ (kind ≡ Note) → all has_place items ≡ true → ((same_kind kind Sample || same_kind kind Note) && all has_place items) ≡ true
  place Sample is rest = rest
  place Note is rest = rest
  place Kind.Object is rest = elim is [ inl e ↦ absurd cc | inr e ↦ absurd cc ]
  place Kind.Idl is rest = elim is [ inl e ↦ absurd cc | inr e ↦ absurd cc ]
  place Kind.Json is rest = elim is [ inl e ↦ absurd cc | inr e ↦ absurd cc ]

record Laws : Type 0 where
  rules_kept : ShapeKeepsRules
  valid : NamedAreValid
  judged_is : Judged
  one : ExactlyOne
  keeps : KeepsLast

module _ (laws : Laws) where
  of_pair : (pair : Pair) (types : Types) (both : Tree × Tree) (records : List Item) → declare 0 [] records ≡ Ok types → pair_named pair.reader pair.writer types ≡ Ok both → Verdict pair both records
  of_pair pair types both records declares named = verdict laws.rules_kept laws.valid laws.judged_is laws.one pair records types both declares named

  judges : (pair : Pair) (octets : List ℕ) → Completes (judge pair) octets (of_command (judge pair) octets).ending
  judges pair octets types body both given named closes =
      subst (λ (o : Output). ByVerdict pair both o.ending) (sym (at_close styles.Lines (answer_to (judge_lines pair)) octets types body given closes))
      (by_verdict pair both given.records (of_pair pair types both given.records given.declares named) judged_made refl (λ refusal. refl))

  reads : (pair : Pair) (octets : List ℕ) → Completes (read pair) octets (of_command (read pair) octets).ending
  reads pair octets types body both given named holds =
      subst (λ (o : Output). ByVerdict pair both o.ending) (sym (at_front styles.Lines (body_behind (read_lines pair)) octets types body given))
      (by_verdict pair both given.records (of_pair pair types both given.records given.declares named) (read_made pair (length given.records) body)
      (samples_end styles.Lines (read_turn pair.rep both.0) (length given.records) body (λ k item. (_, refl)) holds) (λ refusal. refl))

  converts : (pair : Pair) (to : Rep) (octets : List ℕ) → Completes (convert pair to) octets (of_command (convert pair to) octets).ending
  converts pair to octets types body both given named holds =
      subst (λ (o : Output). ByVerdict pair both o.ending) (sym (at_front styles.Records (body_behind (convert_records pair to)) octets types body given))
      (by_verdict pair both given.records (of_pair pair types both given.records given.declares named) (converted_made pair to (length given.records) body)
      (samples_end styles.Records (convert_turn pair.rep to both.0) (length given.records) body (λ k item. (_, refl)) holds) (λ refusal. refl))

  keeps_keys : (pair : Pair) (depth : ℕ) (octets : List ℕ) → 1 ≤ depth → Completes (instances pair depth) octets (of_command (instances pair depth) octets).ending
  keeps_keys pair depth octets some types body both given named holds =
      let k = length given.records in
      let body_kept = ap (λ end. instances_body depth pair.rep both.0 [] k (record { items = body.items; end = end })) holds.whole ∙ laws.keeps depth pair.rep both.0 k body.items some (has_places body.items holds.samples) in
      subst (λ (o : Output). ByKeys pair both (length (keys_of [] (puts_of pair.rep both.0 body.items))) o.ending) (sym (at_front styles.Lines (body_behind (instances_lines pair depth)) octets types body given))
      (by_keys pair both given.records (of_pair pair types both given.records given.declares named) depth (puts_of pair.rep both.0 body.items) (kept_made pair depth k body) body_kept (λ refusal. refl))

-- with the structure or union that a word names
writes : (r : Reference) (rep : Rep) (octets : List ℕ) → Completes (write r rep) octets (of_command (write r rep) octets).ending
writes r rep octets types body t given named holds =
    let made : Result Tree Refusal → Output = λ found.
    let write : Result (ℕ → Bundle → Output) Refusal = found >>= λ t. Ok (λ (k : ℕ) (body : Bundle). run styles.Records (taking Json (write_turn rep t)) (λ (u : Unit {0}). finished) tt k body) in
    unless_refused styles.Records (write >>= λ w. Ok (w (length given.records) body)) in
    ap (λ (o : Output). o.ending) (at_front styles.Records (body_behind (write_records r rep)) octets types body given)
    ∙ ap (λ (d : Result Types Refusal). (made (d >>= λ front. top_named r front)).ending) given.declares
    ∙ ap (λ (t : Result Tree Refusal). (made t).ending) named
    ∙ values_end rep t (length given.records) body holds

records : (r : Reference) (rep : Rep) (octets : List ℕ) → Completes (keep r rep) octets (of_command (keep r rep) octets).ending
records r rep octets types body t given named holds =
    let (id, found) = top_has_id r types t named in
    let made : Result (HashId × Texts) Refusal → Output = λ found.
    let write : Result (ℕ → Bundle → Output) Refusal = found >>= λ f. Ok (λ (k : ℕ) (body : Bundle). after_pieces (opening_pieces f.1 f.0 rep) (samples_recorded k body)) in
    unless_refused styles.Records (write >>= λ w. Ok (w (length given.records) body)) in
    ap (λ (o : Output). o.ending) (at_front styles.Records (body_behind (record_records r rep)) octets types body given)
    ∙ ap (λ (d : Result Types Refusal). (made (d >>= λ front. id_named r front >>= λ id. Ok (id, front.1))).ending) given.declares
    ∙ ap (λ (i : Result HashId Refusal). (made (i >>= λ id. Ok (id, types.1))).ending) found
    ∙ samples_end styles.Records record_turn (length given.records) body (λ k item. (_, refl)) holds

replays_all : (r : Reference) (octets : List ℕ) → Completes (replay r) octets (of_command (replay r) octets).ending
replays_all r octets types body t given named is =
    let made : Result (Tree × Texts) Refusal → Output = λ found.
    let write : Result (ℕ → Bundle → Output) Refusal = found >>= λ f. Ok (λ (k : ℕ) (body : Bundle). replayed f.0 (record { pool = f.1; stream = None }) k body) in
    unless_refused styles.Lines (write >>= λ w. Ok (w (length given.records) body)) in
    ap (λ (o : Output). o.ending) (at_front styles.Lines (body_behind (replay_lines r)) octets types body given)
    ∙ ap (λ (d : Result Types Refusal). (made (d >>= λ front. top_named r front >>= λ t. Ok (t, front.1))).ending) given.declares
    ∙ ap (λ (t : Result Tree Refusal). (made (t >>= λ t. Ok (t, types.1))).ending) named
    ∙ ap (λ end. (run_over styles.Lines (replay_turn t) (λ (s : replays.State). finished) (record { pool = types.1; stream = None }) (length given.records) body.items end).ending) is.whole
    ∙ replay_ends t (length given.records) body.items (record { pool = types.1; stream = None }) is.taken

-- by whether the input is too long
abbrev wrapped_if : Bool → Kind → List ℕ → Output
wrapped_if long kind octets = if long then refused styles.Lines (bundle_refusal (bundle_text 0 (codes "too-long"))) else only (record_octets kind octets ∷ [])

wraps : (kind : Kind) (octets : List ℕ) → Completes (wrap kind) octets (of_command (wrap kind) octets).ending
wraps kind octets fits = ap (λ (b : Bool). (wrapped_if b kind octets).ending) (le-ltb (limit_of kind) (length octets) fits)

listed : (style : Style) (pieces : Types → List (List ℕ)) (octets : List ℕ) → Lists octets (command_output style (ends_behind (answer_to (λ records. declare 0 [] records >>= λ front. Ok (pieces front)))) (bundle octets)).ending
listed style pieces octets types body given closes =
    ap (λ (o : Output). o.ending) (at_close style (answer_to (λ records. declare 0 [] records >>= λ front. Ok (pieces front))) octets types body given closes)
    ∙ ap (λ (d : Result Types Refusal). (let found : Result (List (List ℕ)) Refusal = d >>= λ front. Ok (pieces front) in unless_refused style (found >>= λ pieces. Ok (only pieces))).ending) given.declares

compares : (rep : Rep) (policy : Policy) (octets : List ℕ) → Completes (compare rep policy) octets (of_command (compare rep policy) octets).ending
compares rep policy octets types body given closes =
    ap (λ (o : Output). o.ending) (lists styles.Lines (λ front. telling false (findings policy rep (versions 0 front.0))) octets types body given closes)

each : Laws → (c : Command) (octets : List ℕ) → HasDepth c → Completes c octets (of_command c octets).ending
each laws compile octets some = listed styles.Records (λ front. map object_record (all_added [] (all_texts front.0)).0) octets
each laws show octets some = listed styles.Lines (λ front. all_shown front.0) octets
each laws (judge pair) octets some = judges laws pair octets
each laws (read pair) octets some = reads laws pair octets
each laws (convert pair to) octets some = converts laws pair to octets
each laws (write r rep) octets some = writes r rep octets
each laws (keep r rep) octets some = records r rep octets
each laws (instances pair depth) octets some = keeps_keys laws pair depth octets some
each laws (replay r) octets some = replays_all r octets
each laws (compare rep policy) octets some = compares rep policy octets
each laws (wrap kind) octets some = wraps kind octets
each laws (make seed count) octets some = refl

pub completeness : ShapeKeepsRules → NamedAreValid → Judged → ExactlyOne → KeepsLast → Completeness
completeness rules valid judged_is one keeps words octets command is =
    let laws : Laws = record { rules_kept = rules; valid = valid; judged_is = judged_is; one = one; keeps = keeps } in
    subst (λ (c : Option Command). Completes command octets (asked c octets).ending) (sym is) (each laws command octets (has_depth words command is))
