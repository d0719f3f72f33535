-- Records that are declared one after another.
use Rattle.std.proofs.Common.{◌≡◌, ◌≢◌, ◌≤◌, arith, zero, suc, true, subst, ℕ, ◌+◌, ◌<◌, List, [], ◌∷◌, ◌++◌, map, append_assoc, append-nil, length, drop, get_or, Option, Some, None, Result, Ok, Err, IfOk, OnOk, refl, sym, ap, ◌∙◌}
use Rattle.std.specs.Prelude.{slice_get}
use Rattle.std.proofs.lemmas.List.{drop_more}
use Rattle.std.proofs.Math.Seq.{drop-nil}
use Rattle.type_trees.specs.declared.types.HashId.{HashId}
use Rattle.type_trees.specs.declared.types.Named.{Named}
use Rattle.xt_lists.specs.declared.memory.OutOfMemory.{OutOfMemory}
use Rattle.idl_input.specs.declared.faults.IdlFault.{IdlFault}
use Rattle.idl_input.specs.declared.faults.IdlFault.TheVariants as idl_fault
use Rattle.type_object.specs.Pools as pools
use Rattle.type_object.specs.Pools.{Texts}
use Rattle.type_object.specs.declared.pool.PoolFault.{PoolFault}
use Rattle.type_object.specs.declared.pool.PoolFault.TheVariants as F
use Rattle.idl_types.specs.State.{Declared, declared}
use Rattle.type_resolve.specs.Adding.{after_added, all_added, Adds, Halts}
use Rattle.type_resolve.specs.Objects.{texts}
use Rattle.type_resolve.specs.Views.{Seen, sides, hashes_seen}
use Rattle.type_resolve.specs.Definitions.{types_texts}
use Rattle.type_resolve.specs.declared.sides.Identifiers.{Identifiers}
use Rattle.tool_runs.specs.declared.output.halt.Halt.TheVariants as halts
use Rattle.tool_runs.specs.declared.output.stop.Stop.{Stop}
use Rattle.tool_runs.specs.declared.output.stop.Stop.TheVariants as stops
use Rattle.tool_runs.specs.output.Outputs.{Refusal, ◌>>=◌}
use Rattle.tool_runs.specs.output.Runs.{Refuses, Comes, refusal}
use Rattle.tool_types.specs.Types as spec
use Rattle.tool_types.specs.Types.{idl_fault_text}
use Rattle.xt_io.specs.declared.Item.{Item}
use Rattle.tool_types.specs.declared.declaring.Declared.{Declared as Record}
use Rattle.tool_types.specs.Declaring.{AllGood, AreGood, AreIdentified, Identifies, IsGood, Joins, Leaves, IsRefusal, IdlStops, RefusesTypes, declared_view}
use Rattle.xt_io.specs.Bundles.{limit_of}
use Rattle.tool_runs.specs.front.Reading.{AreWithin}
use Rattle.type_trees.specs.Trees.{Tree}
use Rattle.idl_tokens.specs.Classes.{Text}
use Rattle.xt_idl.specs.Whole.{idl}
use Rattle.idl_laws.specs.Printable.{AreDefinitions}
use Rattle.idl_laws.specs.parsed.Laws.{ParsedIsPrintable}
use Rattle.resolve_laws.specs.parsed.Defining.{ParsedHasObjects}
use Rattle.type_resolve.specs.Objects.{has_objects}

refused_by : (X : Type 0) (said : Result Texts Refusal) (why : Refusal) (stop : Stop) (now : Texts) → said ≡ Err why → Refuses why stop → Joins {X = X} said (Err stop) now
refused_by X said why (stops.Refused r) now e p = e ∙ ap (λ (x : Refusal). Err x) (sym p)
refused_by X said why (stops.Halted halt) now e p = p

halted_by : (X : Type 0) (said : Result Texts Refusal) (stop : Stop) (now : Texts) → stop ≡ stops.Halted halts.OutOfMemory → Joins {X = X} said (Err stop) now
halted_by X said stop now e = rw e refl

pub next_type : (types : List Named) (i : ℕ) (t : Named) → i < length types → t ≡ get_or types i t → drop i types ≡ t ∷ drop (i + 1) types
next_type types i t lt is = drop_more types i t lt ∙ ap (λ (x : Named). x ∷ drop (i + 1) types) (sym is)

-- ---- texts

want_stops : (k : ℕ) (text : Result (List ℕ) OutOfMemory) (stop : Stop) → OnOk text ⊥ → RefusesTypes text stop → stop ≡ stops.Halted halts.OutOfMemory
want_stops k (Ok text) stop none p = absurd none
want_stops k (Err e) (stops.Refused r) none p = absurd p
want_stops k (Err e) (stops.Halted halt) none p = ap (λ h. stops.Halted h) p

pub said_stops : (said : List ℕ) (text : Result (List ℕ) OutOfMemory) (stop : Stop) → IfOk text (λ t. t ≡ said) → RefusesTypes text stop → Refuses (spec.types_refusal said) stop
said_stops said (Ok text) (stops.Refused r) is p = p ∙ ap (λ (t : List ℕ). spec.types_refusal t) is
said_stops said (Ok text) (stops.Halted halt) is p = absurd p
said_stops said (Err e) (stops.Refused r) is p = absurd p
said_stops said (Err e) (stops.Halted halt) is p = p

pub idl_stops : (k : ℕ) (fault : IdlFault) (text : Result (List ℕ) OutOfMemory) (stop : Stop) → RefusesTypes text stop → IfOk text (λ t. t ≡ idl_fault_text k fault) → (fault ≡ idl_fault.OutOfMemory → OnOk text ⊥) → IdlStops k fault stop
idl_stops k idl_fault.OutOfMemory text stop p is none = want_stops k text stop (none refl) p
idl_stops k (idl_fault.Syntax at) text stop p is none = said_stops _ text stop is p
idl_stops k (idl_fault.Unknown at) text stop p is none = said_stops _ text stop is p
idl_stops k (idl_fault.Twice at) text stop p is none = said_stops _ text stop is p
idl_stops k (idl_fault.NotInProfile at) text stop p is none = said_stops _ text stop is p
idl_stops k (idl_fault.Annotation at rule) text stop p is none = said_stops _ text stop is p
idl_stops k (idl_fault.Invalid at fault) text stop p is none = said_stops _ text stop is p

said_by : (k : ℕ) (pool now : Texts) (fault : IdlFault) (stop : Stop) (r : Result Declared IdlFault) → r ≡ Err fault → Refuses (spec.types_refusal (idl_fault_text k fault)) stop → Leaves (spec.text_parsed k pool r) declared_view (Err stop) now
said_by k pool now fault (stops.Refused q) r e p = ap (λ (x : Result Declared IdlFault). spec.text_parsed k pool x) e ∙ ap (λ (x : Refusal). Err x) (sym p)
said_by k pool now fault (stops.Halted halt) r e p = p

-- a text that is faulty
pub text_refused : (k : ℕ) (pool now : Texts) (fault : IdlFault) (stop : Stop) (r : Result Declared IdlFault) → (fault ≢ idl_fault.OutOfMemory → r ≡ Err fault) → IdlStops k fault stop → Leaves (spec.text_parsed k pool r) declared_view (Err stop) now
text_refused k pool now idl_fault.OutOfMemory stop r e p = rw p refl
text_refused k pool now (idl_fault.Syntax at) stop r e p = said_by k pool now _ stop r (e (λ same. cc)) p
text_refused k pool now (idl_fault.Unknown at) stop r e p = said_by k pool now _ stop r (e (λ same. cc)) p
text_refused k pool now (idl_fault.Twice at) stop r e p = said_by k pool now _ stop r (e (λ same. cc)) p
text_refused k pool now (idl_fault.NotInProfile at) stop r e p = said_by k pool now _ stop r (e (λ same. cc)) p
text_refused k pool now (idl_fault.Annotation at rule) stop r e p = said_by k pool now _ stop r (e (λ same. cc)) p
text_refused k pool now (idl_fault.Invalid at fault) stop r e p = said_by k pool now _ stop r (e (λ same. cc)) p

-- ---- records

-- what was declared, and then the rest
abbrev pub after_declared : List spec.Declared → Result (List spec.Declared × Texts) Refusal → Result (List spec.Declared × Texts) Refusal
after_declared ds (Ok r) = Ok (ds ++ r.0, r.1)
after_declared ds (Err refusal) = Err refusal

pub none_before : (r : Result (List spec.Declared × Texts) Refusal) → r ≡ after_declared [] r
none_before (Ok r) = refl
none_before (Err refusal) = refl

views_on : (records : List Record) (d : Record) → map declared_view (records ++ d ∷ []) ≡ map declared_view records ++ declared_view d ∷ []
views_on [] d = refl
views_on (r ∷ records) d = ap (λ ds. declared_view r ∷ ds) (views_on records d)

one_before : (ds : List spec.Declared) (d : spec.Declared) (r : Result (List spec.Declared × Texts) Refusal) → after_declared ds (r >>= λ more. Ok (d ∷ more.0, more.1)) ≡ after_declared (ds ++ d ∷ []) r
one_before ds d (Ok r) = ap (λ (l : List spec.Declared). let made : Result (List spec.Declared × Texts) Refusal = Ok (l, r.1) in made) (sym (append_assoc ds (d ∷ []) r.0))
one_before ds d (Err refusal) = refl

-- one more record
pub record_on : (k : ℕ) (pool new : Texts) (item : Item) (items : List Item) (records : List Record) (d : Record) → spec.declared_by k pool item ≡ Ok (declared_view d, new)
    → after_declared (map declared_view records) (spec.declare k pool (item ∷ items)) ≡ after_declared (map declared_view (records ++ d ∷ [])) (spec.declare (k + 1) new items)
unfolding spec.declare
record_on k pool new item items records d e =
    ap (λ (r : spec.Declaration). after_declared (map declared_view records) (r >>= λ x. spec.declare (k + 1) x.1 items >>= λ ds. Ok (x.0 ∷ ds.0, ds.1))) e
    ∙ one_before (map declared_view records) (declared_view d) (spec.declare (k + 1) new items)
    ∙ ap (λ (ds : List spec.Declared). after_declared ds (spec.declare (k + 1) new items)) (sym (views_on records d))

record_stops : (k : ℕ) (pool : Texts) (item : Item) (items : List Item) (ds : List spec.Declared) (why : Refusal) → spec.declared_by k pool item ≡ Err why → after_declared ds (spec.declare k pool (item ∷ items)) ≡ Err why
unfolding spec.declare
record_stops k pool item items ds why e = ap (λ (r : spec.Declaration). after_declared ds (r >>= λ x. spec.declare (k + 1) x.1 items >>= λ more. Ok (x.0 ∷ more.0, more.1))) e

-- a record that was refused
pub record_refused : {X : Type 0} (k : ℕ) (pool now : Texts) (item : Item) (items : List Item) (ds : List spec.Declared) (stop : Stop) (all : Result (List spec.Declared × Texts) Refusal) (view : X → List spec.Declared × Texts) → all ≡ after_declared ds (spec.declare k pool (item ∷ items)) → Leaves (spec.declared_by k pool item) declared_view (Err stop) now
    → Comes all view (Err stop)
record_refused k pool now item items ds (stops.Refused r) all view e p = e ∙ record_stops k pool item items ds (refusal r) p
record_refused k pool now item items ds (stops.Halted halt) all view e p = p

-- all of them
pub records_end : (k : ℕ) (pool : Texts) (records : List Record) → after_declared (map declared_view records) (spec.declare k pool []) ≡ Ok (map declared_view records, pool)
unfolding spec.declare
records_end k pool records = ap (λ (l : List spec.Declared). let made : Result (List spec.Declared × Texts) Refusal = Ok (l, pool) in made) (append-nil (map declared_view records))

pub next_item : (items : List Item) (i : ℕ) (t : Item) → i < length items → t ≡ get_or items i t → drop i items ≡ t ∷ drop (i + 1) items
next_item items i t lt is = drop_more items i t lt ∙ ap (λ (x : Item). x ∷ drop (i + 1) items) (sym is)

-- ---- what is declared is good

-- Each type that a text declares has objects and is valid.
good_from : (ts known : Declared) → ((at : ℕ) (full : Text) (t : Tree) → slice_get ts at ≡ Some (full, t) → has_objects t ≡ true) → AreDefinitions known ts → AreGood ts
good_from [] known objects defined = tt
good_from (t ∷ ts) known objects defined = (objects 0 t.0 t.1 refl, (defined.0, good_from ts (known ++ t ∷ []) (λ at. objects (suc at)) defined.1.1.1))

pub text_good : (text : List ℕ) (ts : Declared) → ParsedHasObjects → ParsedIsPrintable → idl text ≡ Ok ts → AreGood ts
text_good text ts objects printable e = good_from ts [] (λ at full t is. objects text ts at full t e is) (printable text ts e).defined

-- the next type and its identifiers are passed over
pub identified_next : (i : ℕ) (types : List Named) (ids : List Identifiers) → i < length types → AreIdentified (declared (drop i types)) (drop i ids) → AreIdentified (declared (drop (suc i) types)) (drop (suc i) ids)
identified_next i [] ids lt p = absurd (omega arith)
identified_next zero (t ∷ types) [] lt p = absurd p
identified_next zero (t ∷ types) (d ∷ ids) lt p = p.1
identified_next (suc i) (t ∷ types) [] lt p = identified_next i types [] (omega arith) (subst (AreIdentified (declared (drop i types))) (sym (drop-nil i)) p)
identified_next (suc i) (t ∷ types) (d ∷ ids) lt p = identified_next i types ids (omega arith) p

-- ---- all texts at once

abbrev added_behind : Texts × Option pools.Refusal → List (List ℕ) → Texts × Option pools.Refusal
added_behind (pool, None) ys = all_added pool ys
added_behind (pool, Some why) ys = (pool, Some why)

text_behind : (pool : Texts) (r : Result (HashId × Texts) pools.Refusal) (xs ys : List (List ℕ)) → ((next : Texts) → all_added next (xs ++ ys) ≡ added_behind (all_added next xs) ys)
    → after_added pool r (λ next. all_added next (xs ++ ys)) ≡ added_behind (after_added pool r (λ next. all_added next xs)) ys
text_behind pool (Ok x) xs ys rest = rest x.1
text_behind pool (Err why) xs ys rest = refl

-- texts are added one list behind another
texts_behind : (pool : Texts) (xs ys : List (List ℕ)) → all_added pool (xs ++ ys) ≡ added_behind (all_added pool xs) ys
unfolding all_added
texts_behind pool [] ys = refl
texts_behind pool (x ∷ xs) ys = text_behind pool (pools.added pool x) xs ys (λ next. texts_behind next xs ys)

each_behind : (k : ℕ) (ts : Declared) (r : Texts × Option pools.Refusal) → ((next : Texts) → spec.with_objects k next ts ≡ spec.with_all k (all_added next (types_texts ts)))
    → (let said : Result Texts Refusal = spec.with_all k r >>= λ more. spec.with_objects k more ts in said) ≡ spec.with_all k (added_behind r (types_texts ts))
each_behind k ts (next, None) rest = rest next
each_behind k ts (next, Some why) rest = refl

-- The objects of types are added as their texts are, one type after another.
pub added_together : (k : ℕ) (pool : Texts) (ts : Declared) → spec.with_objects k pool ts ≡ spec.with_all k (all_added pool (types_texts ts))
unfolding spec.with_objects all_added
added_together k pool [] = refl
added_together k pool (t ∷ ts) = each_behind k ts (all_added pool (texts t.1)) (λ next. added_together k next ts) ∙ ap (spec.with_all k) (sym (texts_behind pool (texts t.1) (types_texts ts)))

-- all of them were added
pub together_added : (k : ℕ) (pool new : Texts) (ts : Declared) → Adds pool (types_texts ts) new → spec.with_objects k pool ts ≡ Ok new
together_added k pool new ts adds = added_together k pool ts ∙ ap (spec.with_all k) adds.all

together_stopped : (k : ℕ) (pool new : Texts) (ts : Declared) (why : pools.Refusal) → all_added pool (types_texts ts) ≡ (new, Some why) → spec.with_objects k pool ts ≡ Err (spec.pool_refusal k why)
together_stopped k pool new ts why e = added_together k pool ts ∙ ap (spec.with_all k) e

-- one of them was refused
pub together_refused : (X : Type 0) (k : ℕ) (pool new : Texts) (ts : Declared) (fault : PoolFault) (stop : Stop) → Halts fault pool (types_texts ts) new → IsRefusal k fault stop → Joins {X = X} (spec.with_objects k pool ts) (Err stop) new
together_refused X k pool new ts (F.Object fault) stop stopped is = refused_by X _ _ stop new (together_stopped k pool new ts _ stopped.first) is
together_refused X k pool new ts (F.Clash id) stop stopped is = refused_by X _ _ stop new (together_stopped k pool new ts _ stopped.first) is
together_refused X k pool new ts F.Full stop stopped is = refused_by X _ _ stop new (together_stopped k pool new ts _ stopped.first) is
together_refused X k pool new ts F.OutOfMemory stop stopped is = halted_by X _ stop new is

identified_as : (t : Tree) (ids : Identifiers) → sides t ≡ hashes_seen ids → Identifies t ids
identified_as t ids e = record { minimal = ap (λ (s : Seen). s.1) e; complete = ap (λ (s : Seen). s.2) e }

-- what types are named by are their identifiers
pub identified_together : (ts : Declared) (ids : List Identifiers) → map hashes_seen ids ≡ map (λ t. sides t.1) ts → AreIdentified ts ids
identified_together [] [] e = tt
identified_together [] (d ∷ ids) e = absurd cc
identified_together (t ∷ ts) [] e = absurd cc
identified_together (t ∷ ts) (d ∷ ids) e =
    let here : hashes_seen d ≡ sides t.1 = cc in
    let rest : map hashes_seen ids ≡ map (λ (x : Text × Tree). sides x.1) ts = cc in
    (identified_as t.1 d (sym here), identified_together ts ids rest)

pub within_next : (items : List Item) (i : ℕ) (t : Item) → drop i items ≡ t ∷ drop (i + 1) items → AreWithin (drop i items) → (length t.payload ≤ limit_of t.kind) × AreWithin (drop (i + 1) items)
within_next items i t e within = subst AreWithin e within

pub good_on : (records : List Record) (d : Record) → AllGood records → IsGood d → AllGood (records ++ d ∷ [])
good_on [] d all good = (good, tt)
good_on (r ∷ records) d all good = (all.0, good_on records d all.1 good)
