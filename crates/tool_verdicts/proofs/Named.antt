-- Types that words name are valid.
use Rattle.std.proofs.Common.{◌≡◌, refl, ap, subst, ℕ, zero, suc, ◌+◌, List, [], ◌∷◌, ◌++◌, Bool, true, false, Some, None, Result, Ok, Err, if◌then◌else◌}
use Rattle.std.specs.Prelude.{Option}
use Rattle.std.specs.Option.{option_map}
use Rattle.std.specs.Str.{bytes_eq}
use Rattle.xt_io.specs.declared.Item.{Item}
use Rattle.xt_io.specs.declared.Kind.{Kind}
use Rattle.xt_io.specs.declared.Kind.TheVariants.{Object, Sample, Idl, Json, Note}
use Rattle.type_trees.specs.declared.types.HashId.{HashId}
use Rattle.type_trees.specs.Trees.{Tree}
use Rattle.type_rules.specs.Valid.{type_fault}
use Rattle.type_object.specs.Pools as pools
use Rattle.type_object.specs.Pools.{Texts, added, found}
use Rattle.idl_input.specs.declared.faults.IdlFault.{IdlFault}
use Rattle.idl_types.specs.State as idl_types
use Rattle.xt_idl.specs.Whole.{idl}
use Rattle.idl_laws.specs.Printable.{AreDefinitions}
use Rattle.idl_laws.specs.parsed.Laws.{ParsedIsPrintable}
use Rattle.object_walks.specs.Resolving as walks
use Rattle.object_walks.specs.Resolving.{resolved}
use Rattle.tool_runs.specs.output.Outputs.{Refusal, ◌>>=◌}
use Rattle.tool_types.specs.Types.{Declared, types, object, Declaration, text_parsed, object_added, declared_as, declared_by, declare, name_in, with_objects}
use Rattle.tool_words.specs.Words.{Form, plain, within, by_id, Reference}
use Rattle.tool_types.specs.names.Names.{Meaning, typed, identified, type_by_name, has_name, in_record, or_else, in_records, in_record_at, meant, or_refused, type_meant, type_named, both_named, both_topped, pair_named}
use Rattle.tool_types.proofs.OfNames.Soundness.{resolved_valid}
use Rattle.tool_verdicts.specs.Verdicts.{NamedAreValid}

-- ---- what is declared

-- each type of a text is valid
abbrev AreValid : idl_types.Declared → Type 0
AreValid [] = Unit {0}
AreValid (t ∷ ts) = (type_fault t.1 ≡ None) × AreValid ts

abbrev IsValidRecord : Declared → Type 0
IsValidRecord (types ts) = AreValid ts
IsValidRecord (object id name) = Unit {0}

abbrev AllValid : List Declared → Type 0
AllValid [] = Unit {0}
AllValid (d ∷ ds) = IsValidRecord d × AllValid ds

defined_valid : (known ds : idl_types.Declared) → AreDefinitions known ds → AreValid ds
defined_valid known [] p = tt
defined_valid known (d ∷ ds) p = (p.0, defined_valid (known ++ d ∷ []) ds p.1.1.1)

with_pool : (ts : idl_types.Declared) (w : Result Texts Refusal) (x : Declared × Texts) → (let r : Declaration = w >>= λ more. Ok (types ts, more) in r) ≡ Ok x → types ts ≡ x.0
with_pool ts (Ok more) x e = let made : Declared × Texts = (types ts, more) in let same : made ≡ x = cc in ap (λ (p : Declared × Texts). p.0) same
with_pool ts (Err why) x e = absurd cc

text_valid : ParsedIsPrintable → (k : ℕ) (pool : Texts) (text : List ℕ) (r : Result idl_types.Declared IdlFault) (x : Declared × Texts) → idl text ≡ r → text_parsed k pool r ≡ Ok x → IsValidRecord x.0
text_valid law k pool text (Ok ts) x parsed e = subst IsValidRecord (with_pool ts (with_objects k pool ts) x e) (defined_valid [] ts (law text ts parsed).defined)
text_valid law k pool text (Err fault) x parsed e = absurd cc

object_valid : (k : ℕ) (r : Result (HashId × Texts) pools.Refusal) (x : Declared × Texts) → object_added k r ≡ Ok x → IsValidRecord x.0
object_valid k (Ok r) x e =
    let made : Declared × Texts = (object r.0 (name_in (pools.object_at r.0 r.1)), r.1) in
    let same : made ≡ x = cc in
    subst (λ (p : Declared × Texts). IsValidRecord p.0) same tt
object_valid k (Err why) x e = absurd cc

record_valid : ParsedIsPrintable → (k : ℕ) (pool : Texts) (kind : Kind) (payload : List ℕ) (x : Declared × Texts) → declared_as kind k pool payload ≡ Ok x → IsValidRecord x.0
record_valid law k pool Idl payload x e = text_valid law k pool payload (idl payload) x refl e
record_valid law k pool Object payload x e = object_valid k (added pool payload) x e
record_valid law k pool Sample payload x e = object_valid k (added pool payload) x e
record_valid law k pool Json payload x e = object_valid k (added pool payload) x e
record_valid law k pool Note payload x e = object_valid k (added pool payload) x e

one_more : (d : Declared) (m : Result (List Declared × Texts) Refusal) (front : List Declared × Texts) → IsValidRecord d → ((ds : List Declared × Texts) → m ≡ Ok ds → AllValid ds.0)
    → (let r : Result (List Declared × Texts) Refusal = m >>= λ ds. Ok (d ∷ ds.0, ds.1) in r) ≡ Ok front → AllValid front.0
one_more d (Ok ds) front valid more e =
    let made : List Declared × Texts = (d ∷ ds.0, ds.1) in
    let same : made ≡ front = cc in
    subst (λ (p : List Declared × Texts). AllValid p.0) same (valid, more ds refl)
one_more d (Err why) front valid more e = absurd cc

first_and_more : ParsedIsPrintable → (k : ℕ) (pool : Texts) (item : Item) (items : List Item) (r : Declaration) (front : List Declared × Texts) → declared_by k pool item ≡ r → ((d : Declared × Texts) (ds : List Declared × Texts) → declare (k + 1) d.1 items ≡ Ok ds → AllValid ds.0)
    → (let all : Result (List Declared × Texts) Refusal = r >>= λ d. declare (k + 1) d.1 items >>= λ ds. Ok (d.0 ∷ ds.0, ds.1) in all) ≡ Ok front → AllValid front.0
first_and_more law k pool item items (Ok d) front is more e = one_more d.0 (declare (k + 1) d.1 items) front (record_valid law k pool item.kind item.payload d is) (λ ds. more d ds) e
first_and_more law k pool item items (Err why) front is more e = absurd cc

all_valid : ParsedIsPrintable → (k : ℕ) (pool : Texts) (items : List Item) (front : List Declared × Texts) → declare k pool items ≡ Ok front → AllValid front.0
unfolding declare
all_valid law k pool [] front e =
    let made : List Declared × Texts = ([], pool) in
    let same : made ≡ front = cc in
    subst (λ (p : List Declared × Texts). AllValid p.0) same tt
all_valid law k pool (item ∷ items) front e = first_and_more law k pool item items (declared_by k pool item) front refl (λ d ds. all_valid law (k + 1) d.1 items ds) e

-- ---- what a word means

abbrev IsValidMeaning : Option Meaning → Type 0
IsValidMeaning None = Unit {0}
IsValidMeaning (Some (typed t)) = type_fault t ≡ None
IsValidMeaning (Some (identified id)) = Unit {0}

chosen : (b : Bool) (x y : Option Meaning) → IsValidMeaning x → IsValidMeaning y → IsValidMeaning (if b then x else y)
chosen true x y p q = p
chosen false x y p q = q

abbrev IsValidIn : Option Tree → Type 0
IsValidIn None = Unit {0}
IsValidIn (Some t) = type_fault t ≡ None

chosen_in : (b : Bool) (x y : Option Tree) → IsValidIn x → IsValidIn y → IsValidIn (if b then x else y)
chosen_in true x y p q = p
chosen_in false x y p q = q

by_name_valid : (name : List ℕ) (ts : idl_types.Declared) → AreValid ts → IsValidIn (type_by_name name ts)
by_name_valid name [] all = tt
by_name_valid name (t ∷ ts) all = chosen_in (bytes_eq t.0 name) (Some t.1) (type_by_name name ts) all.0 (by_name_valid name ts all.1)

typed_valid : (x : Option Tree) → IsValidIn x → IsValidMeaning (option_map typed x)
typed_valid None p = tt
typed_valid (Some t) p = p

in_record_valid : (name : List ℕ) (d : Declared) → IsValidRecord d → IsValidMeaning (in_record name d)
in_record_valid name (types ts) p = typed_valid (type_by_name name ts) (by_name_valid name ts p)
in_record_valid name (object id other) p = chosen (has_name name other) (Some (identified id)) None tt tt

either_valid : (x y : Option Meaning) → IsValidMeaning x → IsValidMeaning y → IsValidMeaning (or_else x y)
either_valid None y p q = q
either_valid (Some m) y p q = p

in_records_valid : (name : List ℕ) (ds : List Declared) → AllValid ds → IsValidMeaning (in_records name ds)
in_records_valid name [] all = tt
in_records_valid name (d ∷ ds) all = either_valid (in_record name d) (in_records name ds) (in_record_valid name d all.0) (in_records_valid name ds all.1)

at_valid : (name : List ℕ) (k : ℕ) (ds : List Declared) → AllValid ds → IsValidMeaning (in_record_at k name ds)
at_valid name k [] all = tt
at_valid name zero (d ∷ ds) all = in_record_valid name d all.0
at_valid name (suc k) (d ∷ ds) all = at_valid name k ds all.1

id_valid : (id : HashId) (text : Option (List ℕ)) → IsValidMeaning (option_map (λ t. identified id) text)
id_valid id None = tt
id_valid id (Some t) = tt

meant_valid : (f : Form) (front : List Declared × Texts) → AllValid front.0 → IsValidMeaning (meant f front)
meant_valid (plain name) front all = in_records_valid name front.0 all
meant_valid (within k name) front all = at_valid name k front.0 all
meant_valid (by_id id) front all = id_valid id (found id front.1)

-- ---- types

pub resolves : (r : Result Tree walks.Refusal) (t : Tree) → or_refused r ≡ Ok t → r ≡ Ok t
resolves (Ok u) t e = cc
resolves (Err why) t e = absurd cc

found_valid : (word : List ℕ) (pool : Texts) (m : Option Meaning) (t : Tree) → IsValidMeaning m → type_meant word pool m ≡ Ok t → type_fault t ≡ None
found_valid word pool None t p e = absurd cc
found_valid word pool (Some (typed u)) t p e = let same : u ≡ t = cc in subst (λ (x : Tree). type_fault x ≡ None) same p
found_valid word pool (Some (identified id)) t p e = resolved_valid pool id t (resolves (resolved pool id) t e)

type_valid : (r : Reference) (front : List Declared × Texts) (t : Tree) → AllValid front.0 → type_named r front ≡ Ok t → type_fault t ≡ None
type_valid r front t all e = found_valid r.word front.1 (meant r.form front) t (meant_valid r.form front all) e

both_valid : (a b : Result Tree Refusal) (ts : Tree × Tree) → ((t : Tree) → a ≡ Ok t → type_fault t ≡ None) → ((t : Tree) → b ≡ Ok t → type_fault t ≡ None)
    → (let r : Result (Tree × Tree) Refusal = a >>= λ t1. b >>= λ t2. Ok (t1, t2) in r) ≡ Ok ts → (type_fault ts.0 ≡ None) × (type_fault ts.1 ≡ None)
both_valid (Ok x) (Ok y) ts left right e =
    let made : Tree × Tree = (x, y) in
    let same : made ≡ ts = cc in
    subst (λ (p : Tree × Tree). (type_fault p.0 ≡ None) × (type_fault p.1 ≡ None)) same (left x refl, right y refl)
both_valid (Ok x) (Err why) ts left right e = absurd cc
both_valid (Err why) b ts left right e = absurd cc

one_topped : (u : Result (Unit {0}) Refusal) (p ts : Tree × Tree) → (let r : Result (Tree × Tree) Refusal = u >>= λ _. Ok p in r) ≡ Ok ts → p ≡ ts
one_topped (Ok u) p ts e = cc
one_topped (Err why) p ts e = absurd cc

pub topped_valid : (both : Result (Tree × Tree) Refusal) (top : Tree × Tree → Result (Unit {0}) Refusal) (ts : Tree × Tree) → (let r : Result (Tree × Tree) Refusal = both >>= λ p. top p >>= λ _. Ok p in r) ≡ Ok ts → both ≡ Ok ts
topped_valid (Ok p) top ts e = ap (λ (x : Tree × Tree). let made : Result (Tree × Tree) Refusal = Ok x in made) (one_topped (top p) p ts e)
topped_valid (Err why) top ts e = absurd cc

pair_valid : (r w : Reference) (front : List Declared × Texts) (ts : Tree × Tree) → AllValid front.0 → pair_named r w front ≡ Ok ts → (type_fault ts.0 ≡ None) × (type_fault ts.1 ≡ None)
pair_valid r w front ts all e =
    both_valid (type_named r front) (type_named w front) ts (λ t. type_valid r front t all) (λ t. type_valid w front t all) (topped_valid (both_named r w front) (both_topped r w) ts e)

pub named_are_valid : ParsedIsPrintable → NamedAreValid
named_are_valid law records front r w reader writer declared named = pair_valid r w front (reader, writer) (all_valid law 0 [] records front declared) named
