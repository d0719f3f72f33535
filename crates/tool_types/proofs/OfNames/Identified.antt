-- What a word's identifier resolves to.
use Rattle.std.proofs.Common.{◌≡◌, refl, ap, subst, ℕ, zero, suc, List, [], ◌∷◌, Bool, true, false, Some, None, Result, Ok, Err, IsOk, if◌then◌else◌}
use Rattle.std.specs.Prelude.{Option, IfOk}
use Rattle.std.specs.Option.{option_map}
use Rattle.std.specs.Str.{bytes_eq}
use Rattle.type_trees.specs.declared.types.HashId.{HashId}
use Rattle.type_trees.specs.Trees.{Tree}
use Rattle.type_trees.specs.View.{tree}
use Rattle.projection_laws.specs.Premises.{IsValid}
use Rattle.object_formats.specs.Objects as o
use Rattle.object_formats.specs.Objects.{Identifier}
use Rattle.object_walks.specs.Resolving as walks
use Rattle.object_walks.specs.Resolving.{resolved}
use Rattle.type_object.specs.Pools.{Texts, found}
use Rattle.type_resolve.specs.Objects.{identifier}
use Rattle.idl_types.specs.State as idl_types
use Rattle.type_resolve.specs.declared.sides.Identifiers.{Identifiers}
use Rattle.tool_runs.specs.output.Runs.{Comes}
use Rattle.tool_runs.specs.declared.output.stop.Stop.{Stop}
use Rattle.tool_words.specs.Words.{Form, plain, within, by_id, Reference}
use Rattle.tool_types.specs.Types.{Declared, types, object}
use Rattle.tool_types.specs.Declaring.{Identifies}
use Rattle.tool_types.specs.Coming.{ComeBack, ComesBack, AllComeBack}
use Rattle.tool_types.specs.names.Names.{Meaning, typed, identified, type_by_name, has_name, in_record, or_else, in_records, in_record_at, meant, or_refused, type_meant, type_named}
use Rattle.tool_types.specs.names.Identified.{by_hash, hash_meant, IsBack, IsBackMeant, Resolves}
use Rattle.tool_types.specs.names.Meanings.{IsFound}
use Rattle.tool_types.specs.declared.names.named.NamedType.{NamedType}

abbrev IsBackIn : Texts → Option Tree → Type 0
IsBackIn pool None = Unit {0}
IsBackIn pool (Some t) = IsBack pool t

chosen : (pool : Texts) (b : Bool) (x y : Option Tree) → IsBackIn pool x → IsBackIn pool y → IsBackIn pool (if b then x else y)
chosen pool true x y p q = p
chosen pool false x y p q = q

by_name : (pool : Texts) (name : List ℕ) (ts : idl_types.Declared) → ComeBack pool ts → IsBackIn pool (type_by_name name ts)
by_name pool name [] all = tt
by_name pool name (t ∷ ts) all = chosen pool (bytes_eq t.0 name) (Some t.1) (type_by_name name ts) all.0 (by_name pool name ts all.1)

-- the first type of a name in a text
pub name_back : (pool : Texts) (name : List ℕ) (ts : idl_types.Declared) (t : Tree) (id : HashId) → ComeBack pool ts → type_by_name name ts ≡ Some t → identifier true t ≡ o.hash id → resolved pool id ≡ Ok t
name_back pool name ts t id all is hashed = let back = subst (IsBackIn pool) is (by_name pool name ts all) in back id hashed

typed_back : (pool : Texts) (x : Option Tree) → IsBackIn pool x → IsBackMeant pool (option_map typed x)
typed_back pool None p = tt
typed_back pool (Some t) p = p

object_back : (pool : Texts) (b : Bool) (id : HashId) → IsBackMeant pool (if b then Some (identified id) else None)
object_back pool true id = tt
object_back pool false id = tt

record_back : (pool : Texts) (name : List ℕ) (d : Declared) → ComesBack pool d → IsBackMeant pool (in_record name d)
record_back pool name (types ts) all = typed_back pool (type_by_name name ts) (by_name pool name ts all)
record_back pool name (object id other) all = object_back pool (has_name name other) id

either_back : (pool : Texts) (x y : Option Meaning) → IsBackMeant pool x → IsBackMeant pool y → IsBackMeant pool (or_else x y)
either_back pool None y p q = q
either_back pool (Some m) y p q = p

records_back : (pool : Texts) (name : List ℕ) (ds : List Declared) → AllComeBack pool ds → IsBackMeant pool (in_records name ds)
records_back pool name [] all = tt
records_back pool name (d ∷ ds) all = either_back pool (in_record name d) (in_records name ds) (record_back pool name d all.0) (records_back pool name ds all.1)

at_back : (pool : Texts) (name : List ℕ) (k : ℕ) (ds : List Declared) → AllComeBack pool ds → IsBackMeant pool (in_record_at k name ds)
at_back pool name k [] all = tt
at_back pool name zero (d ∷ ds) all = record_back pool name d all.0
at_back pool name (suc k) (d ∷ ds) all = at_back pool name k ds all.1

id_back : (pool : Texts) (id : HashId) (text : Option (List ℕ)) → IsBackMeant pool (option_map (λ t. identified id) text)
id_back pool id None = tt
id_back pool id (Some t) = tt

pub meant_back : (f : Form) (front : List Declared × Texts) → AllComeBack front.1 front.0 → IsBackMeant front.1 (meant f front)
meant_back (plain name) front all = records_back front.1 name front.0 all
meant_back (within k name) front all = at_back front.1 name k front.0 all
meant_back (by_id id) front all = id_back front.1 id (found id front.1)

-- ---- words

pub resolves : (r : Result Tree walks.Refusal) (t : Tree) → or_refused r ≡ Ok t → r ≡ Ok t
resolves (Ok u) t e = cc
resolves (Err why) t e = absurd cc

is_hash : (word : List ℕ) (i : Identifier) (id : HashId) → by_hash word i ≡ Ok id → i ≡ o.hash id
is_hash word (o.hash j) id e = let same : j ≡ id = cc in ap (λ (h : HashId). o.hash h) same
is_hash word o.none id e = absurd cc
is_hash word (o.prim p) id e = absurd cc
is_hash word (o.str bound) id e = absurd cc
is_hash word (o.sequence ek flags bound t) id e = absurd cc
is_hash word (o.array ek flags dims t) id e = absurd cc
is_hash word (o.map_of ek flags bound v kf k) id e = absurd cc

meaning_resolves : (word : List ℕ) (pool : Texts) (m : Option Meaning) (t : Tree) (id : HashId) → IsBackMeant pool m → type_meant word pool m ≡ Ok t → hash_meant word m ≡ Ok id → resolved pool id ≡ Ok t
meaning_resolves word pool None t id back named hashed = absurd cc
meaning_resolves word pool (Some (typed u)) t id back named hashed = let same : u ≡ t = cc in subst (λ (x : Tree). resolved pool id ≡ Ok x) same (back id (is_hash word (identifier true u) id hashed))
meaning_resolves word pool (Some (identified i)) t id back named hashed = let same : i ≡ id = cc in subst (λ (x : HashId). resolved pool x ≡ Ok t) same (resolves (resolved pool i) t named)

-- The identifier that a word means resolves to the type that it names.
pub id_resolves : (r : Reference) (front : List Declared × Texts) (t : Tree) (id : HashId) → AllComeBack front.1 front.0 → type_named r front ≡ Ok t → hash_meant r.word (meant r.form front) ≡ Ok id → resolved front.1 id ≡ Ok t
id_resolves r front t id all named hashed = meaning_resolves r.word front.1 (meant r.form front) t id (meant_back r.form front all) named hashed

is_resolved : (r : Result Tree walks.Refusal) (t : Tree) → r ≡ Ok t → IsOk r
is_resolved (Ok u) t e = refl
is_resolved (Err why) t e = absurd cc

-- what resolves has a type in the pool
pub has_type : (pool : Texts) (id : HashId) (t : Tree) → resolved pool id ≡ Ok t → Resolves pool id
has_type pool id t e = is_resolved (resolved pool id) t e

-- the identifier of a type with objects of its own
pub hash_is : (word : List ℕ) (t : Tree) (id : HashId) → identifier true t ≡ o.hash id → by_hash word (identifier true t) ≡ Ok id
hash_is word t id e = ap (by_hash word) e

-- a declared type's own identifier resolves to it
pub declared_resolves : (pool : Texts) (t : Tree) (ids : Identifiers) → IsBack pool t → Identifies t ids → resolved pool ids.complete ≡ Ok t
declared_resolves pool t ids back named = back ids.complete named.complete

-- A type that is named is found with its identifier.
pub found_by : (r : Reference) (front : List Declared × Texts) (result : Result NamedType Stop) → AllComeBack front.1 front.0 → Comes (type_named r front) (λ n. tree n.ty) result → IfOk result (λ n. IsValid n.ty) → IfOk result (λ n. hash_meant r.word (meant r.form front) ≡ Ok n.id) → IfOk result (IsFound front.1)
found_by r front (Ok n) all named valid hashed = record { valid = valid; back = id_resolves r front (tree n.ty) n.id all named hashed }
found_by r front (Err stop) all named valid hashed = tt
