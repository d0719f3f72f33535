-- What a word names among the types of a front (this profile's own).
use Rattle.std.specs.Prelude.{ℕ, Bool, false, List, [], ◌∷◌, ◌++◌, Option, Some, None, Result, Ok, Err, slice_get, if◌then◌else◌, codes}
use Rattle.std.specs.Fmt.{decimal}
use Rattle.std.specs.Option.{option_map, option_and_then}
use Rattle.std.specs.Str.{bytes_eq}
use Rattle.type_trees.specs.declared.types.HashId.{HashId}
use Rattle.type_trees.specs.Trees.{Tree}
use Rattle.type_trees.specs.Bridge.{shape}
use Rattle.type_trees.specs.samples.Tops.{is_top}
use Rattle.type_object.specs.Pools.{Texts, found}
use Rattle.idl_types.specs.State as idl_types
use Rattle.object_walks.specs.Resolving as walks
use Rattle.object_walks.specs.Resolving.{resolved}
use Rattle.tool_runs.specs.declared.output.ending.Cause.TheVariants.{NoName}
use Rattle.tool_runs.specs.output.Outputs.{Refusal, ◌>>=◌}
use Rattle.type_trees.specs.Ids.{id_text}
use Rattle.tool_types.specs.Types.{Declared, types, object, types_refusal}
use Rattle.tool_words.specs.Words.{Form, plain, within, by_id, Reference}

-- What is meant: a type that a text declares, or what an identifier stands for.
pub data Meaning : Type 0 where
  typed : Tree → Meaning
  identified : HashId → Meaning

-- the first type of that name in a text
abbrev pub type_by_name : List ℕ → idl_types.Declared → Option Tree
type_by_name name [] = None
type_by_name name (t ∷ ts) = if bytes_eq t.0 name then Some t.1 else type_by_name name ts

abbrev pub has_name : List ℕ → Option (List ℕ) → Bool
has_name name None = false
has_name name (Some other) = bytes_eq other name

abbrev pub in_record : List ℕ → Declared → Option Meaning
in_record name (types ts) = option_map typed (type_by_name name ts)
in_record name (object id other) = if has_name name other then Some (identified id) else None

abbrev pub or_else : Option Meaning → Option Meaning → Option Meaning
or_else None later = later
or_else (Some meaning) later = Some meaning

-- the first record that has the name
abbrev pub in_records : List ℕ → List Declared → Option Meaning
in_records name [] = None
in_records name (d ∷ ds) = or_else (in_record name d) (in_records name ds)

-- in the record of this number alone
abbrev pub in_record_at : ℕ → List ℕ → List Declared → Option Meaning
in_record_at k name ds = option_and_then (in_record name) (slice_get ds k)

-- an identifier that the pool has
abbrev pub with_id : HashId → Texts → Option Meaning
with_id id pool = option_map (λ text. identified id) (found id pool)

abbrev pub meant : Form → List Declared × Texts → Option Meaning
meant (plain name) front = in_records name front.0
meant (within k name) front = in_record_at k name front.0
meant (by_id id) front = with_id id front.1

-- ---- the type

abbrev pub missing_text : HashId → List ℕ
missing_text id = codes "resolve missing " ++ id_text id

abbrev pub recursive_text : HashId → List ℕ
recursive_text id = codes "resolve recursive " ++ id_text id

abbrev pub invalid_text : HashId → ℕ → List ℕ
invalid_text id rule = codes "resolve V" ++ decimal rule ++ 32 ∷ id_text id

abbrev pub walk_refusal : walks.Refusal → Refusal
walk_refusal (walks.missing id) = types_refusal (missing_text id)
walk_refusal (walks.recursive id) = types_refusal (recursive_text id)
walk_refusal (walks.invalid id rule path) = types_refusal (invalid_text id rule)

abbrev pub or_refused : Result Tree walks.Refusal → Result Tree Refusal
or_refused (Ok t) = Ok t
or_refused (Err refusal) = Err (walk_refusal refusal)

-- what an identifier resolves to
abbrev pub type_resolved : HashId → Texts → Result Tree Refusal
type_resolved id pool = or_refused (resolved pool id)

-- a type that a text declares, as it is
abbrev pub as_declared : Tree → Result Tree Refusal
as_declared t = Ok t

-- no record has the name
abbrev pub name_refusal : List ℕ → Refusal
name_refusal word = record { text = codes "name " ++ word; cause = NoName }

abbrev pub type_meant : List ℕ → Texts → Option Meaning → Result Tree Refusal
type_meant word pool None = Err (name_refusal word)
type_meant word pool (Some (typed t)) = as_declared t
type_meant word pool (Some (identified id)) = type_resolved id pool

-- the type that a word names
abbrev pub type_named : Reference → List Declared × Texts → Result Tree Refusal
type_named r front = type_meant r.word front.1 (meant r.form front)

-- ---- tops

-- behind aliases the type is a structure or a union
abbrev pub topped : List ℕ → Tree → Result (Unit {0}) Refusal
topped word t = if is_top (shape t) then Ok tt else Err (types_refusal (codes "top " ++ word))

-- a type that is a top
abbrev pub top_named : Reference → List Declared × Texts → Result Tree Refusal
top_named r front = type_named r front >>= λ t. topped r.word t >>= λ _. Ok t

abbrev pub both_named : Reference → Reference → List Declared × Texts → Result (Tree × Tree) Refusal
both_named r w front = type_named r front >>= λ t1. type_named w front >>= λ t2. Ok (t1, t2)

abbrev pub both_topped : Reference → Reference → Tree × Tree → Result (Unit {0}) Refusal
both_topped r w ts = topped r.word ts.0 >>= λ _. topped w.word ts.1

-- The reader's type and the writer's: both are found before a top is tried.
abbrev pub pair_named : Reference → Reference → List Declared × Texts → Result (Tree × Tree) Refusal
pair_named r w front = both_named r w front >>= λ ts. both_topped r w ts >>= λ _. Ok ts
