-- The identifier that a word means (this profile's own).
use Rattle.std.specs.Prelude.{◌≡◌, ℕ, true, List, ◌++◌, Option, Some, None, Result, Ok, Err, IsOk, codes}
use Rattle.type_trees.specs.declared.types.HashId.{HashId}
use Rattle.type_trees.specs.Trees.{Tree}
use Rattle.object_formats.specs.Objects as o
use Rattle.object_formats.specs.Objects.{Identifier}
use Rattle.object_walks.specs.Resolving.{resolved}
use Rattle.type_object.specs.Pools.{Texts}
use Rattle.type_resolve.specs.Objects.{identifier}
use Rattle.tool_runs.specs.output.Outputs.{Refusal, ◌>>=◌}
use Rattle.tool_types.specs.Types.{Declared, types_refusal}
use Rattle.tool_words.specs.Words.{Reference}
use Rattle.tool_types.specs.names.Names.{Meaning, typed, identified, meant, name_refusal, top_named}

-- Of a type that a text declares it is the identifier of its complete object.
abbrev pub named_by : Meaning → Identifier
named_by (typed t) = identifier true t
named_by (identified id) = o.hash id

-- A type that a text declares has objects of its own, so a hash names it, and this refusal never comes.
abbrev pub by_hash : List ℕ → Identifier → Result HashId Refusal
by_hash word (o.hash id) = Ok id
by_hash word _ = Err (types_refusal (codes "top " ++ word))

abbrev pub hash_meant : List ℕ → Option Meaning → Result HashId Refusal
hash_meant word None = Err (name_refusal word)
hash_meant word (Some meaning) = by_hash word (named_by meaning)

-- the identifier of the structure or union that a word names
abbrev pub id_named : Reference → List Declared × Texts → Result HashId Refusal
id_named r front = top_named r front >>= λ t. hash_meant r.word (meant r.form front)

-- the identifier has a type in the pool
abbrev pub Resolves : Texts → HashId → Type 0
Resolves pool id = IsOk (resolved pool id)

-- a type's complete identifier resolves to it
abbrev pub IsBack : Texts → Tree → Type 0
IsBack pool t = (id : HashId) → identifier true t ≡ o.hash id → resolved pool id ≡ Ok t

-- that of a type that is meant
abbrev pub IsBackMeant : Texts → Option Meaning → Type 0
IsBackMeant pool None = Unit {0}
IsBackMeant pool (Some (typed t)) = IsBack pool t
IsBackMeant pool (Some (identified id)) = Unit {0}
