-- The types that a command runs on, from the records of a front (this profile's own).
use Rattle.std.specs.Prelude.{◌≡◌, List, [], None, Result, Ok}
use Rattle.xt_io.specs.declared.Item.{Item}
use Rattle.type_trees.specs.declared.types.HashId.{HashId}
use Rattle.type_trees.specs.Trees.{Tree}
use Rattle.type_rules.specs.Valid.{type_fault}
use Rattle.type_object.specs.Pools.{Texts}
use Rattle.tool_runs.specs.output.Outputs.{Refusal, ◌>>=◌}
use Rattle.tool_samples.specs.lines.Lines.{judged}
use Rattle.tool_types.specs.Types.{Declared, declare}
use Rattle.tool_types.specs.names.Identified.{id_named}
use Rattle.tool_types.specs.names.Names.{pair_named, top_named}
use Rattle.tool_words.specs.Words.{Pair, Reference}

-- the reader's type, where it is assignable from the writer's
abbrev pub assignable : Pair → List Declared × Texts → Result Tree Refusal
assignable pair front = pair_named pair.reader pair.writer front >>= λ ts. judged pair.policy pair.rep ts.0 ts.1 >>= λ u. Ok ts.0

abbrev pub reader_type : Pair → List Item → Result Tree Refusal
reader_type pair records = declare 0 [] records >>= λ front. assignable pair front

-- the structure or union that a word names
abbrev pub top_type : Reference → List Item → Result Tree Refusal
top_type r records = declare 0 [] records >>= λ front. top_named r front

-- the same, with the pool of the front's objects
abbrev pub top_and_pool : Reference → List Item → Result (Tree × Texts) Refusal
top_and_pool r records = declare 0 [] records >>= λ front. top_named r front >>= λ t. Ok (t, front.1)

-- its identifier, with the pool
abbrev pub id_and_pool : Reference → List Item → Result (HashId × Texts) Refusal
id_and_pool r records = declare 0 [] records >>= λ front. id_named r front >>= λ id. Ok (id, front.1)

-- Both types that words name among what a front declares are valid.
abbrev pub NamedAreValid : Type 0
NamedAreValid = (records : List Item) (front : List Declared × Texts) (r w : Reference) (reader writer : Tree) → declare 0 [] records ≡ Ok front → pair_named r w front ≡ Ok (reader, writer) → (type_fault reader ≡ None) × (type_fault writer ≡ None)
