-- What `show` and `compile` write of what the records of a front declare (this profile's own).
use Rattle.std.specs.Prelude.{◌≡◌, ℕ, Bool, true, false, ◌&&◌, List, [], ◌∷◌, ◌++◌, map, Option, Some, None, Result, Ok, codes}
use Rattle.xt_io.specs.declared.Item.{Item}
use Rattle.xt_io.specs.declared.Kind.TheVariants as kinds
use Rattle.xt_io.specs.Records.{record_octets}
use Rattle.type_trees.specs.declared.types.HashId.{HashId}
use Rattle.type_trees.specs.Ids.{id_text}
use Rattle.type_trees.specs.Trees.{Tree}
use Rattle.object_formats.specs.Objects as o
use Rattle.type_object.specs.Pools.{Texts}
use Rattle.type_resolve.specs.Adding.{all_added}
use Rattle.type_resolve.specs.Objects.{identifier}
use Rattle.type_resolve.specs.Definitions.{types_texts}
use Rattle.type_resolve.specs.declared.sides.Identifiers.{Identifiers}
use Rattle.idl_printer.specs.Lines.{printed}
use Rattle.tool_runs.specs.output.Outputs.{Refusal, ◌>>=◌}
use Rattle.tool_types.specs.Types.{Declared, types, object, declare}

-- ---- `show`: of a text the printed IDL and a line for each type, of an object one line

abbrev pub identifier_text : o.Identifier → List ℕ
identifier_text (o.hash id) = id_text id
identifier_text t = []

-- a type's full name, and its minimal and complete identifiers
abbrev pub type_line : List ℕ × Tree → List ℕ
type_line t = codes "// " ++ (t.0 ++ 32 ∷ (identifier_text (identifier false t.1) ++ 32 ∷ (identifier_text (identifier true t.1) ++ 10 ∷ [])))

-- the same of a name, by the identifiers that stand beside it
abbrev pub named_line : List ℕ → Identifiers → List ℕ
named_line name ids = codes "// " ++ (name ++ 32 ∷ (identifier_text (o.hash ids.minimal) ++ 32 ∷ (identifier_text (o.hash ids.complete) ++ 10 ∷ [])))

abbrev pub named_lines : List (List ℕ) → List Identifiers → List ℕ
named_lines [] ids = []
named_lines (name ∷ names) [] = []
named_lines (name ∷ names) (i ∷ ids) = named_line name i ++ named_lines names ids

-- the objects of types have no names where they are minimal
abbrev pub name_or_none : Option (List ℕ) → List ℕ
name_or_none None = codes "-"
name_or_none (Some name) = name

abbrev pub object_line : HashId → Option (List ℕ) → List ℕ
object_line id name = codes "// " ++ (name_or_none name ++ 32 ∷ (id_text id ++ 10 ∷ []))

abbrev pub shown : Declared → List (List ℕ)
shown (types ts) = printed ts ∷ map type_line ts
shown (object id name) = object_line id name ∷ []

abbrev pub all_shown : List Declared → List (List ℕ)
all_shown [] = []
all_shown (d ∷ ds) = shown d ++ all_shown ds

abbrev pub show_lines : List Item → Result (List (List ℕ)) Refusal
show_lines records = declare 0 [] records >>= λ front. Ok (all_shown front.0)

-- ---- `compile`: the objects of the types of texts, what stands inside first, each once

-- an object of the front is not written again
abbrev pub texts_in : Declared → List (List ℕ)
texts_in (types ts) = types_texts ts
texts_in (object id name) = []

abbrev pub all_texts : List Declared → List (List ℕ)
all_texts [] = []
all_texts (d ∷ ds) = texts_in d ++ all_texts ds

abbrev pub object_record : HashId × List ℕ → List ℕ
object_record entry = record_octets kinds.Object entry.1

-- Added to a pool one after another, each text comes once, at its first place.
abbrev pub compile_records : List Item → Result (List (List ℕ)) Refusal
compile_records records = declare 0 [] records >>= λ front. Ok (map object_record (all_added [] (all_texts front.0)).0)

-- ---- where the front has texts alone

abbrev pub is_text : Declared → Bool
is_text (types ts) = true
is_text (object id name) = false

abbrev pub are_texts : List Declared → Bool
are_texts [] = true
are_texts (d ∷ ds) = is_text d && are_texts ds

-- Of texts alone, a pool has what is compiled, in order.
abbrev pub HasCompiled : List Declared × Texts → Type 0
HasCompiled front = are_texts front.0 ≡ true → all_added [] (all_texts front.0) ≡ (front.1, None)

-- The pool of a front does.
abbrev pub FrontHasCompiled : Type 0
FrontHasCompiled = (records : List Item) (front : List Declared × Texts) → declare 0 [] records ≡ Ok front → HasCompiled front
