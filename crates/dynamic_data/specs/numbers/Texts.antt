-- JSON texts with floats as numbers (this profile's own).
use Rattle.std.specs.Prelude.{◌≡◌, ℕ, List, [], ◌∷◌, cond, Option, Some, None, option_and_then, Err}
use Rattle.std.specs.Str.{is_utf8}
use Rattle.json.specs.Json as json
use Rattle.json.specs.Json.{Json}
use Rattle.json.specs.Lex.{tokens}
use Rattle.json.specs.Print.{print}
use Rattle.json.specs.Tree.{json_tokens}
use Rattle.serde_json.specs.Read.{max_depth}
use Rattle.xt_shapes.specs.Vals.{Val}
use Rattle.type_trees.specs.Trees.{Tree}
use Rattle.json_values.specs.declared.faults.JsonRule.{JsonRule}
use Rattle.json_values.specs.declared.faults.ValueFault.TheVariants.{Wrong}
use Rattle.json_values.specs.Steps.{Reading}
use Rattle.json_values.specs.Read.{read_as}
use Rattle.dynamic_data.specs.numbers.Floats.{ShowsNumber}
use Rattle.dynamic_data.specs.numbers.Walks.{Turns}
use Rattle.dynamic_data.specs.numbers.Bits.{bits}

abbrev pub tree_of : List ℕ → Option Json
tree_of text = option_and_then (λ p. json.if_last p.0 p.1) (json.value max_depth (tokens text))

-- the tree of a text, which nests as deep as `serde_json` reads
abbrev pub document : List ℕ → Option Json
document text = cond (is_utf8 text) (tree_of text) None

-- ---- from raw bits to numbers

abbrev pub ShowsTree : Tree → Option Json → List ℕ → List ℕ → Type 0
ShowsTree t None text shown = shown ≡ text
ShowsTree t (Some j) text shown = (k : Json) × Turns ShowsNumber t j k × (shown ≡ print (json_tokens k))

-- the same text with finite floats as numbers
abbrev pub ShowsNumbers : Tree → (text shown : List ℕ) → Type 0
ShowsNumbers t text shown = ShowsTree t (document text) text shown

-- ---- from numbers to raw bits

abbrev pub bits_tree : Json → Tree → List ℕ → Option Json → List ℕ
bits_tree too_large t text None = text
bits_tree too_large t text (Some j) = print (json_tokens (bits too_large t j))

-- the same text with raw bits for floats
abbrev pub bits_text : (too_large : Json) → Tree → List ℕ → List ℕ
bits_text too_large t text = bits_tree too_large t text (document text)

-- The first fault is a number that is too large where an empty text in its place is no float, and a number in its place is another fault.
abbrev pub with_range : Reading Val → Reading Val → Reading Val
with_range (Err (Wrong path JsonRule.Text)) (Err (Wrong other JsonRule.Kind)) = Err (Wrong path JsonRule.Range)
with_range r other = r

-- what a text means for a type, where a float may be a number: the nearest float, and RANGE where none that is finite is the nearest
abbrev pub read_numbers : Tree → List ℕ → Reading Val
read_numbers t text = with_range (read_as t (bits_text (json.string []) t text)) (read_as t (bits_text (json.number (48 ∷ [])) t text))
