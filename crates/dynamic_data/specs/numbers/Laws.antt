-- That a value is read from its JSON with numbers, and that numbers change nothing where a type has no float (this profile's own).
use Rattle.std.specs.Prelude.{◌≡◌, ℕ, false, List, None, Ok}
use Rattle.xt_shapes.specs.Vals.{Val}
use Rattle.type_trees.specs.Trees.{Tree}
use Rattle.type_rules.specs.Valid.{type_fault}
use Rattle.json_values.specs.Read.{read_as}
use Rattle.json_values.specs.Written.{json_text}
use Rattle.dynamic_data.specs.numbers.Kinds.{has_floats}
use Rattle.dynamic_data.specs.numbers.Texts.{ShowsNumbers, read_numbers}

-- A text that means a value still means it where numbers stand for raw bits.
abbrev pub NumbersComeBack : Type 0
NumbersComeBack = (t : Tree) (text shown : List ℕ) (v : Val) → type_fault t ≡ None → read_as t text ≡ Ok v → ShowsNumbers t text shown → read_numbers t shown ≡ Ok v

-- A text without such numbers means the same.
abbrev pub BitsAreRead : Type 0
BitsAreRead = (t : Tree) (text : List ℕ) (v : Val) → type_fault t ≡ None → read_as t text ≡ Ok v → read_numbers t text ≡ Ok v

-- The JSON of a value of a type without floats is also its JSON with numbers.
abbrev pub PlainIsShown : Type 0
PlainIsShown = (t : Tree) (v : Val) → type_fault t ≡ None → has_floats t ≡ false → ShowsNumbers t (json_text t v) (json_text t v)

-- For such a type a text means the same where floats may be numbers.
abbrev pub PlainIsRead : Type 0
PlainIsRead = (t : Tree) (text : List ℕ) → has_floats t ≡ false → read_numbers t text ≡ read_as t text
