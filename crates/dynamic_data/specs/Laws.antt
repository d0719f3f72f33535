-- That a value is read from its JSON (this profile's own).
use Rattle.std.specs.Prelude.{◌≡◌, true, None, Ok}
use Rattle.xt_shapes.specs.Typing.{has_type}
use Rattle.xt_shapes.specs.Vals.{Val}
use Rattle.type_trees.specs.Bridge.{shape}
use Rattle.type_trees.specs.Trees.{Tree}
use Rattle.type_rules.specs.Valid.{type_fault}
use Rattle.json_values.specs.Read.{read_as}
use Rattle.json_values.specs.Written.{json_text}

-- The JSON of a value of a valid type means that value.
abbrev pub JsonIsRead : Type 0
JsonIsRead = (t : Tree) (v : Val) → type_fault t ≡ None → has_type (shape t) v ≡ true → read_as t (json_text t v) ≡ Ok v
