-- The JSON of numbers that stand as octets (this profile's own, over RFC 8259).
use Rattle.std.specs.Prelude.{ℕ, List, [], ◌∷◌, Bool, true, ◌++◌}
use Rattle.std.specs.Fmt.{decimal}
use Rattle.serde_json.specs.Written.{items_text, comma_if}
use Rattle.xt_shapes.specs.declared.leaves.Order.{Order}
use Rattle.xt_shapes.specs.declared.leaves.Primitive.{Primitive}
use Rattle.xt_shapes.specs.Vals.{vals_of}
use Rattle.json_values.specs.Written.{int_data, prim_data, vals_data}
use Rattle.packed_reader.specs.View.{numbers_in}

-- n numbers, behind others or none, and the closing bracket
abbrev pub numbers_text : Primitive → Order → Bool → ℕ → List ℕ → List ℕ
numbers_text p o later n ys = items_text later (vals_data (int_data (prim_data p)) (vals_of (numbers_in p o n ys)))

-- octets as numbers, behind others or none, and the closing bracket
abbrev pub octets_text : Bool → List ℕ → List ℕ
octets_text later [] = 93 ∷ []
octets_text later (x ∷ xs) = comma_if later ++ (decimal x ++ octets_text true xs)
