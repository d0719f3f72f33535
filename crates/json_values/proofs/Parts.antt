-- A union is read by its discriminator.
use Rattle.std.proofs.Common.{◌≡◌, refl, ℤ, [], ◌∷◌, false, Option, Some, Ok}
use Rattle.serde_json.specs.Data as json
use Rattle.serde_json.specs.Data.{Data}
use Rattle.serde_json.specs.Find.{get_member}
use Rattle.xt_shapes.specs.declared.leaves.Step.{Step}
use Rattle.xt_shapes.specs.Select.{select}
use Rattle.xt_shapes.specs.Vals.{Val, number_in}
use Rattle.type_trees.specs.declared.types.UnionType.{UnionType, out-UnionType}
use Rattle.type_trees.specs.Bridge.{cases_shape}
use Rattle.type_trees.specs.View.{tree, cases_tree, union_tree}
use Rattle.type_trees.proofs.Views.{union_tree_is}
use Rattle.json_values.specs.Read.{value_of, body_of, case_reading, has_other}
use Rattle.json_values.specs.Steps.{beneath}
use Rattle.json_values.specs.Written.{disc_key, value_key}

pub parts_read : (kind : UnionType) (os : json.Members) (d : Data) (v : Val) (n : ℤ) (body : Option Data) → has_other (disc_key ∷ value_key ∷ []) os ≡ false → get_member disc_key os ≡ Some d
    → beneath Step.Disc (value_of (tree (out-UnionType kind).disc) d) ≡ Ok v → n ≡ number_in v → get_member value_key os ≡ body
    → value_of (union_tree kind) (json.object os) ≡ body_of n (select (cases_shape (out-UnionType kind).cases) n) (case_reading (cases_tree (out-UnionType kind).cases)) body
parts_read kind os d v n body others found disc number value = rw (union_tree_is kind, others, found, disc, number, value) refl
