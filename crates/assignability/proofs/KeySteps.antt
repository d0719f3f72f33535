-- Key members, one on.
use Rattle.std.proofs.Common.{◌≡◌, refl, ℕ, ◌+◌, ◌<◌, List, length, get_or, drop, Bool, not, ◌&&◌, ◌||◌}
use Rattle.type_trees.specs.declared.types.Member.{Member}
use Rattle.xt_shapes.specs.Shape.{Members}
use Rattle.xt_shapes.specs.Select.{shape_at}
use Rattle.type_trees.specs.Bridge.{type_shape, members_shape, member_head}
use Rattle.type_trees.proofs.Shapes.{members_shape_at}
use Rattle.xt_shapes.specs.Lists.{is_some_and}
use Rattle.xt_shapes.specs.Keyable.{counted}
use Rattle.xcdr_model.specs.Keys.{is_structure, key_fit, keys_fit}
use Rattle.xt_shapes.specs.NodeRules.{is_discard}

pub keys_step : (b : Bool) (keyed : Bool) (ms : List Member) (ns : Members) (i : ℕ) (m : Member) → i < length ms → m ≡ get_or ms i m
    → b ≡ (not (counted keyed (member_head m)) || ((not (is_structure (type_shape m.ty)) || is_discard m.tc) && is_some_and (shape_at ns m.id) (λ u. key_fit (type_shape m.ty) u)))
    → keys_fit keyed (members_shape (drop i ms)) ns ≡ (b && keys_fit keyed (members_shape (drop (i + 1) ms)) ns)
keys_step b keyed ms ns i m within is_m is = rw (members_shape_at ms i m within is_m, is) refl
