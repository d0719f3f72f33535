-- Packed values and the values made of them.
use Rattle.std.proofs.Common.{◌≡◌, ℕ, suc, ◌+◌, ◌-◌, ◌<◌, List, [], ◌∷◌, ◌++◌, map, take, drop, append_assoc, arith}
use Rattle.std.proofs.lemmas.List.{map-append}
use Rattle.type_trees.specs.declared.values.Value.{Value}
use Rattle.type_trees.specs.View.{val}
use Rattle.type_trees.proofs.Views.{val_rules}
use Rattle.xt_shapes.specs.declared.leaves.Order.{Order}
use Rattle.xt_shapes.specs.declared.leaves.Primitive.{Primitive}
use Rattle.xt_shapes.specs.Sizes.{size}
use Rattle.packed_reader.specs.View.{number_of, numbers_in}
use Rattle.packed_reader.proofs.Views.{packed_rules}

pub ruleset both_rules = (val_rules, packed_rules)

-- a number more
pub numbers_next : (p : Primitive) (o : Order) (n i : ℕ) (ys first more : List ℕ) (front behind : List Value) (w : Value) → i < n → first ≡ take (size p) ys → more ≡ drop (size p) ys → val w ≡ number_of p o first → behind ≡ front ++ w ∷ []
    → map val behind ++ numbers_in p o (n - (i + 1)) more ≡ map val front ++ numbers_in p o (n - i) ys
numbers_next p o n i ys first more front behind w within is_first is_more is all =
    let k = n - (i + 1) in
    let next : n - i ≡ suc k = omega arith in
    rw (all, is_more, next) (rw (map-append val front (w ∷ []), is, is_first) (append_assoc (map val front) (number_of p o (take (size p) ys) ∷ []) (numbers_in p o k (drop (size p) ys))))
