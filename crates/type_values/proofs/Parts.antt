-- The parts of a value, and how many they are.
use Rattle.std.proofs.Common.{◌≡◌, refl, ℕ, ◌<◌, min, List, [], ◌∷◌, nat_eq, ap, arith, tests}
use Rattle.std.proofs.lemmas.List.{length-map}
use Rattle.type_trees.proofs.Views.{tree_rules, val_rules}
use Rattle.xt_shapes.specs.Vals.{Val, vals_of, each_val, pairs_of, each_pair}

pub each_val_of : (vs : List Val) → each_val (vals_of vs) ≡ vs
each_val_of [] = refl
each_val_of (v ∷ vs) = ap (λ r. v ∷ r) (each_val_of vs)

pub each_pair_of : (ps : List (Val × Val)) → each_pair (pairs_of ps) ≡ ps
each_pair_of [] = refl
each_pair_of (p ∷ ps) = ap (λ r. p ∷ r) (each_pair_of ps)

-- a count below the limit equals a number where it equals the number up to the limit
pub same_count : (n p : ℕ) → n < 18446744073709551615 → nat_eq n (min 18446744073709551615 p) ≡ nat_eq n p
same_count n p low = grind (arith, tests)

-- types and values level by level, and the parts of values
pub ruleset part_rules = (tree_rules, val_rules, each_val_of, each_pair_of, same_count, length-map)
