-- The parts of values, as lists.
use Rattle.std.proofs.Common.{◌≡◌, refl, ℕ, ◌+◌, ◌<◌, ◌≤◌, List, [], ◌∷◌, ap, map, drop, length, get_or}
use Rattle.std.proofs.lemmas.List.{drop_more, drop_all}
use Rattle.type_trees.specs.declared.values.Value.{Value}
use Rattle.type_trees.specs.View.{val}
use Rattle.type_trees.proofs.Views.{val_rules}
use Rattle.xt_shapes.specs.Vals.{Val, vals_of, each_val, pairs_of, each_pair}

pub each_val_of : (vs : List Val) → each_val (vals_of vs) ≡ vs
each_val_of [] = refl
each_val_of (v ∷ vs) = ap (λ r. v ∷ r) (each_val_of vs)

pub each_pair_of : (ps : List (Val × Val)) → each_pair (pairs_of ps) ≡ ps
each_pair_of [] = refl
each_pair_of (p ∷ ps) = ap (λ r. p ∷ r) (each_pair_of ps)

pub ruleset part_rules = (val_rules, each_val_of, each_pair_of)

pub ruleset slot_rules = (val_rules)

-- the next of the values that are left
pub next_val : (vs : List Value) (i : ℕ) (v : Value) → i < length vs → v ≡ get_or vs i v → map val (drop i vs) ≡ val v ∷ map val (drop (i + 1) vs)
next_val vs i v within is = rw (drop_more vs i v within, ← is) refl

pub no_more_vals : (vs : List Value) (i : ℕ) → length vs ≤ i → map val (drop i vs) ≡ []
no_more_vals vs i past = ap (map val) (drop_all i vs past)
