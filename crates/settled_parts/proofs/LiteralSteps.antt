-- A literal at an index.
use Rattle.std.proofs.Common.{◌≡◌, refl, ℕ, zero, suc, ◌<◌, ℤ, Bool, true, false, ◌||◌, List, [], ◌∷◌, map, length, get_or, arith}
use Rattle.std.specs.Ordering.{int_eq}
use Rattle.xt_shapes.specs.Select.{is_literal}
use Rattle.type_trees.specs.declared.types.Literal.{Literal}
use Rattle.type_trees.specs.Bridge.{literal_shape}

or_first : (a b : Bool) → a ≡ true → (a || b) ≡ true
or_first true b e = refl
or_first false b e = absurd cc

or_next : (a b : Bool) → b ≡ true → (a || b) ≡ true
or_next true b e = refl
or_next false b e = e

pub literal_at : (ls : List Literal) (i : ℕ) (d : Literal) (n : ℤ) → i < length ls → int_eq (literal_shape (get_or ls i d)).value n ≡ true → is_literal (map literal_shape ls) n ≡ true
literal_at [] i d n lt e = absurd (omega arith)
literal_at (l ∷ ls) zero d n lt e = or_first (int_eq (literal_shape l).value n) (is_literal (map literal_shape ls) n) e
literal_at (l ∷ ls) (suc i) d n lt e = or_next (int_eq (literal_shape l).value n) (is_literal (map literal_shape ls) n) (literal_at ls i d n (omega arith) e)

pub ruleset literal_rules = (literal_at)
