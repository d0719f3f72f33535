-- How many nodes what is gathered has, by what its parts have.
use Rattle.std.proofs.Common.{◌≡◌, ℕ, zero, suc, ◌+◌, ◌*◌, ◌≤◌, ℤ, Bool, true, false, cond, List, [], ◌∷◌, map, length, take, max, replicate, Option, Some, None, refl, ap, arith, ◌==◌}
use Rattle.std.specs.Option.{option_map}
use Rattle.xt_shapes.specs.declared.leaves.Try.{Try}
use Rattle.xt_shapes.specs.declared.leaves.Try.TheVariants.{Discard, UseDefault, Trim}
use Rattle.xt_shapes.specs.Defaults.{default_of, default_slots, default_union, by_label}
use Rattle.xt_shapes.specs.Nodes.{nodes, nodes_vals, nodes_slots, nodes_slot}
use Rattle.xt_shapes.specs.Shape.{Shape, prim, str, enumeration, bitmask, sequence, array, map_of, structure, union, Members, no_members, member, Cases, no_cases, one_case, product}
use Rattle.xt_shapes.specs.Typing.{is_past}
use Rattle.xt_shapes.specs.Vals.{Val, listed, union_of, absent, present, vals_of}
use Rattle.xt_shapes.specs.Weight.{weight, weights, greatest}
use Rattle.xcdr_model.specs.Projection.{Built, got, over, failed, settled, both, all_some, kept, within, gather_items}

abbrev pub built_measure : (Val → ℕ) → Built → ℕ
built_measure m (got v) = m v
built_measure m (over v) = m v
built_measure m failed = 0

abbrev pub nodes_built : Built → ℕ
nodes_built b = built_measure nodes b

-- ---- defaults

many : (n : ℕ) (v : Val) (w : ℕ) → nodes v ≤ w → nodes_vals (vals_of (replicate n v)) ≤ n * w
many zero v w h = omega arith
many (suc n) v w h = omega (arith, h, many n v w h)

labelled_nodes : (ls : List ℤ) (v next : Val) (w g : ℕ) → nodes v ≤ w → nodes next ≤ 2 + g → nodes (by_label ls (λ l. union_of l (present v)) next) ≤ 2 + max w g
labelled_nodes [] v next w g h k = omega (arith, k)
labelled_nodes (l ∷ ls) v next w g h k = omega (arith, h)

default_slot_nodes : (o : Bool) (v : Val) (w : ℕ) → nodes v ≤ w → nodes_slot (cond o absent (present v)) ≤ w
default_slot_nodes true v w h = omega arith
default_slot_nodes false v w h = h

mutual
  pub default_nodes : (t : Shape) → nodes (default_of t) ≤ weight t
  default_nodes (prim p) = omega arith
  default_nodes (str bound) = omega arith
  default_nodes (enumeration e bits ls) = omega arith
  default_nodes (bitmask bits fs) = omega arith
  default_nodes (sequence bound tc t) = omega arith
  default_nodes (array dims tc t) = omega (arith, many (product dims) (default_of t) (weight t) (default_nodes t))
  default_nodes (map_of bound kc k vc t) = omega arith
  default_nodes (structure e ms) = omega (arith, defaults_nodes ms)
  default_nodes (union e key disc cs) = default_union_nodes cs

  defaults_nodes : (ms : Members) → nodes_slots (default_slots ms) ≤ weights ms
  defaults_nodes no_members = omega arith
  defaults_nodes (member h t ms) = omega (arith, default_slot_nodes h.optional (default_of t) (weight t) (default_nodes t), defaults_nodes ms)

  default_union_nodes : (cs : Cases) → nodes (default_union cs) ≤ 2 + greatest cs
  default_union_nodes no_cases = omega arith
  default_union_nodes (one_case h t cs) = labelled_nodes h.labels (default_of t) (default_union cs) (weight t) (greatest cs) (default_nodes t) (default_union_nodes cs)

-- ---- collections

-- a part counts as its default at least
abbrev pub weigh : (Val → ℕ) → ℕ → List Built → ℕ
weigh m w [] = 0
weigh m w (b ∷ bs) = max (built_measure m b) w + weigh m w bs

abbrev pub sum_by : (Val → ℕ) → List Val → ℕ
sum_by m [] = 0
sum_by m (v ∷ vs) = m v + sum_by m vs

pub settled_measure : (m : Val → ℕ) (tc : Try) (d : Val) (b : Built) (v : Val) (w : ℕ) → m d ≤ w → settled tc d (λ x. x) b ≡ Some v → m v ≤ max (built_measure m b) w
settled_measure m tc d (got x) v w h e = (let z : x ≡ v = cc in omega (arith, ap m z))
settled_measure m Trim d (over x) v w h e = (let z : x ≡ v = cc in omega (arith, ap m z))
settled_measure m UseDefault d (over x) v w h e = (let z : d ≡ v = cc in omega (arith, ap m z, h))
settled_measure m Discard d (over x) v w h e = absurd cc
settled_measure m UseDefault d failed v w h e = (let z : d ≡ v = cc in omega (arith, ap m z, h))
settled_measure m Trim d failed v w h e = absurd cc
settled_measure m Discard d failed v w h e = absurd cc

pub both_parts : {X Y Z : Type 0} (f : X → Y → Z) (x : Option X) (y : Option Y) (z : Z) → both f x y ≡ Some z → (a : X) × (b : Y) × (x ≡ Some a) × (y ≡ Some b) × (f a b ≡ z)
both_parts f None y z e = absurd cc
both_parts f (Some a) None z e = absurd cc
both_parts f (Some a) (Some b) z e = (a, b, refl, refl, (let k : f a b ≡ z = cc in k))

all_measure : (m : Val → ℕ) (tc : Try) (d : Val) (w : ℕ) (bs : List Built) (vs : List Val) → m d ≤ w → all_some (map (settled tc d (λ x. x)) bs) ≡ Some vs → sum_by m vs ≤ weigh m w bs
all_measure m tc d w [] vs h e = (let z : [] ≡ vs = cc in omega (arith, ap (λ (y : List Val). sum_by m y) z))
all_measure m tc d w (b ∷ bs) vs h e =
    let z = both_parts (λ (y : Val) (ys : List Val). y ∷ ys) (settled tc d (λ x. x) b) (all_some (map (settled tc d (λ x. x)) bs)) vs e in
    omega (arith, ap (λ (y : List Val). sum_by m y) z.4, settled_measure m tc d b z.0 w h z.2, all_measure m tc d w bs z.1 h z.3)

take_weigh : (m : Val → ℕ) (w n : ℕ) (bs : List Built) → weigh m w (take n bs) ≤ weigh m w bs
take_weigh m w zero bs = omega arith
take_weigh m w (suc n) [] = omega arith
take_weigh m w (suc n) (b ∷ bs) = omega (arith, take_weigh m w n bs)

kept_weigh : (m : Val → ℕ) (w bound : ℕ) (bs : List Built) → weigh m w (kept bound bs) ≤ weigh m w bs
kept_weigh m w bound bs = by_test (bound == 0)
  where
    by_test : (c : Bool) → weigh m w (cond c bs (take bound bs)) ≤ weigh m w bs
    by_test true = omega arith
    by_test false = take_weigh m w bound bs

pub within_measure : (m : Val → ℕ) (p : Bool) (v : Val) → built_measure m (within p (Some v)) ≡ m v
within_measure m true v = refl
within_measure m false v = refl

-- a list that measures a base and its items
pub items_measure : (F m : Val → ℕ) (base bound : ℕ) (tc : Try) (d : Val) (w : ℕ) (bs : List Built) → m d ≤ w → ((vs : List Val) → F (listed (vals_of vs)) ≤ base + sum_by m vs) → built_measure F (gather_items bound tc d bs) ≤ base + weigh m w bs
items_measure F m base bound tc d w bs h g = by_all (all_some (map (settled tc d (λ v. v)) (kept bound bs))) refl
  where
    by_all : (o : Option (List Val)) → all_some (map (settled tc d (λ v. v)) (kept bound bs)) ≡ o → built_measure F (within (is_past bound (length bs)) (option_map (λ vs. listed (vals_of vs)) o)) ≤ base + weigh m w bs
    by_all None e = omega arith
    by_all (Some vs) e = omega (arith, within_measure F (is_past bound (length bs)) (listed (vals_of vs)), g vs, all_measure m tc d w (kept bound bs) vs h e, kept_weigh m w bound bs)

nodes_sum : (vs : List Val) → nodes_vals (vals_of vs) ≡ sum_by nodes vs
nodes_sum [] = refl
nodes_sum (v ∷ vs) = omega (arith, nodes_sum vs)

pub items_nodes : (bound : ℕ) (tc : Try) (d : Val) (w : ℕ) (bs : List Built) → nodes d ≤ w → nodes_built (gather_items bound tc d bs) ≤ 1 + weigh nodes w bs
items_nodes bound tc d w bs h = items_measure nodes nodes 1 bound tc d w bs h (λ vs. omega (arith, nodes_sum vs))
