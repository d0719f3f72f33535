-- How many nodes a map, a structure and a union have, by what their parts have.
use Rattle.std.proofs.Common.{◌≡◌, ℕ, zero, suc, ◌+◌, ◌-◌, ◌≤◌, ℤ, Bool, true, false, cond, List, [], ◌∷◌, map, length, take, max, Option, Some, None, refl, ap, arith, ◌==◌}
use Rattle.std.specs.Option.{option_map}
use Rattle.xt_shapes.specs.declared.leaves.Try.{Try}
use Rattle.xt_shapes.specs.declared.leaves.Try.TheVariants.{Discard, UseDefault, Trim}
use Rattle.xt_shapes.specs.Defaults.{default_of}
use Rattle.xt_shapes.specs.Nodes.{nodes, nodes_pairs, nodes_slots, nodes_slot}
use Rattle.xt_shapes.specs.Shape.{Head, Shape, Members, no_members, member}
use Rattle.xt_shapes.specs.Typing.{is_past, repeats}
use Rattle.xt_shapes.specs.Vals.{Val, mapped, struct_of, Slots, no_slots, one_slot, Slot, absent, present, pairs_of}
use Rattle.xt_shapes.specs.Weight.{weight, weights}
use Rattle.xcdr_model.specs.Premises.{distinct_members}
use Rattle.xcdr_model.specs.Projection.{Built, got, over, failed, Part, settled, both, all_some, kept, within, gather_entries, then_entries, slot_default, slot_from, gather_slots, gather_members, built_at, Body, no_body, one_sided, settled_body, union_built}
use Rattle.shape_laws.proofs.NodesBuilt.{nodes_built, default_nodes, settled_measure, within_measure, both_parts, built_measure}
use Rattle.shape_laws.proofs.PartCosts.{total_parts, Measure, measure_at, part_measure, sum_of, sum_parts}

-- ---- maps

abbrev pub weigh2 : ℕ → ℕ → List (Built × Built) → ℕ
weigh2 k w [] = 0
weigh2 k w (x ∷ xs) = max (nodes_built x.0) k + max (nodes_built x.1) w + weigh2 k w xs

abbrev pair_up : Val → Val → Val × Val
pair_up a b = (a, b)

abbrev entry : Try → Val → Try → Val → Built × Built → Option (Val × Val)
entry kc kd vc vd x = both (λ k v. (k, v)) (settled kc kd (λ v. v) x.0) (settled vc vd (λ v. v) x.1)

all_entries : (kc : Try) (kd : Val) (vc : Try) (vd : Val) (k w : ℕ) (bs : List (Built × Built)) (vs : List (Val × Val)) → nodes kd ≤ k → nodes vd ≤ w → all_some (map (entry kc kd vc vd) bs) ≡ Some vs → nodes_pairs (pairs_of vs) ≤ weigh2 k w bs
all_entries kc kd vc vd k w [] vs g h e = (let z : [] ≡ vs = cc in omega (arith, ap (λ (y : List (Val × Val)). nodes_pairs (pairs_of y)) z))
all_entries kc kd vc vd k w (b ∷ bs) vs g h e =
    let z = both_parts (λ (y : Val × Val) (ys : List (Val × Val)). y ∷ ys) (entry kc kd vc vd b) (all_some (map (entry kc kd vc vd) bs)) vs e in
    let y = both_parts pair_up (settled kc kd (λ v. v) b.0) (settled vc vd (λ v. v) b.1) z.0 z.2 in
    omega (arith, ap (λ (y : List (Val × Val)). nodes_pairs (pairs_of y)) z.4, ap (λ (p : Val × Val). nodes p.0 + nodes p.1) y.4, settled_measure nodes kc kd b.0 y.0 k g y.2, settled_measure nodes vc vd b.1 y.1 w h y.3, all_entries kc kd vc vd k w bs z.1 g h z.3)

take_weigh2 : (k w n : ℕ) (bs : List (Built × Built)) → weigh2 k w (take n bs) ≤ weigh2 k w bs
take_weigh2 k w zero bs = omega arith
take_weigh2 k w (suc n) [] = omega arith
take_weigh2 k w (suc n) (b ∷ bs) = omega (arith, take_weigh2 k w n bs)

kept_weigh2 : (k w bound : ℕ) (bs : List (Built × Built)) → weigh2 k w (kept bound bs) ≤ weigh2 k w bs
kept_weigh2 k w bound bs = by_test (bound == 0)
  where
    by_test : (c : Bool) → weigh2 k w (cond c bs (take bound bs)) ≤ weigh2 k w bs
    by_test true = omega arith
    by_test false = take_weigh2 k w bound bs

repeat_nodes : (p c : Bool) (v : Val) → nodes_built (within p (cond c None (Some v))) ≤ nodes v
repeat_nodes p true v = omega arith
repeat_nodes p false v = omega (arith, within_measure nodes p v)

pub entries_nodes : (bound : ℕ) (kc : Try) (kd : Val) (vc : Try) (vd : Val) (k w : ℕ) (bs : List (Built × Built)) → nodes kd ≤ k → nodes vd ≤ w → nodes_built (gather_entries bound kc kd vc vd bs) ≤ 1 + weigh2 k w bs
entries_nodes bound kc kd vc vd k w bs g h = by_all (all_some (map (entry kc kd vc vd) (kept bound bs))) refl
  where
    by_all : (o : Option (List (Val × Val))) → all_some (map (entry kc kd vc vd) (kept bound bs)) ≡ o → nodes_built (within (is_past bound (length bs)) (then_entries o)) ≤ 1 + weigh2 k w bs
    by_all None e = omega arith
    by_all (Some vs) e = omega (arith, repeat_nodes (is_past bound (length bs)) (repeats vs) (mapped (pairs_of vs)), all_entries kc kd vc vd k w (kept bound bs) vs g h e, kept_weigh2 k w bound bs)

-- ---- structures: what a part has beyond its type's weight

abbrev pub excess : Head → Shape → Built → ℕ
excess h t b = nodes_built b - weight t

abbrev pub excess_at : Members → Measure
excess_at ms = measure_at excess ms

-- a slot's measure
abbrev pub slot_measure : (Val → ℕ) → Slot → ℕ
slot_measure m absent = 0
slot_measure m (present w) = m w

pub settled_slot : (m : Val → ℕ) (tc : Try) (d : Slot) (b : Built) (s : Slot) (w : ℕ) → slot_measure m d ≤ w → settled tc d present b ≡ Some s → slot_measure m s ≤ max (built_measure m b) w
settled_slot m tc d (got x) s w h e = (let z : present x ≡ s = cc in omega (arith, ap (slot_measure m) z))
settled_slot m Trim d (over x) s w h e = (let z : present x ≡ s = cc in omega (arith, ap (slot_measure m) z))
settled_slot m UseDefault d (over x) s w h e = (let z : d ≡ s = cc in omega (arith, ap (slot_measure m) z, h))
settled_slot m Discard d (over x) s w h e = absurd cc
settled_slot m UseDefault d failed s w h e = (let z : d ≡ s = cc in omega (arith, ap (slot_measure m) z, h))
settled_slot m Trim d failed s w h e = absurd cc
settled_slot m Discard d failed s w h e = absurd cc

slot_sum : (s : Slot) → nodes_slot s ≡ slot_measure nodes s
slot_sum absent = refl
slot_sum (present w) = refl

slot_default_nodes : (o : Bool) (t : Shape) → nodes_slot (cond o absent (present (default_of t))) ≤ weight t
slot_default_nodes true t = omega arith
slot_default_nodes false t = default_nodes t

slot_nodes : (h : Head) (t : Shape) (o : Option Built) (s : Slot) → slot_from h t o ≡ Some s → nodes_slot s ≤ weight t + part_measure (excess h t) o
slot_nodes h t None s e = (let z : slot_default h t ≡ s = cc in omega (arith, ap nodes_slot z, slot_default_nodes h.optional t))
slot_nodes h t (Some b) s e = omega (arith, slot_sum s, settled_slot nodes h.tc (slot_default h t) b s (weight t) (omega (arith, slot_sum (slot_default h t), slot_default_nodes h.optional t)) e)

slots_nodes : (ms : Members) (f : ℕ → Option Built) (ss : Slots) → gather_slots ms f ≡ Some ss → nodes_slots ss ≤ weights ms + sum_of excess ms f
slots_nodes no_members f ss e = (let z : no_slots ≡ ss = cc in omega (arith, ap nodes_slots z))
slots_nodes (member h t ms) f ss e =
    let z = both_parts one_slot (slot_from h t (f h.id)) (gather_slots ms f) ss e in
    omega (arith, ap nodes_slots z.4, slot_nodes h t (f h.id) z.0 z.2, slots_nodes ms f z.1 z.3)

members_nodes : (ms : Members) (f : ℕ → Option Built) → nodes_built (gather_members ms f) ≤ 1 + weights ms + sum_of excess ms f
members_nodes ms f = by_slots (gather_slots ms f) refl
  where
    by_slots : (o : Option Slots) → gather_slots ms f ≡ o → nodes_built (within false (option_map struct_of o)) ≤ 1 + weights ms + sum_of excess ms f
    by_slots None e = omega arith
    by_slots (Some ss) e = omega (arith, slots_nodes ms f ss e)

pub structure_nodes : (ms : Members) (xs : List (ℕ × Part)) → distinct_members ms ≡ true → nodes_built (gather_members ms (built_at xs)) ≤ 1 + weights ms + total_parts (excess_at ms) xs
structure_nodes ms xs d = omega (arith, members_nodes ms (built_at xs), sum_parts excess ms xs d)

-- ---- unions

abbrev pub nodes_body : Body → ℕ
nodes_body no_body = 0
nodes_body one_sided = 0
nodes_body (settled_body None) = 0
nodes_body (settled_body (Some w)) = nodes w

pub union_nodes : (b : Built) (d : ℤ) (y : Body) → nodes_built (union_built b d y) ≤ 2 + nodes_body y
union_nodes failed d y = omega arith
union_nodes (over v) d y = omega arith
union_nodes (got v) d no_body = omega arith
union_nodes (got v) d one_sided = omega arith
union_nodes (got v) d (settled_body None) = omega arith
union_nodes (got v) d (settled_body (Some w)) = omega arith

pub case_nodes : (tc : Try) (t : Shape) (b : Built) → nodes_body (settled_body (settled tc (default_of t) (λ y. y) b)) ≤ max (nodes_built b) (weight t)
case_nodes tc t b = by_settled (settled tc (default_of t) (λ y. y) b) refl
  where
    by_settled : (o : Option Val) → settled tc (default_of t) (λ y. y) b ≡ o → nodes_body (settled_body o) ≤ max (nodes_built b) (weight t)
    by_settled None e = omega arith
    by_settled (Some v) e = settled_measure nodes tc (default_of t) b v (weight t) (default_nodes t) e
