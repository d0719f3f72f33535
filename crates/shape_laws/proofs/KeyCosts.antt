-- A key part that is read in XCDR2 takes at most 16 octets for each node of its type's weight and for each octet that was read.
use Rattle.std.proofs.Common.{◌≡◌, ℕ, ◌+◌, ◌-◌, ◌*◌, ◌≤◌, Bool, true, false, cond, not, ◌||◌, ◌&&◌, List, [], ◌∷◌, length, max, Option, Some, refl, ap, arith, nat_lt}
use Rattle.std.proofs.lemmas.Bool.{and_parts, ltb-true, not-true}
use Rattle.xt_shapes.specs.declared.leaves.Ext.{Ext}
use Rattle.xt_shapes.specs.declared.leaves.Ext.TheVariants.{Final, Appendable, Mutable}
use Rattle.xt_shapes.specs.declared.leaves.Order.{Order}
use Rattle.xt_shapes.specs.Defaults.{default_of}
use Rattle.xt_shapes.specs.Keyable.{any_key, counted, is_leaf, keyable, counted_keyable}
use Rattle.xt_shapes.specs.Select.{has_member, is_literal}
use Rattle.xt_shapes.specs.Shape.{Head, Shape, prim, str, enumeration, bitmask, sequence, array, map_of, structure, union, Members, no_members, member, product}
use Rattle.xt_shapes.specs.Vals.{int}
use Rattle.xt_shapes.specs.Weight.{weight, weights}
use Rattle.xcdr_model.specs.Premises.{sound, sound_members, some_member, distinct_members, light, light_members}
use Rattle.xcdr_model.specs.Projection.{got, failed, Part, gather_text, built_list, whole_items, whole_structure}
use Rattle.xcdr_model.specs.Reading.{Spot, Reading, ◌>>=◌, passing, dheader, front, each_at}
use Rattle.xcdr_model.specs.Xcdr2Reading.{done, scalar_at, text_at, collection_at, counted_at, is_primitive, members_at, read, read_members, read_named}
use Rattle.shape_laws.proofs.Costs.{Costs, reading, bind_ok, ok_parts, done_costs, scalar_costs, text_costs, total, each_costs, counted_costs, collection_costs, dheader_costs, front_length}
use Rattle.shape_laws.proofs.KeyAt.{needs}
use Rattle.shape_laws.proofs.KeyRoom.{room, built_room, leaf_weight, text_room, number_room, sequence_room, array_room, beyond, beyond_at, keyed_room, structure_room}
use Rattle.shape_laws.proofs.NodesBuilt.{weigh}
use Rattle.shape_laws.proofs.NodesLaw.{EachPaid, members_in, named_in, read_costs}
use Rattle.shape_laws.proofs.NodesMembers.{members_costs}
use Rattle.shape_laws.proofs.NodesSteps.{Within, weaker, ListIn, count, some_count, InOrder, region_costs, any_passing}
use Rattle.shape_laws.proofs.PartCosts.{ByMember, Paid, Inside, member_at, of_member, measure_at, first_inside, rest_inside}
use Rattle.shape_laws.proofs.Rules.{left}

-- what a leaf pays, a part, and a structure of which the counted members are `keyed`
abbrev pub LeafPays : Shape → Part → ℕ → Type 0
LeafPays t x u = (1 ≤ u) × (built_room t x.0 ≤ 16 * u)

abbrev pub Roomy : Shape → Part → ℕ → Type 0
Roomy t x u = (1 ≤ u) × (8 * built_room t x.0 + 128 ≤ 128 * weight t + 128 * u)

abbrev pub KeyedIn : Bool → Members → Part → ℕ → Type 0
KeyedIn keyed ms x u = (1 ≤ u) × (8 * keyed_room keyed ms x.0 + 128 ≤ 128 * (1 + weights ms) + 128 * u)

-- ---- leaves

pub leaf_costs : (t : Shape) → is_leaf t ≡ true → (o : Order) → Costs (read o t) (LeafPays t)
unfolding read
leaf_costs (prim p) l o q1 q2 qx qe = done_costs (λ i. (got (int i), false)) (scalar_at 4 o (prim p)) (λ i u. 1 ≤ u) (LeafPays (prim p)) (scalar_costs 4 o (prim p)) (λ i u h. (h, omega (arith, h))) q1 q2 qx qe
leaf_costs (enumeration e bits ls) l o q1 q2 qx qe =
    done_costs (λ i. (cond (is_literal ls i) (got (int i)) failed, false)) (scalar_at 4 o (enumeration e bits ls)) (λ i u. 1 ≤ u) (LeafPays (enumeration e bits ls)) (scalar_costs 4 o (enumeration e bits ls))
    (λ i u h. (h, omega (arith, h, number_room (enumeration e bits ls) (is_literal ls i) i (λ v. omega arith)))) q1 q2 qx qe
leaf_costs (bitmask bits fs) l o q1 q2 qx qe = done_costs (λ i. (got (int i), false)) (scalar_at 4 o (bitmask bits fs)) (λ i u. 1 ≤ u) (LeafPays (bitmask bits fs)) (scalar_costs 4 o (bitmask bits fs)) (λ i u h. (h, omega (arith, h))) q1 q2 qx qe
leaf_costs (str bound) l o q1 q2 qx qe = done_costs (λ t. (gather_text bound t, false)) (text_at o) (λ t u. length t + 5 ≤ u) (LeafPays (str bound)) (text_costs o) (λ t u h. (omega (arith, h), omega (arith, h, text_room bound t))) q1 q2 qx qe
leaf_costs (sequence bound tc t) l o q1 q2 qx qe = absurd cc
leaf_costs (array dims tc t) l o q1 q2 qx qe = absurd cc
leaf_costs (map_of bound kc k vc t) l o q1 q2 qx qe = absurd cc
leaf_costs (structure e ms) l o q1 q2 qx qe = absurd cc
leaf_costs (union e key d cs) l o q1 q2 qx qe = absurd cc

pub leaf_roomy : (t : Shape) → is_leaf t ≡ true → (f : Spot → Reading Part) → Costs f (LeafPays t) → Costs f (Roomy t)
leaf_roomy t l f c = weaker f (LeafPays t) (Roomy t) c (λ x u h. (h.0, omega (arith, h.1, leaf_weight t l)))

-- ---- collections of leaves

abbrev pub item_room : Shape → Part → ℕ
item_room t x = 8 * max (built_room t x.0) 11

pub total_room : (t : Shape) (xs : List Part) → total (item_room t) xs ≡ 8 * weigh (λ w. room t w) 11 (built_list xs)
total_room t [] = refl
total_room t (x ∷ xs) = omega (arith, total_room t xs)

abbrev pub ItemPays : Shape → Part → ℕ → Type 0
ItemPays t x u = (1 ≤ u) × (item_room t x + 128 ≤ 128 + 128 * u)

pub item_costs : (t : Shape) (f : Spot → Reading Part) → Costs f (LeafPays t) → Costs f (ItemPays t)
item_costs t f c = weaker f (LeafPays t) (ItemPays t) c (λ x u h. (h.0, omega (arith, h.0, h.1)))

abbrev pub ItemsIn : ℕ → Shape → List Part → ℕ → Type 0
ItemsIn n t xs u = (n ≤ u) × (total (item_room t) xs + 128 * n ≤ n * 128 + 128 * u)

-- ---- structures

pub paid : (m : ByMember) (whole : Members) (h : Head) (t : Shape) (f : Spot → Reading Part) → member_at whole h.id ≡ Some (h, t) → Costs f (λ x u. (1 ≤ u) × (m h t x.0 + 128 ≤ 128 * u)) → Costs f (Paid (measure_at m whole) h.id)
paid m whole h t f a c = weaker f (λ x u. (1 ≤ u) × (m h t x.0 + 128 ≤ 128 * u)) (Paid (measure_at m whole) h.id) c (λ x u k. (k.0, omega (arith, k.1, ap (λ (z : Option (Head × Shape)). of_member m z x.0) a)))

-- a member that isn't counted only takes octets
pub counted_pays : (c : Bool) (t : Shape) (f : Spot → Reading Part) → (c ≡ true → Costs f (Roomy t)) → Costs f (λ x u. 1 ≤ u) → Costs f (λ x u. (1 ≤ u) × (cond c (8 * (built_room t x.0 - 16 * weight t)) 0 + 128 ≤ 128 * u))
counted_pays true t f k c = weaker f (Roomy t) (λ x u. (1 ≤ u) × (8 * (built_room t x.0 - 16 * weight t) + 128 ≤ 128 * u)) (k refl) (λ x u h. (h.0, omega (arith, h.0, h.1)))
counted_pays false t f k c = weaker f (λ x u. 1 ≤ u) (λ x u. (1 ≤ u) × (0 + 128 ≤ 128 * u)) c (λ x u h. (h, omega (arith, h)))

abbrev Parts : Type 0
Parts = List (ℕ × Part) × Bool

structure_costs : (keyed : Bool) (e : Ext) (ms : Members) → some_member ms ≡ true → distinct_members ms ≡ true → counted_keyable keyed ms ≡ true → (o : Order) → EachPaid (beyond_at keyed ms) o ms → Costs (read o (structure e ms)) (KeyedIn keyed ms)
unfolding read
structure_costs keyed Final ms s d k o c q1 q2 qx qe =
    done_costs (λ ps. whole_structure ms ps false) (λ s1. read_members o false ms s1) (InOrder false (beyond_at keyed ms) (count ms)) (KeyedIn keyed ms) (members_in (beyond_at keyed ms) o false ms c)
    (λ ps u h. let m = h.1 refl in (omega (arith, m, some_count ms s), omega (arith, m, some_count ms s, structure_room keyed ms ps d k))) q1 q2 qx qe
structure_costs keyed Appendable ms s d k o c q1 q2 qx qe =
    let f = λ (s1 : Spot). done (λ ps. whole_structure ms ps false) (read_members o true ms s1) in
    let R = λ (x : Part) (u : ℕ). 8 * keyed_room keyed ms x.0 ≤ 128 * weights ms + 128 * u in
    let g = done_costs (λ ps. whole_structure ms ps false) (λ s1. read_members o true ms s1) (InOrder true (beyond_at keyed ms) (count ms)) R (members_in (beyond_at keyed ms) o true ms c) (λ ps u h. omega (arith, h.0, structure_room keyed ms ps d k)) in
    weaker (λ s1. dheader o s1 >>= λ n. passing n.0 f n.1) (λ x u. (k : ℕ) × R x k × (k + 4 ≤ u)) (KeyedIn keyed ms) (region_costs o f R g) (λ x u h. (omega (arith, h.2), omega (arith, h.1, h.2))) q1 q2 qx qe
structure_costs keyed Mutable ms s d k o c s1 s2 x e =
    let known = λ (id : ℕ). read_named o ms id in
    let g = λ (r : Parts). whole_structure ms r.0 r.1 in
    let f = λ (z : Spot). done g (members_at o known z) in
    let b = bind_ok (dheader o s1) (λ n. passing n.0 f n.1) (x, s2) e in
    let h = dheader_costs o s1 b.0.1 b.0.0 b.1 in
    let r = any_passing b.0.0 f b.0.1 s2 x h.3 b.2 in
    let y = bind_ok (members_at o known (front b.0.0 b.0.1)) (λ z. reading (g z.0) z.1) (x, r.0) r.1 in
    let p = ok_parts (g y.0.0) x y.0.1 r.0 y.2 in
    let m = members_costs o (beyond_at keyed ms) known (named_in (beyond_at keyed ms) o ms c) (front b.0.0 b.0.1) y.0.1 y.0.0 y.1 in
    (h.0 + b.0.0, omega (arith, h.1, r.2), (omega (arith, h.2), omega (arith, h.2, m, front_length b.0.0 b.0.1 h.3, structure_room keyed ms y.0.0.0 d k, ap (λ (z : Part). keyed_room keyed ms z.0) p.0)))

mutual
  unfolding read

  pub key_costs : (t : Shape) → sound t ≡ true → light t ≡ true → keyable t ≡ true → (o : Order) → Costs (read o t) (Roomy t)
  key_costs (prim p) s l k o q1 q2 qx qe = leaf_roomy (prim p) refl (read o (prim p)) (leaf_costs (prim p) refl o) q1 q2 qx qe
  key_costs (str bound) s l k o q1 q2 qx qe = leaf_roomy (str bound) refl (read o (str bound)) (leaf_costs (str bound) refl o) q1 q2 qx qe
  key_costs (enumeration e bits ls) s l k o q1 q2 qx qe = leaf_roomy (enumeration e bits ls) refl (read o (enumeration e bits ls)) (leaf_costs (enumeration e bits ls) refl o) q1 q2 qx qe
  key_costs (bitmask bits fs) s l k o q1 q2 qx qe = leaf_roomy (bitmask bits fs) refl (read o (bitmask bits fs)) (leaf_costs (bitmask bits fs) refl o) q1 q2 qx qe
  key_costs (sequence bound tc t) s l k o q1 q2 qx qe =
      let f = λ (s1 : Spot). read o t s1 in
      let e = item_costs t f (leaf_costs t k o) in
      let c = collection_costs (is_primitive t) o (counted_at o f) (ListIn (item_room t)) (λ x m n h le. (omega (arith, h.0, le), omega (arith, h.1, le))) (counted_costs o f (item_room t) e) in
      done_costs (whole_items bound tc (default_of t)) (λ s1. collection_at (is_primitive t) o (counted_at o f) s1) (ListIn (item_room t)) (Roomy (sequence bound tc t)) c
      (λ xs u h. (h.0, omega (arith, h.1, sequence_room bound bound tc tc t (built_list xs) k, total_room t xs))) q1 q2 qx qe
  key_costs (array dims tc t) s l k o q1 q2 qx qe =
      let n = product dims in
      let n_pos = ltb-true 0 n (left (nat_lt 0 n) (sound t) s) in
      let one : n * weight t ≡ n * 1 = ap (λ (w : ℕ). n * w) (leaf_weight t k) in
      let f = λ (s1 : Spot). read o t s1 in
      let e = item_costs t f (leaf_costs t k o) in
      let c = collection_costs (is_primitive t) o (each_at n f) (ItemsIn n t) (λ x m j h le. (omega (arith, h.0, le), omega (arith, h.1, le))) (each_costs f (item_room t) 128 e n) in
      done_costs (whole_items 0 tc (default_of t)) (λ s1. collection_at (is_primitive t) o (each_at n f) s1) (ItemsIn n t) (Roomy (array dims tc t)) c
      (λ xs u h. (omega (arith, h.0, n_pos), omega (arith, h.1, n_pos, one, array_room dims 0 tc tc t (built_list xs) k, total_room t xs))) q1 q2 qx qe
  key_costs (map_of bound kc j vc t) s l k o q1 q2 qx qe = absurd cc
  key_costs (structure e ms) s l k o q1 q2 qx qe =
      let a = and_parts (some_member ms) (distinct_members ms && sound_members ms) s in
      let d = and_parts (distinct_members ms) (sound_members ms) a.1 in
      structure_costs (any_key ms) e ms a.0 d.0 k o (each_key (any_key ms) ms ms d.0 d.1 l k o (λ id h t e. e)) q1 q2 qx qe
  key_costs (union e key d cs) s l k o q1 q2 qx qe = absurd cc

  pub each_key : (keyed : Bool) (ms whole : Members) → distinct_members ms ≡ true → sound_members ms ≡ true → light_members ms ≡ true → counted_keyable keyed ms ≡ true → (o : Order) → Inside ms whole → EachPaid (beyond_at keyed whole) o ms
  each_key keyed no_members whole d s l k o a = tt
  each_key keyed (member h t ms) whole d s l k o a =
      let n = and_parts (not (has_member ms h.id)) (distinct_members ms) d in
      let p = and_parts (sound t) (sound_members ms) s in
      let w = and_parts (light t) (light_members ms) l in
      let q = and_parts (not (counted keyed h) || (not h.optional && keyable t)) (counted_keyable keyed ms) k in (
        paid (beyond keyed) whole h t (λ z. read o t z) (first_inside h t ms whole a) (counted_pays (counted keyed h) t (λ z. read o t z) (λ c. key_costs t p.0 w.0 (needs (counted keyed h) h.optional (keyable t) q.0 c).1 o)
            (weaker (λ z. read o t z) (λ x u. Within (weight t) x u) (λ x u. 1 ≤ u) (read_costs t p.0 w.0 o) (λ x u r. r.0))),
        each_key keyed ms whole n.1 p.1 w.1 q.1 o (rest_inside h t ms whole (not-true (has_member ms h.id) n.0) a),
      )

-- a key that is read as part of a top structure
pub top_key_costs : (e : Ext) (ms : Members) → sound (structure e ms) ≡ true → light (structure e ms) ≡ true → counted_keyable true ms ≡ true → (o : Order) → Costs (read o (structure e ms)) (KeyedIn true ms)
top_key_costs e ms s l k o =
    let a = and_parts (some_member ms) (distinct_members ms && sound_members ms) s in
    let d = and_parts (distinct_members ms) (sound_members ms) a.1 in
    structure_costs true e ms a.0 d.0 k o (each_key true ms ms d.0 d.1 l k o (λ id h t e. e))
