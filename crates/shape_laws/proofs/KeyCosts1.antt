-- The same of a key part that is read in XCDR1.
use Rattle.std.proofs.Common.{◌≡◌, ℕ, ◌+◌, ◌-◌, ◌*◌, ◌≤◌, Bool, true, false, cond, not, ◌||◌, ◌&&◌, List, length, Option, refl, sym, ap, ◌∙◌, arith, nat_lt}
use Rattle.std.proofs.lemmas.Bool.{and_parts, ltb-true, not-true}
use Rattle.xt_shapes.specs.declared.leaves.Ext.{Ext}
use Rattle.xt_shapes.specs.declared.leaves.Ext.TheVariants.{Final, Appendable, Mutable}
use Rattle.xt_shapes.specs.declared.leaves.Order.{Order}
use Rattle.xt_shapes.specs.Defaults.{default_of}
use Rattle.xt_shapes.specs.Keyable.{any_key, counted, is_leaf, keyable, counted_keyable}
use Rattle.xt_shapes.specs.Select.{has_member, is_literal}
use Rattle.xt_shapes.specs.Shape.{Head, Shape, prim, str, enumeration, bitmask, sequence, array, map_of, structure, union, Members, no_members, member, product}
use Rattle.xt_shapes.specs.Vals.{int}
use Rattle.xt_shapes.specs.Weight.{weight, weights}
use Rattle.xcdr_model.specs.Premises.{sound, sound_members, some_member, distinct_members, light, light_members}
use Rattle.xcdr_model.specs.Projection.{got, failed, Part, gather_text, built_list, whole_items, whole_structure}
use Rattle.xcdr_model.specs.Reading.{Spot, Reading, each_at}
use Rattle.xcdr_model.specs.Xcdr1Reading.{is_open, at_end_of, params_read, read1, read_members1, read_named1}
use Rattle.xcdr_model.specs.Xcdr2Reading.{done, scalar_at, text_at, counted_at}
use Rattle.shape_laws.proofs.Costs.{Costs, reading, bind_ok, done_costs, scalar_costs, text_costs, each_costs, counted_costs}
use Rattle.shape_laws.proofs.KeyAt.{needs}
use Rattle.shape_laws.proofs.KeyCosts.{LeafPays, Roomy, KeyedIn, leaf_roomy, item_room, total_room, item_costs, ItemsIn, paid, counted_pays}
use Rattle.shape_laws.proofs.KeyRoom.{built_room, leaf_weight, text_room, number_room, sequence_room, array_room, beyond, beyond_at, keyed_room, structure_room}
use Rattle.shape_laws.proofs.Law1.{closed_same}
use Rattle.shape_laws.proofs.NodesLaw1.{EachPaid1, members1_in, named1_in, read1_costs, passed_costs}
use Rattle.shape_laws.proofs.NodesParams.{params_read_costs}
use Rattle.shape_laws.proofs.NodesSteps.{Within, weaker, ListIn, count, some_count, InOrder}
use Rattle.shape_laws.proofs.PartCosts.{Afforded, Inside, of_member, total_parts, first_inside, rest_inside}
use Rattle.shape_laws.proofs.Rules.{left}

-- values that have the rest of their region
abbrev pub TailRoom : Shape → Part → ℕ → Type 0
TailRoom t x u = 8 * built_room t x.0 ≤ 128 * weight t + 128 * u

abbrev pub KeyedTail : Bool → Members → Part → ℕ → Type 0
KeyedTail keyed ms x u = 8 * keyed_room keyed ms x.0 ≤ 128 * (1 + weights ms) + 128 * u

abbrev pub BothKey : Order → Shape → Type 0
BothKey o t = Costs (λ s. read1 false o t s) (Roomy t) × Costs (λ s. read1 true o t s) (TailRoom t)

closed_key : (o : Order) (t : Shape) → is_open t ≡ false → Costs (λ s. read1 false o t s) (Roomy t) → BothKey o t
closed_key o t k c = (c, (λ s s2 x e. let m = c s s2 x (sym (closed_same t k o s) ∙ e) in (m.0, m.1, omega (arith, m.2.1))))

-- ---- leaves

leaf_costs1 : (t : Shape) → is_leaf t ≡ true → (o : Order) → Costs (read1 false o t) (LeafPays t)
unfolding read1
leaf_costs1 (prim p) l o q1 q2 qx qe = done_costs (λ i. (got (int i), false)) (scalar_at 8 o (prim p)) (λ i u. 1 ≤ u) (LeafPays (prim p)) (scalar_costs 8 o (prim p)) (λ i u h. (h, omega (arith, h))) q1 q2 qx qe
leaf_costs1 (enumeration e bits ls) l o q1 q2 qx qe =
    done_costs (λ i. (cond (is_literal ls i) (got (int i)) failed, false)) (scalar_at 8 o (enumeration e bits ls)) (λ i u. 1 ≤ u) (LeafPays (enumeration e bits ls)) (scalar_costs 8 o (enumeration e bits ls))
    (λ i u h. (h, omega (arith, h, number_room (enumeration e bits ls) (is_literal ls i) i (λ v. omega arith)))) q1 q2 qx qe
leaf_costs1 (bitmask bits fs) l o q1 q2 qx qe = done_costs (λ i. (got (int i), false)) (scalar_at 8 o (bitmask bits fs)) (λ i u. 1 ≤ u) (LeafPays (bitmask bits fs)) (scalar_costs 8 o (bitmask bits fs)) (λ i u h. (h, omega (arith, h))) q1 q2 qx qe
leaf_costs1 (str bound) l o q1 q2 qx qe = done_costs (λ t. (gather_text bound t, false)) (text_at o) (λ t u. length t + 5 ≤ u) (LeafPays (str bound)) (text_costs o) (λ t u h. (omega (arith, h), omega (arith, h, text_room bound t))) q1 q2 qx qe
leaf_costs1 (sequence bound tc t) l o q1 q2 qx qe = absurd cc
leaf_costs1 (array dims tc t) l o q1 q2 qx qe = absurd cc
leaf_costs1 (map_of bound kc k vc t) l o q1 q2 qx qe = absurd cc
leaf_costs1 (structure e ms) l o q1 q2 qx qe = absurd cc
leaf_costs1 (union e key d cs) l o q1 q2 qx qe = absurd cc

leaf_key : (o : Order) (t : Shape) → is_leaf t ≡ true → is_open t ≡ false → BothKey o t
leaf_key o t l k = closed_key o t k (leaf_roomy t l (λ z. read1 false o t z) (leaf_costs1 t l o))

-- ---- structures

abbrev BothKeyed : Bool → Order → Ext → Members → Type 0
BothKeyed keyed o e ms = Costs (λ s. read1 false o (structure e ms) s) (KeyedIn keyed ms) × Costs (λ s. read1 true o (structure e ms) s) (KeyedTail keyed ms)

closed_structure : (keyed : Bool) (o : Order) (e : Ext) (ms : Members) → is_open (structure e ms) ≡ false → Costs (λ s. read1 false o (structure e ms) s) (KeyedIn keyed ms) → BothKeyed keyed o e ms
closed_structure keyed o e ms k c = (c, (λ s s2 x q. let m = c s s2 x (sym (closed_same (structure e ms) k o s) ∙ q) in (m.0, m.1, omega (arith, m.2.1))))

structure_costs1 : (keyed : Bool) (e : Ext) (ms : Members) → some_member ms ≡ true → distinct_members ms ≡ true → counted_keyable keyed ms ≡ true → (o : Order) → EachPaid1 (beyond_at keyed ms) o ms → BothKeyed keyed o e ms
unfolding read1
structure_costs1 keyed Final ms s d k o c = closed_structure keyed o Final ms refl (done_costs (λ ps. whole_structure ms ps false) (λ s1. read_members1 o false ms s1) (InOrder false (beyond_at keyed ms) (count ms)) (KeyedIn keyed ms) (members1_in (beyond_at keyed ms) o false ms c)
    (λ ps u h. let m = h.1 refl in (omega (arith, m, some_count ms s), omega (arith, m, some_count ms s, structure_room keyed ms ps d k))))
structure_costs1 keyed Appendable ms s d k o c =
    let g = λ (ps : List (ℕ × Part)). whole_structure ms ps false in
    let R = λ (x : Part) (u : ℕ). 8 * keyed_room keyed ms x.0 ≤ 128 * weights ms + 128 * u in
    let inner = done_costs g (λ s1. read_members1 o false ms s1) (InOrder false (beyond_at keyed ms) (count ms)) (KeyedIn keyed ms) (members1_in (beyond_at keyed ms) o false ms c)
    (λ ps u h. let m = h.1 refl in (omega (arith, m, some_count ms s), omega (arith, m, some_count ms s, structure_room keyed ms ps d k))) in
    let tail = done_costs g (λ s1. read_members1 o true ms s1) (InOrder true (beyond_at keyed ms) (count ms)) R (members1_in (beyond_at keyed ms) o true ms c) (λ ps u h. omega (arith, h.0, structure_room keyed ms ps d k)) in (
      (λ q1 q2 x e.
          let b = bind_ok (done g (read_members1 o false ms q1)) (λ z. reading z.0 z.1) (x, q2) e in
          inner q1 q2 x (b.1 ∙ b.2)),
      (λ q1 q2 x e.
          let b = bind_ok (done g (read_members1 o true ms q1)) (λ z. at_end_of z.0 z.1) (x, q2) e in
          let p = passed_costs b.0.0 x b.0.1 q2 b.2 in
          let j = tail q1 b.0.1 b.0.0 b.1 in
          (length q1.rest, omega (arith, p.1), omega (arith, j.1, j.2, ap (λ (z : Part). keyed_room keyed ms z.0) p.0))),
    )
structure_costs1 keyed Mutable ms s d k o c =
    let known = λ (id : ℕ). read_named1 o ms id in
    closed_structure keyed o Mutable ms refl (done_costs (λ r. whole_structure ms r.0 r.1) (params_read o known) (λ r u. (1 ≤ u) × (total_parts (beyond_at keyed ms) r.0 + 128 ≤ 128 * u)) (KeyedIn keyed ms)
    (params_read_costs o (beyond_at keyed ms) known (named1_in (beyond_at keyed ms) o ms c)) (λ r u h. (h.0, omega (arith, h.1, structure_room keyed ms r.0 d k))))

-- a member that isn't counted measures nothing
counted_affords : (c : Bool) (t : Shape) (f : Spot → Reading Part) → (c ≡ true → Costs f (TailRoom t)) → Costs f (λ x u. Unit {0}) → Costs f (λ x u. cond c (8 * (built_room t x.0 - 16 * weight t)) 0 ≤ 128 * u)
counted_affords true t f k c = weaker f (TailRoom t) (λ x u. 8 * (built_room t x.0 - 16 * weight t) ≤ 128 * u) (k refl) (λ x u h. omega (arith, h))
counted_affords false t f k c = weaker f (λ x u. Unit {0}) (λ x u. 0 ≤ 128 * u) c (λ x u h. omega arith)

mutual
  unfolding read1

  pub key_costs1 : (t : Shape) → sound t ≡ true → light t ≡ true → keyable t ≡ true → (o : Order) → BothKey o t
  key_costs1 (prim p) s l k o = leaf_key o (prim p) refl refl
  key_costs1 (str bound) s l k o = leaf_key o (str bound) refl refl
  key_costs1 (enumeration e bits ls) s l k o = leaf_key o (enumeration e bits ls) refl refl
  key_costs1 (bitmask bits fs) s l k o = leaf_key o (bitmask bits fs) refl refl
  key_costs1 (sequence bound tc t) s l k o =
      let f = λ (z : Spot). read1 false o t z in
      let e = item_costs t f (leaf_costs1 t k o) in
      closed_key o (sequence bound tc t) refl (done_costs (whole_items bound tc (default_of t)) (counted_at o f) (ListIn (item_room t)) (Roomy (sequence bound tc t)) (counted_costs o f (item_room t) e)
      (λ xs u h. (h.0, omega (arith, h.1, sequence_room bound bound tc tc t (built_list xs) k, total_room t xs))))
  key_costs1 (array dims tc t) s l k o =
      let n = product dims in
      let n_pos = ltb-true 0 n (left (nat_lt 0 n) (sound t) s) in
      let one : n * weight t ≡ n * 1 = ap (λ (w : ℕ). n * w) (leaf_weight t k) in
      let f = λ (z : Spot). read1 false o t z in
      let e = item_costs t f (leaf_costs1 t k o) in
      closed_key o (array dims tc t) refl (done_costs (whole_items 0 tc (default_of t)) (each_at n f) (ItemsIn n t) (Roomy (array dims tc t)) (each_costs f (item_room t) 128 e n)
      (λ xs u h. (omega (arith, h.0, n_pos), omega (arith, h.1, n_pos, one, array_room dims 0 tc tc t (built_list xs) k, total_room t xs))))
  key_costs1 (map_of bound kc j vc t) s l k o = absurd cc
  key_costs1 (structure e ms) s l k o =
      let a = and_parts (some_member ms) (distinct_members ms && sound_members ms) s in
      let d = and_parts (distinct_members ms) (sound_members ms) a.1 in
      let b = structure_costs1 (any_key ms) e ms a.0 d.0 k o (each_key1 (any_key ms) ms ms d.0 d.1 l k o (λ id h t e. e)) in
      (b.0, b.1)
  key_costs1 (union e key d cs) s l k o = absurd cc

  pub each_key1 : (keyed : Bool) (ms whole : Members) → distinct_members ms ≡ true → sound_members ms ≡ true → light_members ms ≡ true → counted_keyable keyed ms ≡ true → (o : Order) → Inside ms whole → EachPaid1 (beyond_at keyed whole) o ms
  each_key1 keyed no_members whole d s l k o a = tt
  each_key1 keyed (member h t ms) whole d s l k o a =
      let n = and_parts (not (has_member ms h.id)) (distinct_members ms) d in
      let p = and_parts (sound t) (sound_members ms) s in
      let w = and_parts (light t) (light_members ms) l in
      let q = and_parts (not (counted keyed h) || (not h.optional && keyable t)) (counted_keyable keyed ms) k in
      let at = first_inside h t ms whole a in
      let f = λ (z : Spot). read1 false o t z in
      let g = λ (z : Spot). read1 true o t z in
      let r = read1_costs t p.0 w.0 o in (
        paid (beyond keyed) whole h t f at (counted_pays (counted keyed h) t f (λ c. (key_costs1 t p.0 w.0 (needs (counted keyed h) h.optional (keyable t) q.0 c).1 o).0) (weaker f (λ x u. Within (weight t) x u) (λ x u. 1 ≤ u) r.0 (λ x u z. z.0))),
        weaker g (λ x u. beyond keyed h t x.0 ≤ 128 * u) (Afforded (beyond_at keyed whole) h.id)
            (counted_affords (counted keyed h) t g (λ c. (key_costs1 t p.0 w.0 (needs (counted keyed h) h.optional (keyable t) q.0 c).1 o).1) (λ s1 s2 x e. let z = r.1 s1 s2 x e in (z.0, z.1, tt)))
            (λ x u z. omega (arith, z, ap (λ (y : Option (Head × Shape)). of_member (beyond keyed) y x.0) at)),
        each_key1 keyed ms whole n.1 p.1 w.1 q.1 o (rest_inside h t ms whole (not-true (has_member ms h.id) n.0) a),
      )

pub top_key_costs1 : (e : Ext) (ms : Members) → sound (structure e ms) ≡ true → light (structure e ms) ≡ true → counted_keyable true ms ≡ true → (o : Order) → Costs (λ s. read1 true o (structure e ms) s) (KeyedTail true ms)
top_key_costs1 e ms s l k o =
    let a = and_parts (some_member ms) (distinct_members ms && sound_members ms) s in
    let d = and_parts (distinct_members ms) (sound_members ms) a.1 in
    (structure_costs1 true e ms a.0 d.0 k o (each_key1 true ms ms d.0 d.1 l k o (λ id h t e. e))).1
