-- Keys come through: the key of what a reader builds is the writer's.
use Rattle.std.proofs.Common.{◌≡◌, ℕ, Bool, true, false, cond, not, ◌||◌, ◌&&◌, List, length, map, Option, Some, None, refl, sym, ap, ap₂, ◌∙◌, inl, inr, ◌==◌}
use Rattle.std.proofs.lemmas.Bool.{cases_Bool, and_parts, and_from, eqb-true, eq-eqb, or_cases, or_left, or_right, not-true, both_ways, false_from_ne_true}
use Rattle.std.specs.Option.{option_map}
use Rattle.xt_shapes.specs.Defaults.{default_of}
use Rattle.xt_shapes.specs.Keyable.{any_key, counted, keyable}
use Rattle.xt_shapes.specs.Kinds.{same_ext}
use Rattle.xt_shapes.specs.Lists.{is_some_and, all}
use Rattle.xt_shapes.specs.NodeRules.{is_discard}
use Rattle.xt_shapes.specs.Select.{has_member, shape_at}
use Rattle.xt_shapes.specs.Shape.{Head, Shape, prim, str, enumeration, bitmask, sequence, array, map_of, structure, union, Members, no_members, member, product}
use Rattle.xt_shapes.specs.Typing.{is_past, has_type, have_types}
use Rattle.xt_shapes.specs.Vals.{Val, listed, struct_of, Slots, each_val, items_in}
use Rattle.xcdr_model.specs.Equivalence.{same_dims}
use Rattle.xcdr_model.specs.Keys.{all_present, is_structure, key_fit, keys_fit, key_part, key_parts, counts_id, counted_within, same_counted}
use Rattle.xcdr_model.specs.Premises.{sound, sound_members, some_member, distinct_members}
use Rattle.xcdr_model.specs.Projection.{Built, whole_items, gather_slots, built_at, within, part_at, projected, projected_members}
use Rattle.xcdr_model.specs.Rules.{holds_bound}
use Rattle.shape_laws.proofs.AnyOrder.{expected, just_built, built_projected}
use Rattle.shape_laws.proofs.KeyAt.{key_at, counted_next, not_counted, lookup_parts, rising_parts, There, is_there}
use Rattle.shape_laws.proofs.KeyLaw.{bound_past, leaf, items, Kept, unchanged, Each, walk, kept_slot}
use Rattle.shape_laws.proofs.KeySort.{same_rising}
use Rattle.shape_laws.proofs.Rules.{left, right, sound_at}
use Rattle.shape_laws.proofs.Self.{list_is, struct_is, vals_back, own}

-- ---- equal sets of ids

within_to : (k k2 : Bool) (ms ns : Members) (id : ℕ) → counted_within k ms k2 ns ≡ true → counts_id k ms id ≡ true → counts_id k2 ns id ≡ true
within_to k k2 no_members ns id w h = absurd cc
within_to k k2 (member a t ms) ns id w h =
    let p = and_parts (not (counted k a) || counts_id k2 ns a.id) (counted_within k ms k2 ns) w in
    elim (or_cases (counted k a && (a.id == id)) (counts_id k ms id) h) [
      | inl y ↦ ap (counts_id k2 ns) (sym (eqb-true a.id id (right (counted k a) (a.id == id) y))) ∙ sym (ap (λ (c : Bool). not c || counts_id k2 ns a.id) (left (counted k a) (a.id == id) y)) ∙ p.0
      | inr n ↦ within_to k k2 ms ns id p.1 n
    ]

pub same_parts : (k k2 : Bool) (ms ns : Members) (ss ss2 : Slots) → distinct_members ms ≡ true → distinct_members ns ≡ true → same_counted k ms k2 ns ≡ true
    → ((id : ℕ) → counts_id k ms id ≡ true → key_at k ms ss id ≡ key_at k2 ns ss2 id) → key_parts k ms ss ≡ key_parts k2 ns ss2
same_parts k k2 ms ns ss ss2 d d2 i f =
    let p = and_parts (counted_within k ms k2 ns) (counted_within k2 ns k ms) i in
    same_rising (key_parts k ms ss) (key_parts k2 ns ss2) (rising_parts k ms ss d) (rising_parts k2 ns ss2 d2) (λ id.
    lookup_parts k ms ss d id ∙ elim (cases_Bool (counts_id k ms id)) [
      | inl y ↦ f id y
      | inr n ↦ not_counted k ms ss id n ∙ sym (not_counted k2 ns ss2 id (false_from_ne_true (counts_id k2 ns id) (λ z. both_ways (counts_id k ms id) n (within_to k2 k ns ms id p.1 z))))
    ] ∙ sym (lookup_parts k2 ns ss2 d2 id))

pub over_there : (k k2 : Bool) (ms ns : Members) (id : ℕ) → same_counted k ms k2 ns ≡ true → counts_id k ms id ≡ true → counts_id k2 ns id ≡ true
over_there k k2 ms ns id i h = within_to k k2 ms ns id (left (counted_within k ms k2 ns) (counted_within k2 ns k ms) i) h

pub over_here : (k k2 : Bool) (ms ns : Members) (id : ℕ) → same_counted k ms k2 ns ≡ true → counts_id k2 ns id ≡ true → counts_id k ms id ≡ true
over_here k k2 ms ns id i h = within_to k2 k ns ms id (right (counted_within k ms k2 ns) (counted_within k2 ns k ms) i) h

-- ---- the law, by the reader's type

shape_member : (ms : Members) (id : ℕ) (t : Shape) → shape_at ms id ≡ Some t → has_member ms id ≡ true
shape_member no_members id t e = absurd cc
shape_member (member h u ms) id t e = elim (cases_Bool (h.id == id)) [
  | inl y ↦ or_left (h.id == id) (has_member ms id) y
  | inr n ↦ or_right (h.id == id) (has_member ms id) (shape_member ms id t (ap (λ (c : Bool). cond c (Some u) (shape_at ms id)) (sym n) ∙ e))
]

pub later_shape : (h : Head) (u : Shape) (ms : Members) (id : ℕ) (t : Shape) → has_member ms h.id ≡ false → shape_at ms id ≡ Some t → shape_at (member h u ms) id ≡ Some t
later_shape h u ms id t d e = elim (cases_Bool (h.id == id)) [
  | inl y ↦ absurd (both_ways (has_member ms h.id) d (ap (has_member ms) (eqb-true h.id id y) ∙ shape_member ms id t e))
  | inr n ↦ ap (λ (c : Bool). cond c (Some u) (shape_at ms id)) n ∙ e
]

fit_at : (o : Option Shape) (t u : Shape) → o ≡ Some u → is_some_and o (λ x. key_fit t x) ≡ true → key_fit t u ≡ true
fit_at o t u e h = sym (ap (λ (z : Option Shape). is_some_and z (λ x. key_fit t x)) e) ∙ h

-- what a counted member's test says
pub tested : (c x y : Bool) → (not c || (x && y)) ≡ true → c ≡ true → (x ≡ true) × (y ≡ true)
tested true x y e f = and_parts x y e
tested false x y e f = absurd cc

by_gather : (e : Bool) (ms : Members) (f : ℕ → Option Built) (u : Shape) (v : Val) (t : Shape) → is_structure t ≡ true → (projected t u v).0 ≡ within false (option_map struct_of (gather_slots ms f)) → ((ss : Slots) → gather_slots ms f ≡ Some ss → key_part t (struct_of ss) ≡ key_part u v)
    → (o : Option Slots) → gather_slots ms f ≡ o → Kept t u v
by_gather e ms f u v t s b g None d = inr (b ∙ ap (λ (x : Option Slots). within false (option_map struct_of x)) d, s)
by_gather e ms f u v t s b g (Some ss) d = inl (struct_of ss, b ∙ ap (λ (x : Option Slots). within false (option_map struct_of x)) d, g ss d)

pub built_of : (ms ns : Members) (ss : Slots) (id : ℕ) (t u : Shape) (w : Val) → shape_at ms id ≡ Some t → part_at ns ss id ≡ Some (u, w) → built_at (projected_members ms ns ss) id ≡ Some (projected t u w).0
built_of ms ns ss id t u w e f = built_projected ms ns ss id ∙ ap₂ (λ (x : Option Shape) (y : Option (Shape × Val)). just_built (expected x y)) e f

mutual
  unfolding has_type projected

  pub kept : (t u : Shape) (v : Val) → key_fit t u ≡ true → keyable u ≡ true → sound t ≡ true → sound u ≡ true → has_type u v ≡ true → Kept t u v
  kept (prim p) (prim q) v k l s s2 h = unchanged (prim p) (prim q) v (leaf (prim p) (prim q) v k refl h)
  kept (prim p) _ v k l s s2 h = absurd cc
  kept (str a) (str b) v k l s s2 h = unchanged (str a) (str b) v (leaf (str a) (str b) v k refl h)
  kept (str a) _ v k l s s2 h = absurd cc
  kept (enumeration e bits ls) (enumeration e2 b2 ls2) v k l s s2 h = unchanged (enumeration e bits ls) (enumeration e2 b2 ls2) v (leaf (enumeration e bits ls) (enumeration e2 b2 ls2) v k refl h)
  kept (enumeration e bits ls) _ v k l s s2 h = absurd cc
  kept (bitmask bits fs) (bitmask b2 fs2) v k l s s2 h = unchanged (bitmask bits fs) (bitmask b2 fs2) v (leaf (bitmask bits fs) (bitmask b2 fs2) v k refl h)
  kept (bitmask bits fs) _ v k l s s2 h = absurd cc
  kept (sequence a tc t) (sequence b tb u) v k l s s2 h =
      let x = list_is v (λ xs. not (is_past b (length xs)) && all (λ w. has_type u w) xs) h in
      let xs = each_val x.0 in
      let p = and_parts (not (is_past b (length xs))) (all (λ w. has_type u w) xs) x.2 in
      let q = and_parts (holds_bound a b) (key_fit t u) k in
      unchanged (sequence a tc t) (sequence b tb u) v (
        ap (λ (z : Val). whole_items a tc (default_of t) (map (λ w. projected t u w) (items_in z))) x.1
            ∙ items a tc t u v xs q.1 l p.1 (bound_past a b (length xs) q.0 (not-true _ p.0)) ∙ ap (λ (z : Val). own z) (ap listed (vals_back x.0) ∙ sym x.1),
        refl,
      )
  kept (sequence a tc t) _ v k l s s2 h = absurd cc
  kept (array ds tc t) (array es tb u) v k l s s2 h =
      let x = list_is v (λ xs. (length xs == product es) && all (λ w. has_type u w) xs) h in
      let xs = each_val x.0 in
      let p = and_parts (length xs == product es) (all (λ w. has_type u w) xs) x.2 in
      let q = and_parts (same_dims ds es) (key_fit t u) k in
      unchanged (array ds tc t) (array es tb u) v (
        ap (λ (z : Val). whole_items 0 tc (default_of t) (map (λ w. projected t u w) (items_in z))) x.1
            ∙ items 0 tc t u v xs q.1 l p.1 refl ∙ ap (λ (z : Val). own z) (ap listed (vals_back x.0) ∙ sym x.1),
        refl,
      )
  kept (array ds tc t) _ v k l s s2 h = absurd cc
  kept (map_of b kc j vc t) u v k l s s2 h = absurd cc
  kept (structure e ms) (structure e2 ns) v k l s s2 h =
      let x = struct_is v (λ ss. have_types ns ss) h in
      let p = and_parts (same_ext e e2) (same_counted (any_key ms) ms (any_key ns) ns && keys_fit (any_key ms) ms ns) k in
      let q = and_parts (same_counted (any_key ms) ms (any_key ns) ns) (keys_fit (any_key ms) ms ns) p.1 in
      let a = and_parts (distinct_members ms) (sound_members ms) (right (some_member ms) (distinct_members ms && sound_members ms) s) in
      let b = and_parts (distinct_members ns) (sound_members ns) (right (some_member ns) (distinct_members ns && sound_members ns) s2) in
      let f = built_at (projected_members ms ns x.0) in
      let each = each_kept (any_key ms) (any_key ns) ms ns x.0 f a.0 a.1 b.1 q.1 (λ id c. is_there (any_key ns) ns x.0 id b.0 x.2 l (over_there (any_key ms) (any_key ns) ms ns id q.0 c)) (λ id t u w e g. built_of ms ns x.0 id t u w e g) in
      by_gather true ms f (structure e2 ns) v (structure e ms) refl (ap (λ (z : Val). (projected (structure e ms) (structure e2 ns) z).0) x.1)
      (λ ss g. ap (λ (z : List (ℕ × Val)). struct_of (all_present (map (λ y. y.1) z))) (same_parts (any_key ms) (any_key ns) ms ns ss x.0 a.0 b.0 q.0 (walk (any_key ms) ms ss f (key_at (any_key ns) ns x.0) g each))
      ∙ ap (λ (z : Val). key_part (structure e2 ns) z) (sym x.1)) (gather_slots ms f) refl
  kept (structure e ms) _ v k l s s2 h = absurd cc
  kept (union e key d cs) u v k l s s2 h = absurd cc

  pub each_kept : (k k2 : Bool) (ms ns : Members) (ss : Slots) (f : ℕ → Option Built) → distinct_members ms ≡ true → sound_members ms ≡ true → sound_members ns ≡ true → keys_fit k ms ns ≡ true → ((id : ℕ) → counts_id k ms id ≡ true → There k2 ns ss id)
      → ((id : ℕ) (t u : Shape) (w : Val) → shape_at ms id ≡ Some t → part_at ns ss id ≡ Some (u, w) → f id ≡ Some (projected t u w).0) → Each k ms f (key_at k2 ns ss)
  each_kept k k2 no_members ns ss f d s s2 g W F = tt
  each_kept k k2 (member h t ms) ns ss f d s s2 g W F =
      let n = and_parts (not (has_member ms h.id)) (distinct_members ms) d in
      let m = and_parts (sound t) (sound_members ms) s in
      let q = and_parts (not (counted k h) || ((not (is_structure t) || is_discard h.tc) && is_some_and (shape_at ns h.id) (λ u. key_fit t u))) (keys_fit k ms ns) g in (
        (λ c b e.
            let z = tested (counted k h) (not (is_structure t) || is_discard h.tc) (is_some_and (shape_at ns h.id) (λ u. key_fit t u)) q.0 c in
            let same = eq-eqb h.id h.id refl in
            let a = W h.id (counted_next k h t ms h.id ∙ or_left (counted k h && (h.id == h.id)) (counts_id k ms h.id) (and_from (counted k h) (h.id == h.id) c same)) in
            let r = kept t a.type a.value (fit_at (shape_at ns h.id) t a.type a.shape z.1) a.fit m.0 (sound_at ns h.id a.type s2 a.shape) a.typed in
            kept_slot h t a.type a.value (f h.id) b z.0 (F h.id t a.type a.value (ap (λ (x : Bool). cond x (Some t) (shape_at ms h.id)) same) a.part) r e ∙ sym a.key),
        each_kept k k2 ms ns ss f n.1 m.1 s2 q.1 (λ id c. W id (counted_next k h t ms id ∙ or_right (counted k h && (h.id == id)) (counts_id k ms id) c))
            (λ id x u w e i. F id x u w (later_shape h t ms id x (not-true (has_member ms h.id) n.0) e) i),
      )
