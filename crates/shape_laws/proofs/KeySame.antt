-- Fitting key types are spelled alike.
use Rattle.std.proofs.Common.{◌≡◌, ℕ, Bool, true, false, cond, not, ◌||◌, ◌&&◌, [], ◌∷◌, Option, Some, None, refl, sym, ap, ap₂, ◌∙◌, inl, inr, ◌==◌, nat_lt}
use Rattle.std.proofs.lemmas.Bool.{cases_Bool, and_parts, eqb-true, or_cases, or_right, or_parts, not-true, both_ways, false_from_ne_true}
use Rattle.std.specs.Option.{option_map}
use Rattle.xt_shapes.specs.declared.leaves.Ext.TheVariants.{Final}
use Rattle.xt_shapes.specs.declared.leaves.Order.{Order}
use Rattle.xt_shapes.specs.Keyable.{any_key, counted, is_leaf, keyable, counted_keyable}
use Rattle.xt_shapes.specs.Kinds.{same_ext}
use Rattle.xt_shapes.specs.Lists.{is_some_and}
use Rattle.xt_shapes.specs.NodeRules.{is_discard}
use Rattle.xt_shapes.specs.Select.{has_member, shape_at}
use Rattle.xt_shapes.specs.Shape.{Shape, prim, str, enumeration, bitmask, sequence, array, map_of, structure, union, Members, no_members, member}
use Rattle.xt_shapes.specs.Vals.{Val, Slots, items_in, slots_in, first, others}
use Rattle.xcdr_model.specs.Equivalence.{same_dims}
use Rattle.xcdr_model.specs.FixedSpelling.{Fixed, nothing, then_fixed, each_fixed, counted_fixed, collection_fixed, slot_fixed, fixed, members_fixed}
use Rattle.xcdr_model.specs.KeyOctets.{members_from, key_type, key_types}
use Rattle.xcdr_model.specs.Keys.{is_structure, key_fit, keys_fit, counts_id, same_counted}
use Rattle.xcdr_model.specs.Premises.{sound, sound_members, some_member, distinct_members}
use Rattle.xcdr_model.specs.Rules.{holds_bound, values_within}
use Rattle.xcdr_model.specs.Xcdr2Reading.{is_primitive}
use Rattle.shape_laws.proofs.AnyOrder.{all_same}
use Rattle.shape_laws.proofs.KeyAt.{counted_next, counted_member, needs}
use Rattle.shape_laws.proofs.KeyKept.{over_there, over_here, tested}
use Rattle.shape_laws.proofs.KeySort.{Entries, lookup, rising, past, same_rising}
use Rattle.shape_laws.proofs.KeyTypes.{type_at, lookup_types, rising_types}
use Rattle.shape_laws.proofs.Rules.{left, right, sound_at}
use Rattle.shape_laws.proofs.Same.{same_prim_is}

-- ---- entries with another second part

abbrev pub seconds : {A B : Type 0} → (A → B) → Entries A → Entries B
seconds f [] = []
seconds f (x ∷ xs) = (x.0, f x.1) ∷ seconds f xs

lookup_seconds : {A B : Type 0} (f : A → B) (xs : Entries A) (id : ℕ) → lookup (seconds f xs) id ≡ option_map f (lookup xs id)
lookup_seconds f [] id = refl
lookup_seconds f (x ∷ xs) id = elim (cases_Bool (x.0 == id)) [
  | inl y ↦ ap (λ (c : Bool). cond c (Some (f x.1)) (lookup (seconds f xs) id)) y ∙ ap (λ (c : Bool). option_map f (cond c (Some x.1) (lookup xs id))) (sym y)
  | inr n ↦ ap (λ (c : Bool). cond c (Some (f x.1)) (lookup (seconds f xs) id)) n ∙ lookup_seconds f xs id ∙ ap (λ (c : Bool). option_map f (cond c (Some x.1) (lookup xs id))) (sym n)
]

past_seconds : {A B : Type 0} (f : A → B) (n : ℕ) (xs : Entries A) → past n (seconds f xs) ≡ past n xs
past_seconds f n [] = refl
past_seconds f n (x ∷ xs) = ap (λ (c : Bool). nat_lt n x.0 && c) (past_seconds f n xs)

rising_seconds : {A B : Type 0} (f : A → B) (xs : Entries A) → rising (seconds f xs) ≡ rising xs
rising_seconds f [] = refl
rising_seconds f (x ∷ xs) = ap₂ (λ (a b : Bool). a && b) (past_seconds f x.0 xs) (rising_seconds f xs)

-- members from spellings alone
abbrev run : Order → Entries (Val → Fixed) → Slots → Fixed
run o [] ss = nothing
run o (x ∷ xs) ss = then_fixed (slot_fixed false o x.1 (first ss)) (run o xs (others ss))

members_run : (o : Order) (xs : Entries Shape) (ss : Slots) → members_fixed o (members_from xs) ss ≡ run o (seconds (fixed o) xs) ss
unfolding members_fixed
members_run o [] ss = refl
members_run o (x ∷ xs) ss = ap (then_fixed (slot_fixed false o (fixed o x.1) (first ss))) (members_run o xs (others ss))

pub same_members : (o : Order) (xs ys : Entries Shape) → seconds (fixed o) xs ≡ seconds (fixed o) ys → (v : Val) → fixed o (structure Final (members_from xs)) v ≡ fixed o (structure Final (members_from ys)) v
unfolding fixed
same_members o xs ys e v = members_run o xs (slots_in v) ∙ ap (λ (z : Entries (Val → Fixed)). run o z (slots_in v)) e ∙ sym (members_run o ys (slots_in v))

-- ---- what stands at an id

no_type : (keyed : Bool) (ms : Members) (id : ℕ) → counts_id keyed ms id ≡ false → type_at keyed ms id ≡ None
no_type keyed no_members id e = refl
no_type keyed (member h t ms) id e =
    let p = or_parts (counted keyed h && (h.id == id)) (counts_id keyed ms id) (sym (counted_next keyed h t ms id) ∙ e) in
    ap (λ (c : Bool). cond c (Some (key_type t)) (type_at keyed ms id)) p.0 ∙ no_type keyed ms id p.1

there_type : (keyed : Bool) (ns : Members) (id : ℕ) (u : Shape) → distinct_members ns ≡ true → counted_keyable keyed ns ≡ true → counts_id keyed ns id ≡ true → shape_at ns id ≡ Some u → (type_at keyed ns id ≡ Some (key_type u)) × (keyable u ≡ true)
there_type keyed no_members id u d k e s = absurd cc
there_type keyed (member h t ns) id u d k e s =
    let p = and_parts (not (has_member ns h.id)) (distinct_members ns) d in
    let r = and_parts (not (counted keyed h) || (not h.optional && keyable t)) (counted_keyable keyed ns) k in
    elim (or_cases (counted keyed h && (h.id == id)) (counts_id keyed ns id) (sym (counted_next keyed h t ns id) ∙ e)) [
      | inl y ↦ (let c = left (counted keyed h) (h.id == id) y in
          let f : Some t ≡ Some u = ap (λ (b : Bool). cond b (Some t) (shape_at ns id)) (sym (right (counted keyed h) (h.id == id) y)) ∙ s in
          let same : t ≡ u = cc in
          (ap (λ (b : Bool). cond b (Some (key_type t)) (type_at keyed ns id)) y ∙ ap (λ (z : Shape). Some (key_type z)) same, ap keyable (sym same) ∙ (needs (counted keyed h) h.optional (keyable t) r.0 c).1))
      | inr y ↦ elim (cases_Bool (h.id == id)) [
        | inl z ↦ absurd (both_ways (has_member ns h.id) (not-true (has_member ns h.id) p.0) (ap (has_member ns) (eqb-true h.id id z) ∙ counted_member keyed ns id y))
        | inr z ↦ (let x = there_type keyed ns id u p.1 r.1 y (ap (λ (b : Bool). cond b (Some t) (shape_at ns id)) (sym z) ∙ s) in
            (ap (λ (b : Bool). cond (counted keyed h && b) (Some (key_type t)) (type_at keyed ns id)) z ∙ no_and (counted keyed h) (Some (key_type t)) (type_at keyed ns id) ∙ x.0, x.1))
      ]
    ]
  where
    no_and : (c : Bool) (x y : Option Shape) → cond (c && false) x y ≡ y
    no_and true x y = refl
    no_and false x y = refl

some_fit : (o : Option Shape) (t : Shape) → is_some_and o (λ u. key_fit t u) ≡ true → (u : Shape) × (o ≡ Some u) × (key_fit t u ≡ true)
some_fit None t e = absurd cc
some_fit (Some u) t e = (u, refl, e)

pub same_types : (o : Order) (k k2 : Bool) (ms ns : Members) → distinct_members ms ≡ true → distinct_members ns ≡ true → same_counted k ms k2 ns ≡ true → ((id : ℕ) → counts_id k2 ns id ≡ true → counts_id k ms id ≡ true)
    → ((id : ℕ) → counts_id k ms id ≡ true → option_map (fixed o) (type_at k ms id) ≡ option_map (fixed o) (type_at k2 ns id)) → seconds (fixed o) (key_types k ms) ≡ seconds (fixed o) (key_types k2 ns)
same_types o k k2 ms ns d d2 i back f =
    let xs = key_types k ms in
    let ys = key_types k2 ns in
    same_rising (seconds (fixed o) xs) (seconds (fixed o) ys) (rising_seconds (fixed o) xs ∙ rising_types k ms d) (rising_seconds (fixed o) ys ∙ rising_types k2 ns d2) (λ id.
    lookup_seconds (fixed o) xs id ∙ ap (option_map (fixed o)) (lookup_types k ms d id) ∙ elim (cases_Bool (counts_id k ms id)) [
      | inl y ↦ f id y
      | inr n ↦ ap (option_map (fixed o)) (no_type k ms id n ∙ sym (no_type k2 ns id (false_from_ne_true (counts_id k2 ns id) (λ z. both_ways (counts_id k ms id) n (back id z)))))
    ] ∙ sym (lookup_seconds (fixed o) ys id ∙ ap (option_map (fixed o)) (lookup_types k2 ns d2 id)))

-- ---- the law

same_leaf : (o : Order) (t u : Shape) → key_fit t u ≡ true → is_leaf u ≡ true → (fixed o t ≡ fixed o u) × (is_primitive t ≡ is_primitive u)
unfolding fixed
same_leaf o (prim p) (prim q) k l = (ap (λ z. fixed o (prim z)) (same_prim_is p q k), refl)
same_leaf o (str a) (str b) k l = (all_same (fixed o (str a)) (fixed o (str b)) (λ v. refl), refl)
same_leaf o (enumeration e bits ls) (enumeration e2 b2 ls2) k l = (ap (λ z. fixed o (enumeration e z ls)) (eqb-true bits b2 (left (bits == b2) (values_within ls2 ls) k)) ∙ all_same (fixed o (enumeration e b2 ls)) (fixed o (enumeration e2 b2 ls2)) (λ v. refl), refl)
same_leaf o (bitmask bits fs) (bitmask b2 fs2) k l = (ap (λ z. fixed o (bitmask z fs)) (eqb-true bits b2 k) ∙ all_same (fixed o (bitmask b2 fs)) (fixed o (bitmask b2 fs2)) (λ v. refl), refl)
same_leaf o (prim p) _ k l = absurd cc
same_leaf o (str a) _ k l = absurd cc
same_leaf o (enumeration e bits ls) _ k l = absurd cc
same_leaf o (bitmask bits fs) _ k l = absurd cc
same_leaf o (sequence a tc t) (sequence b tb u) k l = absurd cc
same_leaf o (sequence a tc t) _ k l = absurd cc
same_leaf o (array ds tc t) (array es tb u) k l = absurd cc
same_leaf o (array ds tc t) _ k l = absurd cc
same_leaf o (map_of b kc j vc t) u k l = absurd cc
same_leaf o (structure e ms) (structure e2 ns) k l = absurd cc
same_leaf o (structure e ms) _ k l = absurd cc
same_leaf o (union e key d cs) u k l = absurd cc

mutual
  unfolding fixed

  pub same_part : (o : Order) (t u : Shape) → key_fit t u ≡ true → keyable u ≡ true → sound t ≡ true → sound u ≡ true → fixed o (key_type t) ≡ fixed o (key_type u)
  same_part o (prim p) (prim q) k l s s2 = (same_leaf o (prim p) (prim q) k refl).0
  same_part o (prim p) _ k l s s2 = absurd cc
  same_part o (str a) (str b) k l s s2 = (same_leaf o (str a) (str b) k refl).0
  same_part o (str a) _ k l s s2 = absurd cc
  same_part o (enumeration e bits ls) (enumeration e2 b2 ls2) k l s s2 = (same_leaf o (enumeration e bits ls) (enumeration e2 b2 ls2) k refl).0
  same_part o (enumeration e bits ls) _ k l s s2 = absurd cc
  same_part o (bitmask bits fs) (bitmask b2 fs2) k l s s2 = (same_leaf o (bitmask bits fs) (bitmask b2 fs2) k refl).0
  same_part o (bitmask bits fs) _ k l s s2 = absurd cc
  same_part o (sequence a tc t) (sequence b tb u) k l s s2 =
      let p = same_leaf o t u (right (holds_bound a b) (key_fit t u) k) l in
      all_same (fixed o (sequence a tc t)) (fixed o (sequence b tb u)) (λ v. ap₂ (λ (c : Bool) (f : Val → Fixed). collection_fixed c o (counted_fixed o (λ w. f w) (items_in v))) p.1 p.0)
  same_part o (sequence a tc t) _ k l s s2 = absurd cc
  same_part o (array ds tc t) (array es tb u) k l s s2 =
      let p = same_leaf o t u (right (same_dims ds es) (key_fit t u) k) l in
      all_same (fixed o (array ds tc t)) (fixed o (array es tb u)) (λ v. ap₂ (λ (c : Bool) (f : Val → Fixed). collection_fixed c o (each_fixed (λ w. f w) (items_in v))) p.1 p.0)
  same_part o (array ds tc t) _ k l s s2 = absurd cc
  same_part o (map_of b kc j vc t) u k l s s2 = absurd cc
  same_part o (structure e ms) (structure e2 ns) k l s s2 =
      let p = and_parts (same_ext e e2) (same_counted (any_key ms) ms (any_key ns) ns && keys_fit (any_key ms) ms ns) k in
      let q = and_parts (same_counted (any_key ms) ms (any_key ns) ns) (keys_fit (any_key ms) ms ns) p.1 in
      let a = and_parts (distinct_members ms) (sound_members ms) (right (some_member ms) (distinct_members ms && sound_members ms) s) in
      let b = and_parts (distinct_members ns) (sound_members ns) (right (some_member ns) (distinct_members ns && sound_members ns) s2) in
      let there = λ (id : ℕ) (c : counts_id (any_key ms) ms id ≡ true). over_there (any_key ms) (any_key ns) ms ns id q.0 c in
      all_same (fixed o (key_type (structure e ms))) (fixed o (key_type (structure e2 ns))) (λ v. same_members o (key_types (any_key ms) ms) (key_types (any_key ns) ns)
      (same_types o (any_key ms) (any_key ns) ms ns a.0 b.0 q.0 (λ id c. over_here (any_key ms) (any_key ns) ms ns id q.0 c) (λ id c. walk_types o (any_key ms) (any_key ns) ms ns a.1 b.0 b.1 l q.1 there id c)) v)
  same_part o (structure e ms) _ k l s s2 = absurd cc
  same_part o (union e key d cs) u k l s s2 = absurd cc

  pub walk_types : (o : Order) (k k2 : Bool) (ms ns : Members) → sound_members ms ≡ true → distinct_members ns ≡ true → sound_members ns ≡ true → counted_keyable k2 ns ≡ true → keys_fit k ms ns ≡ true → ((id : ℕ) → counts_id k ms id ≡ true → counts_id k2 ns id ≡ true)
      → (id : ℕ) → counts_id k ms id ≡ true → option_map (fixed o) (type_at k ms id) ≡ option_map (fixed o) (type_at k2 ns id)
  walk_types o k k2 no_members ns s d s2 l g there id c = absurd cc
  walk_types o k k2 (member h t ms) ns s d s2 l g there id c =
      let m = and_parts (sound t) (sound_members ms) s in
      let q = and_parts (not (counted k h) || ((not (is_structure t) || is_discard h.tc) && is_some_and (shape_at ns h.id) (λ u. key_fit t u))) (keys_fit k ms ns) g in
      elim (cases_Bool (counted k h && (h.id == id))) [
        | inl y ↦ (let z = tested (counted k h) (not (is_structure t) || is_discard h.tc) (is_some_and (shape_at ns h.id) (λ u. key_fit t u)) q.0 (left (counted k h) (h.id == id) y) in
            let u = some_fit (shape_at ns h.id) t z.1 in
            let at_id = eqb-true h.id id (right (counted k h) (h.id == id) y) in
            let x = there_type k2 ns id u.0 d l (there id c) (ap (shape_at ns) (sym at_id) ∙ u.1) in
            ap (λ (b : Bool). option_map (fixed o) (cond b (Some (key_type t)) (type_at k ms id))) y ∙ ap (λ (f : Val → Fixed). Some f) (same_part o t u.0 u.2 x.1 m.0 (sound_at ns h.id u.0 s2 u.1)) ∙ ap (option_map (fixed o)) (sym x.0))
        | inr n ↦ (let c2 : counts_id k ms id ≡ true = sym (ap (λ (b : Bool). b || counts_id k ms id) n) ∙ sym (counted_next k h t ms id) ∙ c in
            ap (λ (b : Bool). option_map (fixed o) (cond b (Some (key_type t)) (type_at k ms id))) n
            ∙ walk_types o k k2 ms ns m.1 d s2 l q.1 (λ i e. there i (counted_next k h t ms i ∙ or_right (counted k h && (h.id == i)) (counts_id k ms i) e)) id c2)
      ]
