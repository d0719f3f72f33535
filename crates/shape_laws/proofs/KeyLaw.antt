-- What key_fit keeps: a key part comes through a projection unchanged.
use Rattle.std.proofs.Common.{◌≡◌, ℕ, ℤ, Bool, true, false, cond, not, ◌||◌, ◌&&◌, List, [], ◌∷◌, length, map, Option, Some, None, refl, sym, ap, ◌∙◌, inl, inr, ◌⊎◌, ◌==◌, nat_le, nat_lt, arith, ltb}
use Rattle.std.proofs.lemmas.Bool.{cases_Bool, and_parts, eqb-true, or_cases, or_left, or_right, not-true, ltb-false, le-ltb, leb-true}
use Rattle.std.proofs.lemmas.Bool.Decides.{Decides-int_eq}
use Rattle.std.specs.Ordering.{int_eq}
use Rattle.xt_shapes.specs.declared.leaves.Try.{Try}
use Rattle.xt_shapes.specs.declared.leaves.Try.TheVariants.{Discard, UseDefault, Trim}
use Rattle.xt_shapes.specs.Defaults.{default_of}
use Rattle.xt_shapes.specs.Keyable.{counted, is_leaf}
use Rattle.xt_shapes.specs.Lists.{has, all}
use Rattle.xt_shapes.specs.NodeRules.{is_discard}
use Rattle.xt_shapes.specs.Select.{is_literal}
use Rattle.xt_shapes.specs.Shape.{Literal, Head, Shape, prim, str, enumeration, bitmask, sequence, array, map_of, structure, union, Members, no_members, member}
use Rattle.xt_shapes.specs.Typing.{is_past, is_text_within, has_type}
use Rattle.xt_shapes.specs.Vals.{Val, int, text, listed, Slots, one_slot, Slot, present, vals_of, number_in, octets_in}
use Rattle.xcdr_model.specs.Keys.{is_structure, key_fit, key_part, counts_id}
use Rattle.xcdr_model.specs.Projection.{Built, got, failed, settled, both, gather_text, whole_items, slot_from, slot_default, gather_slots, projected}
use Rattle.xcdr_model.specs.Rules.{holds_bound, values_within}
use Rattle.shape_laws.proofs.KeyAt.{part_of, key_at, counted_next}
use Rattle.shape_laws.proofs.Rules.{left, right}
use Rattle.shape_laws.proofs.Self.{int_is, text_is, kept_all, own, own_items, own_map}

-- ---- bounds and literals

pub bound_past : (a b n : ℕ) → holds_bound a b ≡ true → is_past b n ≡ false → is_past a n ≡ false
bound_past a b n h p = elim (cases_Bool (a == 0)) [
  | inl y ↦ ap (λ (c : Bool). not c && nat_lt a n) y
  | inr m ↦ (let q : (not (b == 0) && nat_le b a) ≡ true = sym (ap (λ (c : Bool). c || (not (b == 0) && nat_le b a)) m) ∙ h in
      let r = and_parts (not (b == 0)) (nat_le b a) q in
      let l : ltb b n ≡ false = sym (ap (λ (c : Bool). c && nat_lt b n) r.0) ∙ p in
      ap (λ (c : Bool). not c && nat_lt a n) m ∙ le-ltb a n (omega (arith, ltb-false b n l, leb-true b a r.1)))
]

to_literal : (ys : List Literal) (a : Literal) (i : ℤ) → a.value ≡ i → has (λ b. int_eq a.value b.value) ys ≡ true → is_literal ys i ≡ true
to_literal [] a i e h = absurd cc
to_literal (y ∷ ys) a i e h = elim (or_cases (int_eq a.value y.value) (has (λ b. int_eq a.value b.value) ys) h) [
  | inl z ↦ or_left (int_eq y.value i) (is_literal ys i) ((Decides-int_eq y.value i).1 (sym ((Decides-int_eq a.value y.value).0 z) ∙ e))
  | inr z ↦ or_right (int_eq y.value i) (is_literal ys i) (to_literal ys a i e z)
]

literal_within : (xs ys : List Literal) (i : ℤ) → values_within xs ys ≡ true → is_literal xs i ≡ true → is_literal ys i ≡ true
literal_within [] ys i w h = absurd cc
literal_within (x ∷ xs) ys i w h =
    let p = and_parts (has (λ b. int_eq x.value b.value) ys) (values_within xs ys) w in
    elim (or_cases (int_eq x.value i) (is_literal xs i) h) [
      | inl y ↦ to_literal ys x i ((Decides-int_eq x.value i).0 y) p.0
      | inr n ↦ literal_within xs ys i p.1 n
    ]

-- ---- parts that are no structures

abbrev pub Unchanged : Shape → Shape → Val → Type 0
Unchanged t u v = (projected t u v ≡ own v) × (key_part t v ≡ key_part u v)

pub leaf : (t u : Shape) (v : Val) → key_fit t u ≡ true → is_leaf u ≡ true → has_type u v ≡ true → Unchanged t u v
unfolding has_type projected
leaf (prim p) (prim q) v k l h = let x = int_is v _ h in (ap (λ (c : Bool). (cond c (got (int (number_in v))) failed, false)) k ∙ ap (λ (z : Val). own z) (ap (λ (z : Val). int (number_in z)) x.1 ∙ sym x.1), refl)
leaf (str a) (str b) v k l h =
    let x = text_is v (is_text_within b) h in
    let short : is_past b (length x.0) ≡ false = not-true _ (left (not (is_past b (length x.0))) (all (λ c. nat_lt c 256) x.0 && not (has (λ c. c == 0) x.0)) x.2) in
    let fits = bound_past a b (length x.0) k short in
    let built : gather_text a x.0 ≡ got (text x.0) = rw (fits, kept_all a x.0 fits) refl in
    (ap (λ (z : Val). (gather_text a (octets_in z), false)) x.1 ∙ ap (λ (z : Built). (z, false)) built ∙ ap (λ (z : Val). own z) (sym x.1), refl)
leaf (enumeration e bits ls) (enumeration e2 b2 ls2) v k l h =
    let x = int_is v (is_literal ls2) h in
    let known : is_literal ls (number_in v) ≡ true = ap (λ (z : Val). is_literal ls (number_in z)) x.1 ∙ literal_within ls2 ls x.0 (right (bits == b2) (values_within ls2 ls) k) x.2 in
    (ap (λ (c : Bool). (cond c (got (int (number_in v))) failed, false)) known ∙ ap (λ (z : Val). own z) (ap (λ (z : Val). int (number_in z)) x.1 ∙ sym x.1), refl)
leaf (bitmask bits fs) (bitmask b2 fs2) v k l h = let x = int_is v _ h in (ap (λ (z : Val). own z) (ap (λ (z : Val). int (number_in z)) x.1 ∙ sym x.1), refl)
leaf (prim p) _ v k l h = absurd cc
leaf (str a) _ v k l h = absurd cc
leaf (enumeration e bits ls) _ v k l h = absurd cc
leaf (bitmask bits fs) _ v k l h = absurd cc
leaf (sequence a tc t) (sequence b tb u) v k l h = absurd cc
leaf (sequence a tc t) _ v k l h = absurd cc
leaf (array ds tc t) (array es tb u) v k l h = absurd cc
leaf (array ds tc t) _ v k l h = absurd cc
leaf (map_of b kc j vc t) u v k l h = absurd cc
leaf (structure e ms) (structure e2 ns) v k l h = absurd cc
leaf (structure e ms) _ v k l h = absurd cc
leaf (union e key d cs) u v k l h = absurd cc

pub items : (bound : ℕ) (tc : Try) (t u : Shape) (vs : Val) (xs : List Val) → key_fit t u ≡ true → is_leaf u ≡ true → all (λ w. has_type u w) xs ≡ true → is_past bound (length xs) ≡ false
    → whole_items bound tc (default_of t) (map (λ w. projected t u w) xs) ≡ own (listed (vals_of xs))
items bound tc t u vs xs k l h p = ap (whole_items bound tc (default_of t)) (own_map (λ w. projected t u w) (λ w. has_type u w) xs h (λ w e. (leaf t u w k l e).0)) ∙ own_items bound tc (default_of t) xs p

-- ---- structures

-- a part that is built has the key; else it is a structure that failed
abbrev pub Kept : Shape → Shape → Val → Type 0
Kept t u v = ((w : Val) × ((projected t u v).0 ≡ got w) × (key_part t w ≡ key_part u v)) ⊎ (((projected t u v).0 ≡ failed) × (is_structure t ≡ true))

pub unchanged : (t u : Shape) (v : Val) → Unchanged t u v → Kept t u v
unchanged t u v x = inl (v, ap (λ (z : Built × Bool). z.0) x.0, x.1)

-- what the walk over the reader's members needs of each
abbrev pub Each : Bool → Members → (ℕ → Option Built) → (ℕ → Option Val) → Type 0
Each keyed no_members f G = Unit {0}
Each keyed (member h t ms) f G = (counted keyed h ≡ true → (s : Slot) → slot_from h t (f h.id) ≡ Some s → part_of t s ≡ G h.id) × Each keyed ms f G

both_parts : (x : Option Slot) (y : Option Slots) (ss : Slots) → both one_slot x y ≡ Some ss → (s : Slot) × (r : Slots) × (x ≡ Some s) × (y ≡ Some r) × (ss ≡ one_slot s r)
both_parts None y ss e = absurd cc
both_parts (Some s) None ss e = absurd cc
both_parts (Some s) (Some r) ss e = (let z : one_slot s r ≡ ss = cc in (s, r, refl, refl, sym z))

pub walk : (keyed : Bool) (ms : Members) (ss : Slots) (f : ℕ → Option Built) (G : ℕ → Option Val) → gather_slots ms f ≡ Some ss → Each keyed ms f G → (id : ℕ) → counts_id keyed ms id ≡ true → key_at keyed ms ss id ≡ G id
walk keyed no_members ss f G e a id c = absurd cc
walk keyed (member h t ms) ss f G e a id c =
    let z = both_parts (slot_from h t (f h.id)) (gather_slots ms f) ss e in
    ap (λ (y : Slots). key_at keyed (member h t ms) y id) z.4 ∙ elim (cases_Bool (counted keyed h && (h.id == id))) [
      | inl y ↦ ap (λ (b : Bool). cond b (part_of t z.0) (key_at keyed ms z.1 id)) y ∙ a.0 (left (counted keyed h) (h.id == id) y) z.0 z.2 ∙ ap G (eqb-true h.id id (right (counted keyed h) (h.id == id) y))
      | inr n ↦ (let c2 : counts_id keyed ms id ≡ true = sym (ap (λ (b : Bool). b || counts_id keyed ms id) n) ∙ sym (counted_next keyed h t ms id) ∙ c in
          ap (λ (b : Bool). cond b (part_of t z.0) (key_at keyed ms z.1 id)) n ∙ walk keyed ms z.1 f G z.3 a.1 id c2)
    ]

-- a counted member's slot holds the part
pub kept_slot : (h : Head) (t u : Shape) (w : Val) (o : Option Built) (s : Slot) → (not (is_structure t) || is_discard h.tc) ≡ true → o ≡ Some (projected t u w).0 → Kept t u w → slot_from h t o ≡ Some s → part_of t s ≡ Some (key_part u w)
kept_slot h t u w o s d e k f = elim k [
  | inl g ↦ (let z : Some (present g.0) ≡ Some s = ap (slot_from h t) (sym (e ∙ ap (λ (b : Built). Some b) g.1)) ∙ f in
      let same : present g.0 ≡ s = cc in ap (part_of t) (sym same) ∙ ap (λ (x : Val). Some x) g.2)
  | inr g ↦ (let dis : is_discard h.tc ≡ true = ap (λ (c : Bool). not c || is_discard h.tc) (sym g.1) ∙ d in
      let z : slot_from h t (Some failed) ≡ Some s = ap (slot_from h t) (sym (e ∙ ap (λ (b : Built). Some b) g.0)) ∙ f in
      absurd (lost h.tc dis z))
]
  where
    lost : (tc : Try) → is_discard tc ≡ true → settled tc (slot_default h t) present failed ≡ Some s → ⊥
    lost Discard e z = cc
    lost UseDefault e z = cc
    lost Trim e z = cc
