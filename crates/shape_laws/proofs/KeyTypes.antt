-- The type of a key is valid, and the key of a value has it.
use Rattle.std.proofs.Common.{◌≡◌, ℕ, ◌^◌, ◌-◌, Bool, true, false, cond, not, ◌||◌, ◌&&◌, [], ◌∷◌, map, Option, Some, None, refl, sym, ap, ap₂, ◌∙◌, arith, inl, inr, ◌==◌, nat_lt}
use Rattle.std.proofs.lemmas.Bool.{cases_Bool, and_parts, and_from, ne_eqb, or_parts, or_from, not-true, not_from_false, both_ways, ltb-true}
use Rattle.xt_shapes.specs.declared.leaves.Ext.TheVariants.{Final}
use Rattle.xt_shapes.specs.Keyable.{any_key, counted, keyable, counted_keyable}
use Rattle.xt_shapes.specs.Lists.{has, all}
use Rattle.xt_shapes.specs.Select.{has_member}
use Rattle.xt_shapes.specs.Shape.{Head, Shape, prim, str, enumeration, bitmask, sequence, array, map_of, structure, union, Members, no_members, member, heads}
use Rattle.xt_shapes.specs.Typing.{of_slot, has_type, have_types}
use Rattle.xt_shapes.specs.Vals.{Val, Slots, no_slots, one_slot, Slot, absent, present, slots_in}
use Rattle.xcdr_model.specs.KeyOctets.{members_from, key_type, key_types}
use Rattle.xcdr_model.specs.Keys.{by_id, of_present, all_present, key_part, key_parts}
use Rattle.xcdr_model.specs.Premises.{sound, sound_members, some_member, distinct_members, storable, members_storable}
use Rattle.shape_laws.proofs.KeyAt.{needs}
use Rattle.shape_laws.proofs.KeySort.{Entries, lookup, rising, past, insert_at, insert_rising}
use Rattle.shape_laws.proofs.Rules.{left, right}
use Rattle.shape_laws.proofs.Self.{struct_is}

-- ---- what stands at an id

abbrev pub type_at : Bool → Members → ℕ → Option Shape
type_at keyed no_members id = None
type_at keyed (member h t ms) id = cond (counted keyed h && (h.id == id)) (Some (key_type t)) (type_at keyed ms id)

no_and : {A : Type 0} (c : Bool) (x y : A) → cond (c && false) x y ≡ y
no_and true x y = refl
no_and false x y = refl

none_type : (keyed : Bool) (ms : Members) (id : ℕ) → has_member ms id ≡ false → type_at keyed ms id ≡ None
none_type keyed no_members id e = refl
none_type keyed (member h t ms) id e =
    let p = or_parts (h.id == id) (has_member ms id) e in
    ap (λ (c : Bool). cond (counted keyed h && c) (Some (key_type t)) (type_at keyed ms id)) p.0 ∙ no_and (counted keyed h) (Some (key_type t)) (type_at keyed ms id) ∙ none_type keyed ms id p.1

one_type : (c : Bool) (h : Head) (t : Shape) (rest : Entries Shape) (id : ℕ) → lookup rest h.id ≡ None → lookup (cond c (by_id (h.id, t) rest) rest) id ≡ cond (c && (h.id == id)) (Some t) (lookup rest id)
one_type false h t rest id n = refl
one_type true h t rest id n = insert_at (h.id, t) rest id n

pub lookup_types : (keyed : Bool) (ms : Members) → distinct_members ms ≡ true → (id : ℕ) → lookup (key_types keyed ms) id ≡ type_at keyed ms id
lookup_types keyed no_members d id = refl
lookup_types keyed (member h t ms) d id =
    let p = and_parts (not (has_member ms h.id)) (distinct_members ms) d in
    one_type (counted keyed h) h (key_type t) (key_types keyed ms) id (lookup_types keyed ms p.1 h.id ∙ none_type keyed ms h.id (not-true (has_member ms h.id) p.0))
    ∙ ap (cond (counted keyed h && (h.id == id)) (Some (key_type t))) (lookup_types keyed ms p.1 id)

one_rising : (c : Bool) (h : Head) (t : Shape) (rest : Entries Shape) → lookup rest h.id ≡ None → rising rest ≡ true → rising (cond c (by_id (h.id, t) rest) rest) ≡ true
one_rising false h t rest n r = r
one_rising true h t rest n r = insert_rising (h.id, t) rest r n

pub rising_types : (keyed : Bool) (ms : Members) → distinct_members ms ≡ true → rising (key_types keyed ms) ≡ true
rising_types keyed no_members d = refl
rising_types keyed (member h t ms) d =
    let p = and_parts (not (has_member ms h.id)) (distinct_members ms) d in
    one_rising (counted keyed h) h (key_type t) (key_types keyed ms) (lookup_types keyed ms p.1 h.id ∙ none_type keyed ms h.id (not-true (has_member ms h.id) p.0)) (rising_types keyed ms p.1)

-- ---- the members of a rising list are distinct

not_past : (n : ℕ) (xs : Entries Shape) → past n xs ≡ true → has_member (members_from xs) n ≡ false
not_past n [] e = refl
not_past n (x ∷ xs) e = or_from (x.0 == n) (has_member (members_from xs) n) (ne_eqb x.0 n (λ z. omega (arith, z, ltb-true n x.0 (left (nat_lt n x.0) (past n xs) e)))) (not_past n xs (right (nat_lt n x.0) (past n xs) e))

rising_distinct : (xs : Entries Shape) → rising xs ≡ true → distinct_members (members_from xs) ≡ true
rising_distinct [] e = refl
rising_distinct (x ∷ xs) e =
    let p = and_parts (past x.0 xs) (rising xs) e in
    and_from (not (has_member (members_from xs) x.0)) (distinct_members (members_from xs)) (not_from_false _ (not_past x.0 xs p.0)) (rising_distinct xs p.1)

-- ---- valid

abbrev Good : ℕ × Shape → Bool
Good x = nat_lt x.0 (2 ^ 28 - 1) && (sound x.1 && storable x.1)

insert_all : {A : Type 0} (p : ℕ × A → Bool) (x : ℕ × A) (xs : Entries A) → p x ≡ true → all p xs ≡ true → all p (by_id x xs) ≡ true
insert_all p x [] e f = and_from (p x) true e refl
insert_all p x (y ∷ ys) e f = elim (cases_Bool (nat_lt x.0 y.0)) [
  | inl s ↦ ap (λ (c : Bool). all p (cond c (x ∷ y ∷ ys) (y ∷ by_id x ys))) s ∙ and_from (p x) (all p (y ∷ ys)) e f
  | inr s ↦ ap (λ (c : Bool). all p (cond c (x ∷ y ∷ ys) (y ∷ by_id x ys))) s ∙ and_from (p y) (all p (by_id x ys)) (left (p y) (all p ys) f) (insert_all p x ys e (right (p y) (all p ys) f))
]

good_sound : (xs : Entries Shape) → all Good xs ≡ true → sound_members (members_from xs) ≡ true
good_sound [] e = refl
good_sound (x ∷ xs) e = let g = right (nat_lt x.0 (2 ^ 28 - 1)) (sound x.1 && storable x.1) (left (Good x) (all Good xs) e) in
    and_from (sound x.1) (sound_members (members_from xs)) (left (sound x.1) (storable x.1) g) (good_sound xs (right (Good x) (all Good xs) e))

good_storable : (xs : Entries Shape) → all Good xs ≡ true → members_storable (members_from xs) ≡ true
good_storable [] e = refl
good_storable (x ∷ xs) e =
    let p = left (Good x) (all Good xs) e in
    let g = right (nat_lt x.0 (2 ^ 28 - 1)) (sound x.1 && storable x.1) p in
    and_from (nat_lt x.0 (2 ^ 28 - 1)) (storable x.1 && members_storable (members_from xs)) (left (nat_lt x.0 (2 ^ 28 - 1)) (sound x.1 && storable x.1) p)
    (and_from (storable x.1) (members_storable (members_from xs)) (right (sound x.1) (storable x.1) g) (good_storable xs (right (Good x) (all Good xs) e)))

insert_some : (x : ℕ × Shape) (xs : Entries Shape) → some_member (members_from (by_id x xs)) ≡ true
insert_some x [] = refl
insert_some x (y ∷ ys) = by_test (nat_lt x.0 y.0)
  where
    by_test : (c : Bool) → some_member (members_from (cond c (x ∷ y ∷ ys) (y ∷ by_id x ys))) ≡ true
    by_test true = refl
    by_test false = refl

some_types : (keyed : Bool) (ms : Members) → has (counted keyed) (heads ms) ≡ true → some_member (members_from (key_types keyed ms)) ≡ true
some_types keyed no_members e = absurd cc
some_types keyed (member h t ms) e = elim (cases_Bool (counted keyed h)) [
  | inl y ↦ ap (λ (c : Bool). some_member (members_from (cond c (by_id (h.id, key_type t) (key_types keyed ms)) (key_types keyed ms)))) y ∙ insert_some (h.id, key_type t) (key_types keyed ms)
  | inr n ↦ ap (λ (c : Bool). some_member (members_from (cond c (by_id (h.id, key_type t) (key_types keyed ms)) (key_types keyed ms)))) n ∙ some_types keyed ms (sym (ap (λ (c : Bool). c || has (counted keyed) (heads ms)) n) ∙ e)
]

-- where none is a key, all are counted
any_counted : (ms : Members) → some_member ms ≡ true → has (counted (any_key ms)) (heads ms) ≡ true
any_counted no_members e = absurd cc
any_counted (member h t ms) e = by_any (any_key (member h t ms)) refl
  where
    by_any : (b : Bool) → any_key (member h t ms) ≡ b → has (counted b) (heads (member h t ms)) ≡ true
    by_any true z = z
    by_any false z = refl

pub valid_members : (xs : Entries Shape) → some_member (members_from xs) ≡ true → rising xs ≡ true → all Good xs ≡ true → (sound (structure Final (members_from xs)) && storable (structure Final (members_from xs))) ≡ true
valid_members xs s r g = and_from (sound (structure Final (members_from xs))) (members_storable (members_from xs))
    (and_from (some_member (members_from xs)) (distinct_members (members_from xs) && sound_members (members_from xs)) s (and_from (distinct_members (members_from xs)) (sound_members (members_from xs)) (rising_distinct xs r) (good_sound xs g))) (good_storable xs g)

one_good : (c : Bool) (x : ℕ × Shape) (xs : Entries Shape) → (c ≡ true → Good x ≡ true) → all Good xs ≡ true → all Good (cond c (by_id x xs) xs) ≡ true
one_good true x xs f g = insert_all Good x xs (f refl) g
one_good false x xs f g = g

mutual
  pub valid_part : (t : Shape) → sound t ≡ true → storable t ≡ true → keyable t ≡ true → (sound (key_type t) && storable (key_type t)) ≡ true
  valid_part (prim p) s k l = refl
  valid_part (str bound) s k l = refl
  valid_part (enumeration e bits ls) s k l = k
  valid_part (bitmask bits fs) s k l = k
  valid_part (sequence bound tc t) s k l = and_from (sound t) (storable t) s k
  valid_part (array dims tc t) s k l = and_from (sound (array dims tc t)) (storable t) s k
  valid_part (map_of bound kc j vc t) s k l = absurd cc
  valid_part (structure e ms) s k l =
      let a = and_parts (some_member ms) (distinct_members ms && sound_members ms) s in
      let d = and_parts (distinct_members ms) (sound_members ms) a.1 in
      valid_members (key_types (any_key ms) ms) (some_types (any_key ms) ms (any_counted ms a.0)) (rising_types (any_key ms) ms d.0) (good_types (any_key ms) ms d.1 k l)
  valid_part (union e key d cs) s k l = absurd cc

  pub good_types : (keyed : Bool) (ms : Members) → sound_members ms ≡ true → members_storable ms ≡ true → counted_keyable keyed ms ≡ true → all Good (key_types keyed ms) ≡ true
  good_types keyed no_members s k l = refl
  good_types keyed (member h t ms) s k l =
      let p = and_parts (sound t) (sound_members ms) s in
      let q = and_parts (nat_lt h.id (2 ^ 28 - 1)) (storable t && members_storable ms) k in
      let r = and_parts (storable t) (members_storable ms) q.1 in
      let n = and_parts (not (counted keyed h) || (not h.optional && keyable t)) (counted_keyable keyed ms) l in
      one_good (counted keyed h) (h.id, key_type t) (key_types keyed ms) (λ c. and_from (nat_lt h.id (2 ^ 28 - 1)) (sound (key_type t) && storable (key_type t)) q.0 (valid_part t p.0 r.0 (needs (counted keyed h) h.optional (keyable t) n.0 c).1)) (good_types keyed ms p.1 r.1 n.1)

-- ---- typed

abbrev pub Aligned : Entries Shape → Entries Val → Type 0
Aligned [] [] = Unit {0}
Aligned [] (y ∷ ys) = ⊥
Aligned (x ∷ xs) [] = ⊥
Aligned (x ∷ xs) (y ∷ ys) = (x.0 ≡ y.0) × (has_type x.1 y.1 ≡ true) × Aligned xs ys

insert_aligned : (x : ℕ × Shape) (y : ℕ × Val) (xs : Entries Shape) (ys : Entries Val) → x.0 ≡ y.0 → has_type x.1 y.1 ≡ true → Aligned xs ys → Aligned (by_id x xs) (by_id y ys)
insert_aligned x y [] [] e h a = (e, h, tt)
insert_aligned x y [] (w ∷ ws) e h a = absurd a
insert_aligned x y (z ∷ zs) [] e h a = absurd a
insert_aligned x y (z ∷ zs) (w ∷ ws) e h a = by_test (nat_lt x.0 z.0) (nat_lt y.0 w.0) (ap₂ nat_lt e a.0) (insert_aligned x y zs ws e h a.2)
  where
    by_test : (c d : Bool) → c ≡ d → Aligned (by_id x zs) (by_id y ws) → Aligned (cond c (x ∷ z ∷ zs) (z ∷ by_id x zs)) (cond d (y ∷ w ∷ ws) (w ∷ by_id y ws))
    by_test true true q more = (e, h, a)
    by_test false false q more = (a.0, a.1, more)
    by_test true false q more = absurd cc
    by_test false true q more = absurd cc

pub aligned_types : (xs : Entries Shape) (ys : Entries Val) → Aligned xs ys → have_types (members_from xs) (all_present (map (λ y. y.1) ys)) ≡ true
unfolding have_types
aligned_types [] [] a = refl
aligned_types [] (y ∷ ys) a = absurd a
aligned_types (x ∷ xs) [] a = absurd a
aligned_types (x ∷ xs) (y ∷ ys) a = and_from (has_type x.1 y.1) (have_types (members_from xs) (all_present (map (λ y. y.1) ys))) a.1 (aligned_types xs ys a.2)

one_aligned : (c : Bool) (h : Head) (t : Shape) (s : Slot) (xs : Entries Shape) (ys : Entries Val) → (c ≡ true → h.optional ≡ false) → of_slot h.optional (λ w. has_type t w) s ≡ true → (c ≡ true → (w : Val) → has_type t w ≡ true → has_type (key_type t) (key_part t w) ≡ true) → Aligned xs ys
    → Aligned (cond c (by_id (h.id, key_type t) xs) xs) (cond c (of_present s (λ w. (h.id, key_part t w)) ys) ys)
one_aligned false h t s xs ys o e f a = a
one_aligned true h t absent xs ys o e f a = absurd (both_ways h.optional (o refl) e)
one_aligned true h t (present w) xs ys o e f a = insert_aligned (h.id, key_type t) (h.id, key_part t w) xs ys refl (f refl w e) a

mutual
  unfolding has_type have_types

  pub typed_part : (t : Shape) → keyable t ≡ true → (v : Val) → has_type t v ≡ true → has_type (key_type t) (key_part t v) ≡ true
  typed_part (prim p) l v h = h
  typed_part (str bound) l v h = h
  typed_part (enumeration e bits ls) l v h = h
  typed_part (bitmask bits fs) l v h = h
  typed_part (sequence bound tc t) l v h = h
  typed_part (array dims tc t) l v h = h
  typed_part (map_of bound kc j vc t) l v h = absurd cc
  typed_part (structure e ms) l v h =
      let x = struct_is v (λ ss. have_types ms ss) h in
      aligned_types (key_types (any_key ms) ms) (key_parts (any_key ms) ms (slots_in v)) (aligned_parts (any_key ms) ms l (slots_in v) (ap (λ (z : Val). have_types ms (slots_in z)) x.1 ∙ x.2))
  typed_part (union e key d cs) l v h = absurd cc

  pub aligned_parts : (keyed : Bool) (ms : Members) → counted_keyable keyed ms ≡ true → (ss : Slots) → have_types ms ss ≡ true → Aligned (key_types keyed ms) (key_parts keyed ms ss)
  aligned_parts keyed no_members l ss h = tt
  aligned_parts keyed (member a t ms) l no_slots h = absurd cc
  aligned_parts keyed (member a t ms) l (one_slot s ss) h =
      let n = and_parts (not (counted keyed a) || (not a.optional && keyable t)) (counted_keyable keyed ms) l in
      let q = and_parts (of_slot a.optional (λ w. has_type t w) s) (have_types ms ss) h in
      one_aligned (counted keyed a) a t s (key_types keyed ms) (key_parts keyed ms ss) (λ c. (needs (counted keyed a) a.optional (keyable t) n.0 c).0) q.0 (λ c w e. typed_part t (needs (counted keyed a) a.optional (keyable t) n.0 c).1 w e) (aligned_parts keyed ms n.1 ss q.1)
