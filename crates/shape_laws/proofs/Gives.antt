-- What a reading of octets gives: what holds of what it read. What is left are octets again.
use Rattle.std.proofs.Common.{◌≡◌, ℕ, zero, suc, ◌+◌, ◌-◌, ◌*◌, ◌^◌, ◌<◌, ◌≤◌, pos, Bool, true, false, cond, not, ◌||◌, ◌&&◌, List, [], ◌∷◌, ◌++◌, length, take, drop, min, reverse, Ok, refl, sym, ap, subst, ◌∙◌, arith, nat_lt, nat_le, ◌==◌, inl, inr, pow-suc}
use Rattle.std.proofs.lemmas.Bool.{cases_Bool, and_from, ltb-true, ltb-false, lt-ltb, leb-false, not_from_false, or_parts}
use Rattle.std.proofs.lemmas.List.{length-drop, length-take-le, length-reverse, reverse-append}
use Rattle.xt_shapes.specs.declared.leaves.Order.{Order}
use Rattle.xt_shapes.specs.declared.leaves.Order.TheVariants.{Big, Little}
use Rattle.xt_shapes.specs.declared.leaves.Primitive.{Primitive}
use Rattle.xt_shapes.specs.declared.leaves.Primitive.TheVariants.{Boolean, Byte, Int8, Uint8, Int16, Uint16, Int32, Uint32, Int64, Uint64, Float32, Float64, Char8}
use Rattle.xt_shapes.specs.Lists.{has, all}
use Rattle.xt_shapes.specs.Shape.{Flag, Shape, prim, enumeration, bitmask}
use Rattle.xt_shapes.specs.Sizes.{size, is_signed, is_boolean, enum_size, mask_size, half}
use Rattle.xt_shapes.specs.Typing.{in_range, is_below, of_prim}
use Rattle.xcdr_model.specs.declared.malformed.Why.TheVariants.{Short, Str, Boolean as bad_boolean, Mask}
use Rattle.xcdr_model.specs.Numbers.{low_number, number, padding, with_sign}
use Rattle.xcdr_model.specs.Reading.{Spot, Reading, fault_at, ◌>>=◌, step, number_at, octets_at, front, passing, is_used_up, filling, dheader, each_at}
use Rattle.xcdr_model.specs.Xcdr2Reading.{done, holder, two_valued, scalar_at, without_nul, text_at, collection_at, counted_at}
use Rattle.shape_laws.proofs.Costs.{reading, bind_ok, guard_ok, ok_parts, used_up_ok}
use Rattle.shape_laws.proofs.GatherTyped.{take_ok}
use Rattle.shape_laws.proofs.Rules.{left, right}

abbrev pub small : List ℕ → Bool
small b = all (λ c. nat_lt c 256) b

abbrev pub Gives : {A : Type 0} → (Spot → Reading A) → (A → Type 0) → Type 0
Gives {A = A} f R = (s s2 : Spot) (x : A) → small s.rest ≡ true → f s ≡ reading x s2 → (small s2.rest ≡ true) × R x

pub small_drop : (n : ℕ) (b : List ℕ) → small b ≡ true → small (drop n b) ≡ true
small_drop zero b h = h
small_drop (suc n) [] h = refl
small_drop (suc n) (c ∷ b) h = small_drop n b (right (nat_lt c 256) (small b) h)

pub small_take : (n : ℕ) (b : List ℕ) → small b ≡ true → small (take n b) ≡ true
small_take n b h = take_ok (λ c. nat_lt c 256) n b h

small_append : (a b : List ℕ) → small a ≡ true → small b ≡ true → small (a ++ b) ≡ true
small_append [] b h k = k
small_append (c ∷ a) b h k = and_from (nat_lt c 256) (small (a ++ b)) (left (nat_lt c 256) (small a) h) (small_append a b (right (nat_lt c 256) (small a) h) k)

small_reverse : (b : List ℕ) → small b ≡ true → small (reverse b) ≡ true
small_reverse [] h = refl
small_reverse (c ∷ b) h = subst (λ (z : List ℕ). small z ≡ true) (sym (reverse-append (c ∷ []) b)) (small_append (reverse b) (c ∷ []) (small_reverse b (right (nat_lt c 256) (small b) h)) (and_from (nat_lt c 256) true (left (nat_lt c 256) (small b) h) refl))

low_below : (b : List ℕ) → small b ≡ true → low_number b < 256 ^ length b
low_below [] h = omega arith
low_below (c ∷ b) h = omega (arith, pow-suc 256 (length b), low_below b (right (nat_lt c 256) (small b) h), ltb-true c 256 (left (nat_lt c 256) (small b) h))

number_below : (o : Order) (k : ℕ) (b : List ℕ) → small b ≡ true → length b ≡ k → number o b < 256 ^ k
unfolding number
number_below Little k b h e = subst (λ (n : ℕ). low_number b < 256 ^ n) e (low_below b h)
number_below Big k b h e = subst (λ (n : ℕ). low_number (reverse b) < 256 ^ n) (length-reverse b ∙ e) (low_below (reverse b) (small_reverse b h))

pub small_step : (n : ℕ) (s : Spot) → small s.rest ≡ true → small (step n s).rest ≡ true
unfolding step
small_step n s h = small_drop n s.rest h

pub number_gives : (most : ℕ) (o : Order) (k : ℕ) → Gives (number_at most o k) (λ n. n < 256 ^ k)
unfolding number_at
number_gives most o k s s2 n h e =
    let pad = padding (min k most) s.at in
    let b = take k (drop pad s.rest) in
    let g = guard_ok (nat_lt (length s.rest) (pad + k)) (record { at = s.at + min pad (length s.rest); why = Short }) (reading (number o b) (step (pad + k) s)) (n, s2) e in
    let p = ok_parts (number o b) n (step (pad + k) s) s2 g.1 in
    let le = ltb-false (length s.rest) (pad + k) g.0 in
    let len : length b ≡ k = length-take-le k (drop pad s.rest) (omega (arith, le, length-drop pad s.rest)) in
    (ap (λ (z : Spot). small z.rest) (sym p.1) ∙ small_step (pad + k) s h, subst (λ (m : ℕ). m < 256 ^ k) p.0 (number_below o k b (small_take k (drop pad s.rest) (small_drop pad s.rest h)) len))

pub done_gives : {A B : Type 0} (g : A → B) (f : Spot → Reading A) (R : A → Type 0) (R2 : B → Type 0) → Gives f R → ((x : A) → R x → R2 (g x)) → Gives (λ s. done g (f s)) R2
done_gives g f R R2 c h s s2 y z e =
    let b = bind_ok (f s) (λ x. reading (g x.0) x.1) (y, s2) e in
    let p = ok_parts (g b.0.0) y b.0.1 s2 b.2 in
    let k = c s b.0.1 b.0.0 z b.1 in
    (ap (λ (q : Spot). small q.rest) (sym p.1) ∙ k.0, subst R2 p.0 (h b.0.0 k.1))

-- ---- numbers

whole_is_two_halves : (k : ℕ) → 1 ≤ k → 256 ^ k ≡ 2 * half k
whole_is_two_halves zero e = absurd (omega arith)
whole_is_two_halves (suc k) e =
    let same : suc k - 1 ≡ k = omega arith in
    pow-suc 256 k ∙ rw same (omega arith)

signed_range : (k : ℕ) (signed : Bool) (n : ℕ) → 1 ≤ k → n < 256 ^ k → in_range k signed (with_sign k signed n) ≡ true
unfolding with_sign
signed_range k false n k-pos l = lt-ltb n (256 ^ k) l
signed_range k true n k-pos l = elim (cases_Bool (nat_lt n (half k))) [
  | inl y ↦ rw y (lt-ltb n (half k) (ltb-true n (half k) y))
  | inr m ↦ rw m (lt-ltb (256 ^ k - suc n) (half k) (omega (arith, l, ltb-false n (half k) m, whole_is_two_halves k k-pos)))
]

pub prim_gives : (most : ℕ) (o : Order) (p : Primitive) → Gives (scalar_at most o (prim p)) (λ i. of_prim p i ≡ true)
unfolding scalar_at with_sign
prim_gives most o p s s2 i h e =
    let b = bind_ok (number_at most o (size p) s) (λ n. two_valued (is_boolean p) (holder most 1 s) n.0 >>= λ m. reading (with_sign (size p) (is_signed p) m) n.1) (i, s2) e in
    let d = bind_ok (two_valued (is_boolean p) (holder most 1 s) b.0.0) (λ m. reading (with_sign (size p) (is_signed p) m) b.0.1) (i, s2) b.2 in
    let k = number_gives most o (size p) s b.0.1 b.0.0 h b.1 in
    let g = guard_ok (is_boolean p && nat_lt 1 b.0.0) (record { at = holder most 1 s; why = bad_boolean }) (Ok b.0.0) d.0 d.1 in
    let q = ok_parts (with_sign (size p) (is_signed p) d.0) i b.0.1 s2 d.2 in
    let same : b.0.0 ≡ d.0 = cc in
    (ap (λ (z : Spot). small z.rest) (sym q.1) ∙ k.0, ap (of_prim p) (sym q.0 ∙ ap (with_sign (size p) (is_signed p)) (sym same)) ∙ in_prim p b.0.0 k.1 g.0)
  where
    in_prim : (p : Primitive) (n : ℕ) → n < 256 ^ size p → (is_boolean p && nat_lt 1 n) ≡ false → of_prim p (with_sign (size p) (is_signed p) n) ≡ true
    in_prim Boolean n l b = lt-ltb n 2 (omega (arith, ltb-false 1 n b))
    in_prim Byte n l b = signed_range 1 false n (omega arith) l
    in_prim Int8 n l b = signed_range 1 true n (omega arith) l
    in_prim Uint8 n l b = signed_range 1 false n (omega arith) l
    in_prim Int16 n l b = signed_range 2 true n (omega arith) l
    in_prim Uint16 n l b = signed_range 2 false n (omega arith) l
    in_prim Int32 n l b = signed_range 4 true n (omega arith) l
    in_prim Uint32 n l b = signed_range 4 false n (omega arith) l
    in_prim Int64 n l b = signed_range 8 true n (omega arith) l
    in_prim Uint64 n l b = signed_range 8 false n (omega arith) l
    in_prim Float32 n l b = signed_range 4 false n (omega arith) l
    in_prim Float64 n l b = signed_range 8 false n (omega arith) l
    in_prim Char8 n l b = signed_range 1 false n (omega arith) l

pub mask_gives : (most : ℕ) (o : Order) (bits : ℕ) (fs : List Flag) → Gives (scalar_at most o (bitmask bits fs)) (λ i. is_below (2 ^ bits) i ≡ true)
unfolding scalar_at
mask_gives most o bits fs s s2 i h e =
    let b = bind_ok (number_at most o (mask_size bits) s) (λ n. cond (nat_le (2 ^ bits) n.0) (fault_at (holder most (mask_size bits) s) Mask) (reading (pos n.0) n.1)) (i, s2) e in
    let g = guard_ok (nat_le (2 ^ bits) b.0.0) (record { at = holder most (mask_size bits) s; why = Mask }) (reading (pos b.0.0) b.0.1) (i, s2) b.2 in
    let q = ok_parts (pos b.0.0) i b.0.1 s2 g.1 in
    (ap (λ (z : Spot). small z.rest) (sym q.1) ∙ (number_gives most o (mask_size bits) s b.0.1 b.0.0 h b.1).0, ap (is_below (2 ^ bits)) (sym q.0) ∙ lt-ltb b.0.0 (2 ^ bits) (leb-false (2 ^ bits) b.0.0 g.0))

-- any number is small again
pub scalar_gives : (most : ℕ) (o : Order) (t : Shape) → Gives (scalar_at most o t) (λ i. Unit {0})
unfolding scalar_at
scalar_gives most o (prim p) s s2 i h e = ((prim_gives most o p s s2 i h e).0, tt)
scalar_gives most o (enumeration x bits ls) s s2 i h e =
    let b = bind_ok (number_at most o (enum_size bits) s) (λ n. reading (with_sign (enum_size bits) (enum_size bits == 4) n.0) n.1) (i, s2) e in
    let q = ok_parts (with_sign (enum_size bits) (enum_size bits == 4) b.0.0) i b.0.1 s2 b.2 in
    (ap (λ (z : Spot). small z.rest) (sym q.1) ∙ (number_gives most o (enum_size bits) s b.0.1 b.0.0 h b.1).0, tt)
scalar_gives most o (bitmask bits fs) s s2 i h e = ((mask_gives most o bits fs s s2 i h e).0, tt)
scalar_gives most o _ s s2 i h e = absurd cc

-- ---- texts

octets_gives : (n : ℕ) → Gives (octets_at n) (λ t. small t ≡ true)
unfolding octets_at
octets_gives n s s2 t h e =
    let g = guard_ok (nat_lt (length s.rest) n) (record { at = s.at; why = Short }) (reading (take n s.rest) (step n s)) (t, s2) e in
    let p = ok_parts (take n s.rest) t (step n s) s2 g.1 in
    (ap (λ (z : Spot). small z.rest) (sym p.1) ∙ small_step n s h, ap small (sym p.0) ∙ small_take n s.rest h)

clean_ok : (at n : ℕ) (t u : List ℕ) → without_nul at n t ≡ Ok u → (take n t ≡ u) × (has (λ c. c == 0) (take n t) ≡ false)
clean_ok at n t u e =
    let g = guard_ok (has (λ b. b == 0) (take n t) || not (has (λ b. b == 0) t)) (record { at = at; why = Str }) (Ok (take n t)) u e in
    let same : take n t ≡ u = cc in
    (same, (or_parts (has (λ b. b == 0) (take n t)) (not (has (λ b. b == 0) t)) g.0).0)

pub text_gives : (o : Order) → Gives (text_at o) (λ t. (small t && not (has (λ c. c == 0) t)) ≡ true)
unfolding text_at
text_gives o s s2 t h e =
    let at = holder 4 4 s in
    let tail = λ (n : ℕ × Spot) (c : List ℕ × Spot). without_nul at (n.0 - 1) c.0 >>= λ u. reading u c.1 in
    let b = bind_ok (number_at 4 o 4 s) (λ n. cond (n.0 == 0) (fault_at at Str) (octets_at n.0 n.1 >>= λ c. tail n c)) (t, s2) e in
    let g = guard_ok (b.0.0 == 0) (record { at = at; why = Str }) (octets_at b.0.0 b.0.1 >>= λ c. tail b.0 c) (t, s2) b.2 in
    let c = bind_ok (octets_at b.0.0 b.0.1) (λ c. tail b.0 c) (t, s2) g.1 in
    let d = bind_ok (without_nul at (b.0.0 - 1) c.0.0) (λ u. reading u c.0.1) (t, s2) c.2 in
    let k = number_gives 4 o 4 s b.0.1 b.0.0 h b.1 in
    let m = octets_gives b.0.0 b.0.1 c.0.1 c.0.0 k.0 c.1 in
    let q = ok_parts d.0 t c.0.1 s2 d.2 in
    let w = clean_ok at (b.0.0 - 1) c.0.0 d.0 d.1 in
    let is : take (b.0.0 - 1) c.0.0 ≡ t = w.0 ∙ q.0 in
    (ap (λ (z : Spot). small z.rest) (sym q.1) ∙ m.0, ap (λ (z : List ℕ). small z && not (has (λ c. c == 0) z)) (sym is) ∙ and_from (small (take (b.0.0 - 1) c.0.0)) (not (has (λ c. c == 0) (take (b.0.0 - 1) c.0.0))) (small_take (b.0.0 - 1) c.0.0 m.1) (not_from_false _ w.1))

-- ---- one after another, and regions

pub each_gives : {A : Type 0} (f : Spot → Reading A) (p : A → Bool) → Gives f (λ x. p x ≡ true) → (n : ℕ) → Gives (each_at n f) (λ xs. (all p xs ≡ true) × (length xs ≡ n))
unfolding each_at
each_gives f p c zero s s2 xs h e =
    let q = ok_parts [] xs s s2 e in
    (ap (λ (z : Spot). small z.rest) (sym q.1) ∙ h, (ap (all p) (sym q.0), ap length (sym q.0)))
each_gives f p c (suc n) s s2 xs h e =
    let a = bind_ok (f s) (λ x. each_at n f x.1 >>= λ ys. reading (x.0 ∷ ys.0) ys.1) (xs, s2) e in
    let b = bind_ok (each_at n f a.0.1) (λ ys. reading (a.0.0 ∷ ys.0) ys.1) (xs, s2) a.2 in
    let k = c s a.0.1 a.0.0 h a.1 in
    let r = each_gives f p c n a.0.1 b.0.1 b.0.0 k.0 b.1 in
    let q = ok_parts (a.0.0 ∷ b.0.0) xs b.0.1 s2 b.2 in
    (ap (λ (z : Spot). small z.rest) (sym q.1) ∙ r.0, (ap (all p) (sym q.0) ∙ and_from (p a.0.0) (all p b.0.0) k.1 r.1.0, omega (arith, ap length q.0, r.1.1)))

pub counted_gives : {A : Type 0} (o : Order) (f : Spot → Reading A) (p : A → Bool) → Gives f (λ x. p x ≡ true) → Gives (counted_at o f) (λ xs. all p xs ≡ true)
unfolding counted_at
counted_gives o f p c s s2 xs h e =
    let b = bind_ok (number_at 4 o 4 s) (λ n. each_at n.0 f n.1) (xs, s2) e in
    let r = each_gives f p c b.0.0 b.0.1 s2 xs (number_gives 4 o 4 s b.0.1 b.0.0 h b.1).0 b.2 in
    (r.0, r.1.0)

pub dheader_gives : (o : Order) → Gives (dheader o) (λ n. Unit {0})
unfolding dheader
dheader_gives o s s2 n h e =
    let b = bind_ok (number_at 4 o 4 s) _ _ e in
    let g = guard_ok (nat_lt (length b.0.1.rest) b.0.0) _ _ _ b.2 in
    let p = ok_parts b.0.0 n b.0.1 s2 g.1 in
    (ap (λ (z : Spot). small z.rest) (sym p.1) ∙ (number_gives 4 o 4 s b.0.1 b.0.0 h b.1).0, tt)

pub passing_gives : {A : Type 0} (n : ℕ) (f : Spot → Reading A) (R : A → Type 0) → Gives f R → Gives (passing n f) R
unfolding passing
passing_gives n f R c s s2 x h e =
    let b = bind_ok (f (front n s)) (λ z. reading z.0 (step n s)) (x, s2) e in
    let k = c (front n s) b.0.1 b.0.0 (small_take n s.rest h) b.1 in
    let p = ok_parts b.0.0 x (step n s) s2 b.2 in
    (ap (λ (z : Spot). small z.rest) (sym p.1) ∙ small_step n s h, subst R p.0 k.1)

pub filling_gives : {A : Type 0} (n : ℕ) (f : Spot → Reading A) (R : A → Type 0) → Gives f R → Gives (filling n f) R
unfolding filling
filling_gives n f R c s s2 x h e =
    let b = bind_ok (f (front n s)) (λ z. is_used_up z >>= λ y. reading y (step n s)) (x, s2) e in
    let d = bind_ok (is_used_up b.0) (λ y. reading y (step n s)) (x, s2) b.2 in
    let z = used_up_ok b.0 d.0 d.1 in
    let k = c (front n s) b.0.1 b.0.0 (small_take n s.rest h) b.1 in
    let p = ok_parts d.0 x (step n s) s2 d.2 in
    (ap (λ (y : Spot). small y.rest) (sym p.1) ∙ small_step n s h, subst R (z.1 ∙ p.0) k.1)

pub collection_gives : {A : Type 0} (plain : Bool) (o : Order) (f : Spot → Reading A) (R : A → Type 0) → Gives f R → Gives (collection_at plain o f) R
unfolding collection_at
collection_gives true o f R c s s2 x h e = c s s2 x h e
collection_gives false o f R c s s2 x h e =
    let b = bind_ok (dheader o s) (λ n. filling n.0 f n.1) (x, s2) e in
    filling_gives b.0.0 f R c b.0.1 s2 x (dheader_gives o s b.0.1 b.0.0 h b.1).0 b.2

pub region_gives : {A : Type 0} (o : Order) (f : Spot → Reading A) (R : A → Type 0) → Gives f R → Gives (λ s. dheader o s >>= λ n. passing n.0 f n.1) R
region_gives o f R c s s2 x h e =
    let b = bind_ok (dheader o s) (λ n. passing n.0 f n.1) (x, s2) e in
    passing_gives b.0.0 f R c b.0.1 s2 x (dheader_gives o s b.0.1 b.0.0 h b.1).0 b.2
