-- What a reading takes: how many octets, and what holds of what it read and their number.
use Rattle.std.proofs.Common.{◌≡◌, ℕ, zero, suc, ◌+◌, ◌-◌, ◌*◌, ◌≤◌, Bool, true, false, cond, not, ◌||◌, List, [], ◌∷◌, length, take, min, Result, Ok, Err, refl, ap, subst, ◌∙◌, arith, nat_lt, ◌==◌}
use Rattle.std.proofs.lemmas.Bool.{eqb-true, eqb-false, ltb-false}
use Rattle.std.proofs.lemmas.List.{length-drop, length-take, length-take-le}
use Rattle.xt_shapes.specs.declared.leaves.Order.{Order}
use Rattle.xt_shapes.specs.declared.leaves.Primitive.{Primitive}
use Rattle.xt_shapes.specs.declared.leaves.Primitive.TheVariants.{Boolean, Byte, Int8, Uint8, Int16, Uint16, Int32, Uint32, Int64, Uint64, Float32, Float64, Char8}
use Rattle.xt_shapes.specs.Lists.{has}
use Rattle.xt_shapes.specs.Shape.{Shape, prim, enumeration, bitmask}
use Rattle.xt_shapes.specs.Sizes.{size, enum_size, mask_size}
use Rattle.xcdr_model.specs.declared.malformed.Fault.{Fault}
use Rattle.xcdr_model.specs.declared.malformed.Why.TheVariants.{LengthRest, Str}
use Rattle.xcdr_model.specs.Numbers.{padding}
use Rattle.xcdr_model.specs.Reading.{Spot, Reading, fault_at, ◌>>=◌, step, number_at, octets_at, front, passing, is_used_up, filling, dheader, each_at}
use Rattle.xcdr_model.specs.Xcdr2Reading.{done, scalar_at, text_at, holder, without_nul, collection_at, counted_at}
use Rattle.shape_laws.proofs.Leaves.{enum_size_pos}
use Rattle.shape_laws.proofs.Nonempty.{mask_size_pos}

abbrev pub reading : {A : Type 0} → A → Spot → Reading A
reading x s = Ok (x, s)

abbrev pub Costs : {A : Type 0} → (Spot → Reading A) → (A → ℕ → Type 0) → Type 0
Costs {A = A} f R = (s s2 : Spot) (x : A) → f s ≡ reading x s2 → (u : ℕ) × (length s.rest ≡ u + length s2.rest) × R x u

pub bind_ok : {A B : Type 0} (r : Result A Fault) (f : A → Result B Fault) (y : B) → (r >>= f) ≡ Ok y → (x : A) × (r ≡ Ok x) × (f x ≡ Ok y)
unfolding ◌>>=◌
bind_ok (Ok x) f y e = (x, refl, e)
bind_ok (Err d) f y e = absurd cc

pub guard_ok : {A : Type 0} (c : Bool) (d : Fault) (r : Result A Fault) (y : A) → cond c (Err d) r ≡ Ok y → (c ≡ false) × (r ≡ Ok y)
guard_ok true d r y e = absurd cc
guard_ok false d r y e = (refl, e)

abbrev what_in : {A : Type 0} → A → Reading A → A
what_in d (Ok x) = x.0
what_in d (Err f) = d

abbrev spot_in : {A : Type 0} → Spot → Reading A → Spot
spot_in d (Ok x) = x.1
spot_in d (Err f) = d

pub ok_parts : {A : Type 0} (x y : A) (s s2 : Spot) → reading x s ≡ reading y s2 → (x ≡ y) × (s ≡ s2)
ok_parts x y s s2 e = (ap (what_in x) e, ap (spot_in s) e)

pub step_length : (n : ℕ) (s : Spot) → n ≤ length s.rest → length s.rest ≡ n + length (step n s).rest
unfolding step
step_length n s le = omega (arith, le, length-drop n s.rest)

pub number_costs : (most : ℕ) (o : Order) (k : ℕ) → Costs (number_at most o k) (λ n u. k ≤ u)
unfolding number_at
number_costs most o k s s2 n e =
    let pad = padding (min k most) s.at in
    let g = guard_ok (nat_lt (length s.rest) (pad + k)) _ _ _ e in
    let p = ok_parts _ n (step (pad + k) s) s2 g.1 in
    let le = ltb-false (length s.rest) (pad + k) g.0 in
    (pad + k, step_length (pad + k) s le ∙ ap (λ (z : Spot). pad + k + length z.rest) p.1, omega arith)

pub octets_costs : (n : ℕ) → Costs (octets_at n) (λ t u. u ≡ n)
unfolding octets_at
octets_costs n s s2 t e =
    let g = guard_ok (nat_lt (length s.rest) n) _ _ _ e in
    let p = ok_parts _ t (step n s) s2 g.1 in
    (n, step_length n s (ltb-false (length s.rest) n g.0) ∙ ap (λ (z : Spot). n + length z.rest) p.1, refl)

pub done_costs : {A B : Type 0} (g : A → B) (f : Spot → Reading A) (R : A → ℕ → Type 0) (R2 : B → ℕ → Type 0) → Costs f R → ((x : A) (u : ℕ) → R x u → R2 (g x) u) → Costs (λ s. done g (f s)) R2
done_costs {B = B} g f R R2 c h s s2 y e =
    let b = bind_ok (f s) (λ x. Ok (g x.0, x.1)) _ e in
    let p = ok_parts (g b.0.0) y b.0.1 s2 b.2 in
    let k = c s b.0.1 b.0.0 b.1 in
    (k.0, k.1 ∙ ap (λ (z : Spot). k.0 + length z.rest) p.1, subst_what p.0 k.0 (h b.0.0 k.0 k.2))
  where
    subst_what : {x y : B} → x ≡ y → (u : ℕ) → R2 x u → R2 y u
    subst_what e u r = subst (λ (z : B). R2 z u) e r

-- ---- numbers and texts

size_pos : (p : Primitive) → 1 ≤ size p
size_pos Boolean = omega arith
size_pos Byte = omega arith
size_pos Int8 = omega arith
size_pos Uint8 = omega arith
size_pos Int16 = omega arith
size_pos Uint16 = omega arith
size_pos Int32 = omega arith
size_pos Uint32 = omega arith
size_pos Int64 = omega arith
size_pos Uint64 = omega arith
size_pos Float32 = omega arith
size_pos Float64 = omega arith
size_pos Char8 = omega arith

pub scalar_costs : (most : ℕ) (o : Order) (t : Shape) → Costs (scalar_at most o t) (λ i u. 1 ≤ u)
unfolding scalar_at
scalar_costs most o (prim p) s s2 i e =
    let b = bind_ok (number_at most o (size p) s) _ _ e in
    let d = bind_ok _ _ _ b.2 in
    let k = number_costs most o (size p) s b.0.1 b.0.0 b.1 in
    let q = ok_parts _ i b.0.1 s2 d.2 in
    (k.0, k.1 ∙ ap (λ (z : Spot). k.0 + length z.rest) q.1, omega (arith, k.2, size_pos p))
scalar_costs most o (enumeration x bits ls) s s2 i e =
    let b = bind_ok (number_at most o (enum_size bits) s) _ _ e in
    let k = number_costs most o (enum_size bits) s b.0.1 b.0.0 b.1 in
    let q = ok_parts _ i b.0.1 s2 b.2 in
    (k.0, k.1 ∙ ap (λ (z : Spot). k.0 + length z.rest) q.1, omega (arith, k.2, enum_size_pos bits))
scalar_costs most o (bitmask bits fs) s s2 i e =
    let b = bind_ok (number_at most o (mask_size bits) s) _ _ e in
    let g = guard_ok _ _ _ _ b.2 in
    let k = number_costs most o (mask_size bits) s b.0.1 b.0.0 b.1 in
    let q = ok_parts _ i b.0.1 s2 g.1 in
    (k.0, k.1 ∙ ap (λ (z : Spot). k.0 + length z.rest) q.1, omega (arith, k.2, mask_size_pos bits))
scalar_costs most o _ s s2 i e = absurd cc

kept_length : (at n : ℕ) (t u : List ℕ) → without_nul at n t ≡ Ok u → length u ≤ n
kept_length at n t u e =
    let g = guard_ok (has (λ b. b == 0) (take n t) || not (has (λ b. b == 0) t)) (record { at = at; why = Str }) (Ok (take n t)) u e in
    let z : take n t ≡ u = cc in omega (arith, length-take n t, ap (λ (x : List ℕ). length x) z)

-- its count, its octets and NUL
pub text_costs : (o : Order) → Costs (text_at o) (λ t u. length t + 5 ≤ u)
unfolding text_at
text_costs o s s2 t e =
    let at = holder 4 4 s in
    let tail = λ (n : ℕ × Spot) (c : List ℕ × Spot). without_nul at (n.0 - 1) c.0 >>= λ u. reading u c.1 in
    let b = bind_ok (number_at 4 o 4 s) (λ n. cond (n.0 == 0) (fault_at at Str) (octets_at n.0 n.1 >>= λ c. tail n c)) (t, s2) e in
    let g = guard_ok (b.0.0 == 0) (record { at = at; why = Str }) (octets_at b.0.0 b.0.1 >>= λ c. tail b.0 c) (t, s2) b.2 in
    let c = bind_ok (octets_at b.0.0 b.0.1) (λ c. tail b.0 c) (t, s2) g.1 in
    let d = bind_ok (without_nul at (b.0.0 - 1) c.0.0) (λ u. reading u c.0.1) (t, s2) c.2 in
    let k = number_costs 4 o 4 s b.0.1 b.0.0 b.1 in
    let m = octets_costs b.0.0 b.0.1 c.0.1 c.0.0 c.1 in
    let q = ok_parts d.0 t c.0.1 s2 d.2 in
    (k.0 + m.0, omega (arith, k.1, m.1, ap (λ (z : Spot). length z.rest) q.1), omega (arith, k.2, m.2, eqb-false b.0.0 0 g.0, kept_length at (b.0.0 - 1) c.0.0 d.0 d.1, ap (λ (x : List ℕ). length x) q.0))

-- ---- one after another

abbrev pub total : {A : Type 0} → (A → ℕ) → List A → ℕ
total m [] = 0
total m (x ∷ xs) = m x + total m xs

pub each_costs : {A : Type 0} (f : Spot → Reading A) (m : A → ℕ) (w : ℕ) → Costs f (λ x u. (1 ≤ u) × (m x + 128 ≤ w + 128 * u)) → (n : ℕ) → Costs (each_at n f) (λ xs u. (n ≤ u) × (total m xs + 128 * n ≤ n * w + 128 * u))
unfolding each_at
each_costs f m w c zero s s2 xs e =
    let p = ok_parts [] xs s s2 e in
    (0, omega (arith, ap (λ (z : Spot). length z.rest) p.1), (omega arith, omega (arith, ap (total m) p.0)))
each_costs f m w c (suc n) s s2 xs e =
    let a = bind_ok (f s) _ _ e in
    let b = bind_ok (each_at n f a.0.1) _ _ a.2 in
    let k = c s a.0.1 a.0.0 a.1 in
    let r = each_costs f m w c n a.0.1 b.0.1 b.0.0 b.1 in
    let p = ok_parts (a.0.0 ∷ b.0.0) xs b.0.1 s2 b.2 in
    (k.0 + r.0, omega (arith, k.1, r.1, ap (λ (z : Spot). length z.rest) p.1), (omega (arith, k.2.0, r.2.0), omega (arith, k.2.1, r.2.1, ap (total m) p.0)))

pub counted_costs : {A : Type 0} (o : Order) (f : Spot → Reading A) (m : A → ℕ) → Costs f (λ x u. (1 ≤ u) × (m x + 128 ≤ 128 + 128 * u)) → Costs (counted_at o f) (λ xs u. (1 ≤ u) × (total m xs + 128 ≤ 128 * u))
unfolding counted_at
counted_costs o f m c s s2 xs e =
    let b = bind_ok (number_at 4 o 4 s) _ _ e in
    let k = number_costs 4 o 4 s b.0.1 b.0.0 b.1 in
    let r = each_costs f m 128 c b.0.0 b.0.1 s2 xs b.2 in
    (k.0 + r.0, omega (arith, k.1, r.1), (omega (arith, k.2), omega (arith, k.2, r.2.1)))

-- ---- regions

pub front_length : (n : ℕ) (s : Spot) → n ≤ length s.rest → length (front n s).rest ≡ n
front_length n s le = length-take-le n s.rest le

pub dheader_costs : (o : Order) (s s2 : Spot) (n : ℕ) → dheader o s ≡ reading n s2 → (u : ℕ) × (length s.rest ≡ u + length s2.rest) × (4 ≤ u) × (n ≤ length s2.rest)
unfolding dheader
dheader_costs o s s2 n e =
    let b = bind_ok (number_at 4 o 4 s) _ _ e in
    let g = guard_ok (nat_lt (length b.0.1.rest) b.0.0) _ _ _ b.2 in
    let k = number_costs 4 o 4 s b.0.1 b.0.0 b.1 in
    let p = ok_parts b.0.0 n b.0.1 s2 g.1 in
    (k.0, k.1 ∙ ap (λ (z : Spot). k.0 + length z.rest) p.1, k.2, omega (arith, ltb-false (length b.0.1.rest) b.0.0 g.0, p.0, ap (λ (z : Spot). length z.rest) p.1))

pub passing_costs : {A : Type 0} (n : ℕ) (f : Spot → Reading A) (R : A → ℕ → Type 0) → Costs f R → (s s2 : Spot) (x : A) → n ≤ length s.rest → passing n f s ≡ reading x s2 → (u : ℕ) × (u ≤ n) × R x u × (length s.rest ≡ n + length s2.rest)
unfolding passing
passing_costs {A = A} n f R c s s2 x le e =
    let b = bind_ok (f (front n s)) _ _ e in
    let k = c (front n s) b.0.1 b.0.0 b.1 in
    let p = ok_parts b.0.0 x (step n s) s2 b.2 in
    (k.0, omega (arith, k.1, front_length n s le), subst (λ (z : A). R z k.0) p.0 k.2, step_length n s le ∙ ap (λ (z : Spot). n + length z.rest) p.1)

pub used_up_ok : {A : Type 0} (x : A × Spot) (y : A) → is_used_up x ≡ Ok y → (length x.1.rest ≡ 0) × (x.0 ≡ y)
used_up_ok x y e = by_test (length x.1.rest == 0) refl e
  where
    by_test : (c : Bool) → (length x.1.rest == 0) ≡ c → cond c (Ok x.0) (fault_at x.1.at LengthRest) ≡ Ok y → (length x.1.rest ≡ 0) × (x.0 ≡ y)
    by_test true z e = (eqb-true (length x.1.rest) 0 z, cc)
    by_test false z e = absurd cc

pub filling_costs : {A : Type 0} (n : ℕ) (f : Spot → Reading A) (R : A → ℕ → Type 0) → Costs f R → (s s2 : Spot) (x : A) → n ≤ length s.rest → filling n f s ≡ reading x s2 → R x n × (length s.rest ≡ n + length s2.rest)
unfolding filling
filling_costs {A = A} n f R c s s2 x le e =
    let b = bind_ok (f (front n s)) _ _ e in
    let d = bind_ok (is_used_up b.0) _ _ b.2 in
    let z = used_up_ok b.0 d.0 d.1 in
    let k = c (front n s) b.0.1 b.0.0 b.1 in
    let p = ok_parts d.0 x (step n s) s2 d.2 in
    let all : k.0 ≡ n = omega (arith, k.1, front_length n s le, z.0) in
    (subst (λ (y : A). R y n) (z.1 ∙ p.0) (subst (λ (m : ℕ). R b.0.0 m) all k.2), step_length n s le ∙ ap (λ (y : Spot). n + length y.rest) p.1)

abbrev pub Grows : {A : Type 0} → (A → ℕ → Type 0) → Type 0
Grows {A = A} R = (x : A) (m n : ℕ) → R x m → m ≤ n → R x n

pub collection_costs : {A : Type 0} (plain : Bool) (o : Order) (f : Spot → Reading A) (R : A → ℕ → Type 0) → Grows R → Costs f R → Costs (collection_at plain o f) R
unfolding collection_at
collection_costs true o f R g c s s2 x e = c s s2 x e
collection_costs false o f R g c s s2 x e =
    let b = bind_ok (dheader o s) _ _ e in
    let d = dheader_costs o s b.0.1 b.0.0 b.1 in
    let k = filling_costs b.0.0 f R c b.0.1 s2 x d.3 b.2 in
    (d.0 + b.0.0, omega (arith, d.1, k.1), g x b.0.0 (d.0 + b.0.0) k.0 (omega arith))
