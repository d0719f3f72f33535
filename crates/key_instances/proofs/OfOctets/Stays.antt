-- A place past a hash stays past it, and values take octets.
use Rattle.std.proofs.Common.{◌≡◌, ℕ, zero, suc, ◌+◌, ◌≤◌, ◌<◌, min, Bool, true, false, cond, ◌==◌, nat_le, List, ◌∷◌, Option, Some, None, IfSome, refl, sym, ap, ◌∙◌, inl, inr, arith}
use Rattle.std.proofs.lemmas.Bool.{cases_Bool, cases_lt}
use Rattle.xt_shapes.specs.declared.leaves.Primitive.{Primitive}
use Rattle.xt_shapes.specs.Keyable.{is_leaf}
use Rattle.xt_shapes.specs.Shape.{Shape, prim, str, enumeration, bitmask, sequence, array, map_of, structure, union, Members, no_members, member, product}
use Rattle.xt_shapes.specs.Sizes.{size, enum_size, mask_size}
use Rattle.xcdr_model.specs.KeyOctets.{and_on, after, repeated, headed, end_of, end_of_members, members_from}
use Rattle.xcdr_model.specs.Xcdr2Reading.{is_primitive}
use Rattle.key_instances.specs.octets.Ends.{past, items_end, behind_count, ends}

-- ---- what begins past a hash ends past it

abbrev Stays : (ℕ → Option ℕ) → Type 0
Stays f = (q : ℕ) → 17 ≤ q → past (f q) ≡ 17

abbrev Goes : (ℕ → ℕ) → Type 0
Goes f = (q : ℕ) → q ≤ f q

pub after_goes : (k : ℕ) → Goes (after k)
after_goes k q = omega arith

past_at : (p : ℕ) → 17 ≤ p → past (Some p) ≡ 17
past_at p le = omega (arith, le)

far : (p : ℕ) → past (Some p) ≡ 17 → 17 ≤ p
far p e = omega (arith, e)

pub past_most : (o : Option ℕ) → past o ≤ 17
past_most None = omega arith
past_most (Some p) = omega arith

and_stays : (o : Option ℕ) (f : ℕ → Option ℕ) → past o ≡ 17 → Stays f → past (and_on o f) ≡ 17
and_stays None f e s = refl
and_stays (Some q) f e s = s q (far q e)

repeated_stays : (n : ℕ) (f : ℕ → Option ℕ) → Stays f → Stays (repeated n f)
repeated_stays zero f s q le = past_at q le
repeated_stays (suc n) f s q le = and_stays (f q) (repeated n f) (s q le) (repeated_stays n f s)

headed_goes : (b : Bool) → Goes (headed b)
headed_goes true q = omega arith
headed_goes false q = after_goes 4 q

behind_goes : (b : Bool) → Goes (behind_count b)
behind_goes true q = after_goes 4 q
behind_goes false q = omega arith

mutual
  pub end_stays : (t : Shape) → Stays (end_of t)
  end_stays (prim p) q le = past_at (after (size p) q) (omega (arith, le, after_goes (size p) q))
  end_stays (str bound) q le = elim (cases_Bool (bound == 0)) [
    | inl y ↦ ap (λ (b : Bool). past (cond b None (Some (after 4 q + bound + 1)))) y
    | inr m ↦ ap (λ (b : Bool). past (cond b None (Some (after 4 q + bound + 1)))) m ∙ past_at (after 4 q + bound + 1) (omega (arith, le, after_goes 4 q))
  ]
  end_stays (enumeration e bits ls) q le = past_at (after (enum_size bits) q) (omega (arith, le, after_goes (enum_size bits) q))
  end_stays (bitmask bits fs) q le = past_at (after (mask_size bits) q) (omega (arith, le, after_goes (mask_size bits) q))
  end_stays (sequence bound tc t) q le =
      let start = after 4 (headed (is_primitive t) q) in
      let rest = repeated bound (λ k. end_of t k) start in
      elim (cases_Bool (bound == 0)) [
        | inl y ↦ ap (λ (b : Bool). past (cond b None rest)) y
        | inr m ↦ ap (λ (b : Bool). past (cond b None rest)) m ∙ repeated_stays bound (end_of t) (end_stays t) start (omega (arith, le, headed_goes (is_primitive t) q, after_goes 4 (headed (is_primitive t) q)))
      ]
  end_stays (array dims tc t) q le = repeated_stays (product dims) (end_of t) (end_stays t) (headed (is_primitive t) q) (omega (arith, le, headed_goes (is_primitive t) q))
  end_stays (map_of bound kc k vc t) q le = refl
  end_stays (structure e ms) q le = members_stay ms q le
  end_stays (union e k d cs) q le = refl

  pub members_stay : (ms : Members) → Stays (end_of_members ms)
  members_stay no_members q le = past_at q le
  members_stay (member h t ms) q le = and_stays (end_of t q) (end_of_members ms) (end_stays t q le) (members_stay ms)

-- ---- so a place may be taken for 17 where it is past a hash

pub and_past : (o : Option ℕ) (f : ℕ → Option ℕ) → Stays f → past (and_on o f) ≡ past (f (past o))
and_past None f s = sym (s 17 (omega arith))
and_past (Some q) f s = elim (cases_lt q 17) [
  | inl below ↦ ap (λ (k : ℕ). past (f k)) (let same : q ≡ min q 17 = omega (arith, below) in same)
  | inr beyond ↦ s q beyond ∙ sym (ap (λ (k : ℕ). past (f k)) (let all : min q 17 ≡ 17 = omega (arith, beyond) in all) ∙ s 17 (omega arith))
]

pub at_past : (f : ℕ → Option ℕ) → Stays f → (p : ℕ) → past (f (min p 17)) ≡ past (f p)
at_past f s p = sym (and_past (Some p) f s)

-- a number behind a place that was taken for 17
pub number_past : (f : ℕ → ℕ) → Goes f → (p : ℕ) → min (f (min p 17)) 17 ≡ min (f p) 17
number_past f g p = at_past (λ q. Some (f q)) (λ q le. past_at (f q) (omega (arith, le, g q))) p

pub behind_past : (b : Bool) (p : ℕ) → min (behind_count b (min p 17)) 17 ≡ min (behind_count b p) 17
behind_past b p = number_past (behind_count b) (behind_goes b) p

pub items_past : (t : Shape) (n p : ℕ) → past (items_end t n (min p 17)) ≡ past (items_end t n p)
items_past t n p = at_past (items_end t n) (repeated_stays n (end_of t) (end_stays t)) p

pub items_far : (t : Shape) (n : ℕ) → past (items_end t n 17) ≡ 17
items_far t n = repeated_stays n (end_of t) (end_stays t) 17 (omega arith)

pub items_next : (t : Shape) (n p : ℕ) → past (items_end t (suc n) p) ≡ past (items_end t n (past (end_of t p)))
items_next t n p = and_past (end_of t p) (items_end t n) (repeated_stays n (end_of t) (end_stays t))

-- ---- each value takes an octet

pub size_some : (p : Primitive) → 1 ≤ size p
size_some Primitive.Boolean = omega arith
size_some Primitive.Byte = omega arith
size_some Primitive.Int8 = omega arith
size_some Primitive.Uint8 = omega arith
size_some Primitive.Int16 = omega arith
size_some Primitive.Uint16 = omega arith
size_some Primitive.Int32 = omega arith
size_some Primitive.Uint32 = omega arith
size_some Primitive.Int64 = omega arith
size_some Primitive.Uint64 = omega arith
size_some Primitive.Float32 = omega arith
size_some Primitive.Float64 = omega arith
size_some Primitive.Char8 = omega arith

pub enum_some : (bits : ℕ) → 1 ≤ enum_size bits
enum_some bits = by (nat_le bits 8) (nat_le bits 16)
  where
    by : (a b : Bool) → 1 ≤ cond a 1 (cond b 2 4)
    by true b = omega arith
    by false true = omega arith
    by false false = omega arith

pub mask_some : (bits : ℕ) → 1 ≤ mask_size bits
mask_some bits = by (nat_le bits 8) (nat_le bits 16) (nat_le bits 32)
  where
    by : (a b c : Bool) → 1 ≤ cond a 1 (cond b 2 (cond c 4 8))
    by true b c = omega arith
    by false true c = omega arith
    by false false true = omega arith
    by false false false = omega arith

-- a value of a leaf ends behind where it begins
pub grows : (t : Shape) (p : ℕ) → is_leaf t ≡ true → IfSome (end_of t p) (λ q. p < q)
grows (prim k) p e = omega (arith, size_some k)
grows (str bound) p e = by (bound == 0)
  where
    by : (b : Bool) → IfSome (cond b None (Some (after 4 p + bound + 1))) (λ q. p < q)
    by true = tt
    by false = omega (arith, after_goes 4 p)
grows (enumeration k bits ls) p e = omega (arith, enum_some bits)
grows (bitmask bits fs) p e = omega (arith, mask_some bits)
grows (sequence bound tc t) p e = absurd cc
grows (array dims tc t) p e = absurd cc
grows (map_of bound kc k vc t) p e = absurd cc
grows (structure k ms) p e = absurd cc
grows (union k y d cs) p e = absurd cc

-- many of them end past a hash
many : (t : Shape) → is_leaf t ≡ true → (n p : ℕ) → 17 ≤ n + p → past (items_end t n p) ≡ 17
many t leaf zero p le = past_at p (omega (arith, le))
many t leaf (suc n) p le = by (end_of t p) (grows t p leaf) (λ q e. many t leaf n q (omega (arith, le, e)))
  where
    by : (o : Option ℕ) → IfSome o (λ q. p < q) → ((q : ℕ) → p < q → past (items_end t n q) ≡ 17) → past (and_on o (items_end t n)) ≡ 17
    by None e rest = refl
    by (Some q) e rest = rest q e

-- so a great number may be taken for a smaller one
pub items_least : (t : Shape) → is_leaf t ≡ true → (m n p : ℕ) → 17 ≤ m → past (items_end t (min m n) p) ≡ past (items_end t n p)
items_least t leaf m n p le = elim (cases_lt m n) [
  | inl more ↦ many t leaf (min m n) p (omega (arith, le, more)) ∙ sym (many t leaf n p (omega (arith, le, more)))
  | inr few ↦ ap (λ (k : ℕ). past (items_end t k p)) (let same : min m n ≡ n = omega (arith, few) in same)
]

-- ---- parts one after another

pub ends_past : (xs : List (ℕ × Shape)) (p : ℕ) → 17 ≤ p → past (ends xs p) ≡ 17
ends_past xs p le = members_stay (members_from xs) p le

pub ends_next : (id : ℕ) (t : Shape) (xs : List (ℕ × Shape)) (p : ℕ) → past (ends ((id, t) ∷ xs) p) ≡ past (ends xs (past (end_of t p)))
ends_next id t xs p = and_past (end_of t p) (ends xs) (members_stay (members_from xs))
