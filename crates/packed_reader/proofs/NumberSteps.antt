-- Numbers of a primitive, one after another, are those that their octets hold.
use Rattle.std.proofs.Common.{◌≡◌, refl, sym, ap, ap₂, subst, ◌∙◌, ℕ, zero, suc, ◌+◌, ◌-◌, ◌*◌, ◌≤◌, min, cond, Bool, true, false, ◌&&◌, ◌||◌, ◌==◌, List, [], ◌∷◌, map, length, take, drop, nat_lt, Ok, Err, arith, length-drop}
use Rattle.std.proofs.lemmas.Bool.{ne_eqb}
use Rattle.std.proofs.lemmas.List.{drop-drop, drop-take, take-take}
use Rattle.xt_shapes.specs.declared.leaves.Order.{Order}
use Rattle.xt_shapes.specs.declared.leaves.Order.TheVariants.{Big, Little}
use Rattle.xt_shapes.specs.declared.leaves.Primitive.{Primitive}
use Rattle.xt_shapes.specs.declared.leaves.Primitive.TheVariants as prims
use Rattle.xt_shapes.specs.declared.leaves.Rep.{Rep}
use Rattle.xt_shapes.specs.Lists.{has}
use Rattle.xt_shapes.specs.Shape.{prim}
use Rattle.xt_shapes.specs.Sizes.{size, is_signed, is_boolean}
use Rattle.xt_shapes.specs.Vals.{Val, int}
use Rattle.xcdr_model.specs.declared.malformed.Fault.{Fault}
use Rattle.xcdr_model.specs.declared.malformed.Why.TheVariants.{Short}
use Rattle.xcdr_model.specs.Numbers.{number, padding, with_sign}
use Rattle.xcdr_model.specs.Reading.{Spot, Reading, ◌>>=◌, octets_at, each_at, step}
use Rattle.packed_reader.specs.View.{number_of, numbers_in}
use Rattle.packed_reader.specs.Reads.{most, plain, Reads, ReadsEach}
use Rattle.packed_reader.proofs.Steps.{number_ahead}
use Rattle.packed_reader.proofs.Alignment.{aligned_more, aligned_after, size_some}
use Rattle.packed_reader.proofs.LeafSteps.{prim_number_is, prim_is}

-- ---- steps

step_none : (n : ℕ) (s : Spot) → n ≡ 0 → step n s ≡ s
unfolding step
step_none n s e =
    let at : s.at + 0 ≡ s.at = omega arith in
    rw (e, at) refl

step_rest : (n : ℕ) (s : Spot) → (step n s).rest ≡ drop n s.rest
unfolding step
step_rest n s = refl

step_step : (n m : ℕ) (s : Spot) → step m (step n s) ≡ step (n + m) s
unfolding step
step_step n m s =
    let at : s.at + n + m ≡ s.at + (n + m) = omega arith in
    let left : drop m (drop n s.rest) ≡ drop (n + m) s.rest = drop-drop m n s.rest ∙ ap (λ (k : ℕ). drop k s.rest) (omega arith) in
    rw (at, left) refl

next_aligned : (r : Rep) (p : Primitive) (s : Spot) → padding (min (size p) (most r)) s.at ≡ 0 → padding (min (size p) (most r)) (step (size p) s).at ≡ 0
unfolding step
next_aligned r p s e = aligned_more r p s.at e

first_aligned : (r : Rep) (p : Primitive) (pad : ℕ) (s : Spot) → pad ≡ padding (min (size p) (most r)) s.at → padding (min (size p) (most r)) (step pad s).at ≡ 0
unfolding step
first_aligned r p pad s is = rw is (aligned_after r p s.at)

-- ---- octets that are no booleans

wrong : Primitive → Order → ℕ → List ℕ → Bool
wrong p o zero ys = false
wrong p o (suc n) ys = (is_boolean p && nat_lt 1 (number o (take (size p) ys))) || wrong p o n (drop (size p) ys)

neither : (a b : Bool) → (a || b) ≡ false → (a ≡ false) × (b ≡ false)
neither true b e = absurd cc
neither false b e = (refl, e)

never_wrong : (p : Primitive) (o : Order) (n : ℕ) (ys : List ℕ) → is_boolean p ≡ false → wrong p o n ys ≡ false
unfolding wrong
never_wrong p o zero ys none = refl
never_wrong p o (suc n) ys none = rw (none, never_wrong p o n (drop (size p) ys) none) refl

one_octet : (o : Order) (y : ℕ) → number o (y ∷ []) ≡ y
unfolding number
one_octet Big y = omega arith
one_octet Little y = omega arith

truths : (o : Order) (n : ℕ) (ys : List ℕ) → has (λ b. nat_lt 1 b) (take n ys) ≡ false → n ≤ length ys → wrong prims.Boolean o n ys ≡ false
unfolding wrong
truths o zero ys none fits = refl
truths o (suc n) [] none fits = absurd (omega arith)
truths o (suc n) (y ∷ ys) none fits =
    let (here, more) = neither (nat_lt 1 y) (has (λ b. nat_lt 1 b) (take n ys)) none in
    let one : nat_lt 1 (number o (y ∷ [])) ≡ false = ap (λ (k : ℕ). nat_lt 1 k) (one_octet o y) ∙ here in
    rw (one, truths o n ys more (omega arith)) refl

all_truths : (o : Order) (n m : ℕ) (ys : List ℕ) → m ≡ n → has (λ b. nat_lt 1 b) (take m ys) ≡ false → m ≤ length ys → wrong prims.Boolean o n ys ≡ false
all_truths o n m ys is none fits = truths o n ys (ap (λ (k : ℕ). has (λ b. nat_lt 1 b) (take k ys)) (sym is) ∙ none) (omega arith)

none_wrong : (p : Primitive) (o : Order) (n : ℕ) (ys : List ℕ) → (is_boolean p && has (λ b. nat_lt 1 b) (take (n * size p) ys)) ≡ false → n * size p ≤ length ys → wrong p o n ys ≡ false
none_wrong prims.Boolean o n ys none fits = all_truths o n (n * 1) ys (omega arith) none fits
none_wrong prims.Byte o n ys none fits = never_wrong prims.Byte o n ys refl
none_wrong prims.Int8 o n ys none fits = never_wrong prims.Int8 o n ys refl
none_wrong prims.Uint8 o n ys none fits = never_wrong prims.Uint8 o n ys refl
none_wrong prims.Int16 o n ys none fits = never_wrong prims.Int16 o n ys refl
none_wrong prims.Uint16 o n ys none fits = never_wrong prims.Uint16 o n ys refl
none_wrong prims.Int32 o n ys none fits = never_wrong prims.Int32 o n ys refl
none_wrong prims.Uint32 o n ys none fits = never_wrong prims.Uint32 o n ys refl
none_wrong prims.Int64 o n ys none fits = never_wrong prims.Int64 o n ys refl
none_wrong prims.Uint64 o n ys none fits = never_wrong prims.Uint64 o n ys refl
none_wrong prims.Float32 o n ys none fits = never_wrong prims.Float32 o n ys refl
none_wrong prims.Float64 o n ys none fits = never_wrong prims.Float64 o n ys refl
none_wrong prims.Char8 o n ys none fits = never_wrong prims.Char8 o n ys refl

-- ---- one number

-- behind its padding
first_number : (r : Rep) (o : Order) (p : Primitive) (pad : ℕ) (s : Spot) → pad ≡ padding (min (size p) (most r)) s.at → pad + size p ≤ length s.rest → (is_boolean p && nat_lt 1 (number o (take (size p) (step pad s).rest))) ≡ false
    → Reads r o (prim p) s (number_of p o (take (size p) (step pad s).rest)) (step (size p) (step pad s))
unfolding step
first_number r o p pad s is fits fine =
    let k = size p in
    let at : s.at + (pad + k) ≡ s.at + pad + k = omega arith in
    let n = number o (take k (drop pad s.rest)) in
    let d = with_sign k (is_signed p) n in
    let behind : Spot = record { at = s.at + pad + k; rest = drop k (drop pad s.rest) } in
    prim_is r o p d (int d) s behind (prim_number_is r o p n d s behind (number_ahead (most r) o k pad s is fits ∙ rw at refl) fine refl) refl

one_number : (r : Rep) (o : Order) (p : Primitive) (s : Spot) → padding (min (size p) (most r)) s.at ≡ 0 → size p ≤ length s.rest → (is_boolean p && nat_lt 1 (number o (take (size p) s.rest))) ≡ false → Reads r o (prim p) s (number_of p o (take (size p) s.rest)) (step (size p) s)
one_number r o p s aligned fits fine =
    let here = step_none 0 s refl in
    let P : Spot → Type 0 = λ x. Reads r o (prim p) s (number_of p o (take (size p) x.rest)) (step (size p) x) in
    subst P here (first_number r o p 0 s (sym aligned) (omega arith) (ap (λ (x : Spot). is_boolean p && nat_lt 1 (number o (take (size p) x.rest))) here ∙ fine))

-- ---- many

each_more : (r : Rep) (o : Order) (p : Primitive) (n : ℕ) (v : Val) (vs : List Val) (s s2 s3 s4 : Spot) → Reads r o (prim p) s v s2 → ReadsEach r o (prim p) n s2 vs s3 → s3 ≡ s4 → ReadsEach r o (prim p) (suc n) s (v ∷ vs) s4
unfolding each_at ◌>>=◌
each_more r o p n v vs s s2 s3 s4 one rest same = rw (one, rest, same) refl

-- the first, whose octets begin at the second spot, and those behind it
numbers_from : (r : Rep) (o : Order) (p : Primitive) (n : ℕ) (s t : Spot) → Reads r o (prim p) s (number_of p o (take (size p) t.rest)) (step (size p) t) → ReadsEach r o (prim p) n (step (size p) t) (numbers_in p o n (step (size p) t).rest) (step (n * size p) (step (size p) t))
    → ReadsEach r o (prim p) (suc n) s (numbers_in p o (suc n) t.rest) (step (suc n * size p) t)
numbers_from r o p n s t first rest =
    let k = size p in
    let all : k + n * k ≡ suc n * k = omega arith in
    let P : List ℕ → Type 0 = λ ys. ReadsEach r o (prim p) n (step k t) (numbers_in p o n ys) (step (n * k) (step k t)) in
    each_more r o p n (number_of p o (take k t.rest)) (numbers_in p o n (drop k t.rest)) s (step k t) (step (n * k) (step k t)) (step (suc n * k) t) first (subst P (step_rest k t) rest) (step_step k (n * k) t ∙ ap (λ (j : ℕ). step j t) all)

parts_fine : (p : Primitive) (o : Order) (n : ℕ) (s : Spot) → wrong p o (suc n) s.rest ≡ false → ((is_boolean p && nat_lt 1 (number o (take (size p) s.rest))) ≡ false) × (wrong p o n (step (size p) s).rest ≡ false)
unfolding wrong step
parts_fine p o n s fine = neither (is_boolean p && nat_lt 1 (number o (take (size p) s.rest))) (wrong p o n (drop (size p) s.rest)) fine

fits_behind : (p : Primitive) (n : ℕ) (s : Spot) → suc n * size p ≤ length s.rest → (size p ≤ length s.rest) × (n * size p ≤ length (step (size p) s).rest)
unfolding step
fits_behind p n s fits = (omega arith, omega (arith, length-drop (size p) s.rest))

numbers_are : (r : Rep) (o : Order) (p : Primitive) (n : ℕ) (s : Spot) → padding (min (size p) (most r)) s.at ≡ 0 → n * size p ≤ length s.rest → wrong p o n s.rest ≡ false → ReadsEach r o (prim p) n s (numbers_in p o n s.rest) (step (n * size p) s)
unfolding each_at
numbers_are r o p zero s aligned fits fine = rw (step_none (0 * size p) s (omega arith)) refl
numbers_are r o p (suc n) s aligned fits fine =
    let (one, more) = fits_behind p n s fits in
    let (here, behind) = parts_fine p o n s fine in
    numbers_from r o p n s s (one_number r o p s aligned one here) (numbers_are r o p n (step (size p) s) (next_aligned r p s aligned) more behind)

-- where the first stands behind its padding
padded_numbers : (r : Rep) (o : Order) (p : Primitive) (n pad : ℕ) (s : Spot) → pad ≡ padding (min (size p) (most r)) s.at → suc n * size p ≤ length (step pad s).rest → wrong p o (suc n) (step pad s).rest ≡ false
    → ReadsEach r o (prim p) (suc n) s (numbers_in p o (suc n) (step pad s).rest) (step (suc n * size p) (step pad s))
padded_numbers r o p n pad s is fits fine =
    let t = step pad s in
    let (one, more) = fits_behind p n t fits in
    let (here, behind) = parts_fine p o n t fine in
    let len : length t.rest ≡ length s.rest - pad = ap (λ (l : List ℕ). length l) (step_rest pad s) ∙ length-drop pad s.rest in
    let all : pad + size p ≤ length s.rest = omega (arith, size_some p) in
    numbers_from r o p n s t (first_number r o p pad s is all here) (numbers_are r o p n (step (size p) t) (next_aligned r p t (first_aligned r p pad s is)) more behind)

pub numbers_count : (p : Primitive) (o : Order) (n : ℕ) (ys : List ℕ) → length (numbers_in p o n ys) ≡ n
numbers_count p o zero ys = refl
numbers_count p o (suc n) ys = ap (λ (k : ℕ). suc k) (numbers_count p o n (drop (size p) ys))

-- the numbers are those of their own octets
numbers_front : (p : Primitive) (o : Order) (n : ℕ) (ys : List ℕ) → numbers_in p o n (take (n * size p) ys) ≡ numbers_in p o n ys
numbers_front p o zero ys = refl
numbers_front p o (suc n) ys =
    let k = size p in
    let all : suc n * k ≡ k + n * k = omega arith in
    let one : take k (take (k + n * k) ys) ≡ take k ys = take-take k (k + n * k) ys (omega arith) in
    let more : drop k (take (k + n * k) ys) ≡ take (n * k) (drop k ys) = drop-take k (n * k) ys in
    ap (λ (m : ℕ). numbers_in p o (suc n) (take m ys)) all
    ∙ ap₂ (λ (x : List ℕ) (rest : List Val). number_of p o x ∷ rest) one (ap (numbers_in p o n) more ∙ numbers_front p o n (drop k ys))

ok_of : {A : Type 0} (b : Bool) (f : Fault) (x y : A × Spot) → cond {A = Reading A} b (Err f) (Ok x) ≡ Ok y → x ≡ y
ok_of true f x y e = absurd cc
ok_of false f x y e = cc

record Front (n : ℕ) (s : Spot) (octets : List ℕ) (s2 : Spot) : Type 0 where
  octets_are : octets ≡ take n s.rest
  behind : s2 ≡ step n s

front_of : (n : ℕ) (s : Spot) (octets : List ℕ) (s2 : Spot) → octets_at n s ≡ Ok (octets, s2) → Front n s octets s2
unfolding octets_at
front_of n s octets s2 e =
    let both = ok_of (nat_lt (length s.rest) n) (record { at = s.at; why = Short }) (take n s.rest, step n s) (octets, s2) e in
    record { octets_are = sym (ap (λ (z : List ℕ × Spot). z.0) both); behind = sym (ap (λ (z : List ℕ × Spot). z.1) both) }

-- so many numbers behind the padding of the first
numbers_at : (r : Rep) (o : Order) (p : Primitive) (n pad : ℕ) (s : Spot) → pad ≡ cond (n == 0) 0 (padding (min (size p) (most r)) s.at) → n * size p ≤ length (step pad s).rest → wrong p o n (step pad s).rest ≡ false
    → ReadsEach r o (prim p) n s (numbers_in p o n (step pad s).rest) (step (n * size p) (step pad s))
unfolding each_at
numbers_at r o p zero pad s is fits fine = rw (step_none pad s is, step_none (0 * size p) s (omega arith)) refl
numbers_at r o p (suc n) pad s is fits fine =
    let some : (suc n == 0) ≡ false = ne_eqb (suc n) 0 (λ same. absurd (omega arith)) in
    padded_numbers r o p n pad s (is ∙ ap (λ (b : Bool). cond b 0 (padding (min (size p) (most r)) s.at)) some) fits fine

pub numbers_ahead : (r : Rep) (o : Order) (p : Primitive) (n pad : ℕ) (skipped octets : List ℕ) (s s1 s2 : Spot) → pad ≡ cond (n == 0) 0 (padding (min (size p) (most r)) s.at) → octets_at pad s ≡ Ok (skipped, s1) → n * size p ≤ length s1.rest → octets_at (n * size p) s1 ≡ Ok (octets, s2) → (is_boolean p && has (λ b. nat_lt 1 b) octets) ≡ false
    → ReadsEach r o (prim p) n s (numbers_in p o n octets) s2
numbers_ahead r o p n pad skipped octets s s1 s2 is e fits f fine =
    let t = step pad s in
    let start = (front_of pad s skipped s1 e).behind in
    let got = front_of (n * size p) s1 octets s2 f in
    let front : octets ≡ take (n * size p) t.rest = got.octets_are ∙ ap (λ (x : Spot). take (n * size p) x.rest) start in
    let there : n * size p ≤ length t.rest = omega (arith, ap (λ (x : Spot). length x.rest) start) in
    let right = none_wrong p o n t.rest (ap (λ (l : List ℕ). is_boolean p && has (λ b. nat_lt 1 b) l) (sym front) ∙ fine) there in
    let all = numbers_at r o p n pad s is there right in
    let numbers : numbers_in p o n t.rest ≡ numbers_in p o n octets = sym (numbers_front p o n t.rest) ∙ ap (numbers_in p o n) (sym front) in
    let end : step (n * size p) t ≡ s2 = ap (step (n * size p)) (sym start) ∙ sym got.behind in
    all ∙ ap₂ (λ (vs : List Val) (x : Spot). Ok (map plain vs, x)) numbers end
