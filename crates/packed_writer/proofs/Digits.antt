-- Numbers that were read from octets are written as these octets.
use Rattle.std.proofs.Common.{◌≡◌, refl, sym, ap, ◌∙◌, subst, ℕ, zero, suc, ◌+◌, ◌-◌, ◌*◌, ◌^◌, ◌<◌, ◌≤◌, pos, negsuc, Bool, true, false, cond, nat_lt, List, [], ◌∷◌, ◌++◌, length, take, drop, get_or, arith, Fits, w8, pow-suc, ◌%◌, ◌/◌, min}
use Rattle.std.proofs.lemmas.List.{length-take-le, length-drop, take-append-drop}
use Rattle.std.proofs.lemmas.Nat.{rows}
use Rattle.xt_shapes.specs.declared.leaves.Order.{Order}
use Rattle.xt_shapes.specs.declared.leaves.Order.TheVariants.{Big, Little}
use Rattle.xt_shapes.specs.declared.leaves.Primitive.{Primitive}
use Rattle.xt_shapes.specs.Sizes.{size, is_signed, half}
use Rattle.xcdr_model.specs.FixedSpelling.{then_fixed}
use Rattle.xcdr_model.specs.Numbers.{octets, low_octets, low_number, number, raw, with_sign}
use Rattle.packed_reader.specs.View.{number_of, numbers_in}
use Rattle.value_writer.specs.Runs.{run_fixed, digits_of}
use Rattle.value_writer.proofs.RunSteps.{run_parts}
use Rattle.xt_wire.specs.numbers.Units.{IsUnit}
use Rattle.xt_wire.specs.writer.Writing.{padding_fixed}

-- ---- octets

abbrev pub Small : List ℕ → Type 0
Small [] = Unit {0}
Small (b ∷ bs) = (b < 256) × Small bs

pub octets_small : (xs : List ℕ) → ((i : ℕ) → Fits w8 (get_or xs i 0)) → Small xs
octets_small [] fits = tt
octets_small (x ∷ xs) fits = (omega (arith, fits 0), octets_small xs (λ i. fits (suc i)))

small_take : (n : ℕ) (xs : List ℕ) → Small xs → Small (take n xs)
small_take zero xs s = tt
small_take (suc n) [] s = tt
small_take (suc n) (x ∷ xs) s = (s.0, small_take n xs s.1)

small_drop : (n : ℕ) (xs : List ℕ) → Small xs → Small (drop n xs)
small_drop zero xs s = s
small_drop (suc n) [] s = tt
small_drop (suc n) (x ∷ xs) s = small_drop n xs s.1

low_below : (xs : List ℕ) → Small xs → low_number xs < 256 ^ length xs
low_below [] s = omega arith
low_below (x ∷ xs) s = omega (arith, pow-suc 256 (length xs), low_below xs s.1, s.0)

low_again : (xs : List ℕ) → Small xs → low_octets (length xs) (low_number xs) ≡ xs
low_again [] s = refl
low_again (x ∷ xs) s = next x (low_number xs) (length xs) xs s.0 (low_again xs s.1)
  where
    next : (x n k : ℕ) (xs : List ℕ) → x < 256 → low_octets k n ≡ xs → low_octets (suc k) (x + 256 * n) ≡ x ∷ xs
    next x n k xs h e =
        let first : (x + 256 * n) % 256 ≡ x = omega (arith, h) in
        let rest : (x + 256 * n) / 256 ≡ n = omega (arith, h) in
        ap (λ (b : ℕ). b ∷ low_octets k ((x + 256 * n) / 256)) first ∙ ap (λ (m : ℕ). x ∷ low_octets k m) rest ∙ ap (λ (l : List ℕ). x ∷ l) e

-- ---- a number

-- the number of the octets, with sign and back
pub raw_again : (k : ℕ) (signed : Bool) (n : ℕ) → n < 256 ^ k → raw k (with_sign k signed n) ≡ n
unfolding raw with_sign
raw_again k false n h = refl
raw_again k true n h = by_half (nat_lt n (half k))
  where
    back : (m : ℕ) → n < m → m - suc (m - suc n) ≡ n
    back m lt = omega (arith, lt)

    by_half : (b : Bool) → raw k (cond b (pos n) (negsuc (256 ^ k - suc n))) ≡ n
    by_half true = refl
    by_half false = back (256 ^ k) h

little_again : (k : ℕ) (xs : List ℕ) → length xs ≡ k → Small xs → octets Little k (number Little xs) ≡ xs
unfolding octets number
little_again k xs e s = ap (λ (j : ℕ). low_octets j (low_number xs)) (sym e) ∙ low_again xs s

little_below : (k : ℕ) (xs : List ℕ) → length xs ≡ k → Small xs → number Little xs < 256 ^ k
unfolding number
little_below k xs e s = subst (λ (j : ℕ). low_number xs < 256 ^ j) e (low_below xs s)

-- one octet is the same in both orders
pub one_number : (o : Order) (xs : List ℕ) → length xs ≡ 1 → number o xs ≡ number Little xs
unfolding number
one_number Little xs e = refl
one_number Big [] e = absurd (omega (arith, e))
one_number Big (x ∷ []) e = refl
one_number Big (x ∷ y ∷ xs) e = absurd (omega (arith, e))

-- ---- lists of numbers

-- where the numbers are little-endian, they are written as they stand
pub digits_same : (p : Primitive) (o : Order) (n : ℕ) (ys : List ℕ) → ((xs : List ℕ) → length xs ≡ size p → number o xs ≡ number Little xs) → Small ys → length ys ≡ n * size p → digits_of Little (size p) (numbers_in p o n ys) ≡ ys
digits_same p o zero [] same s e = refl
digits_same p o zero (y ∷ ys) same s e = absurd (omega (arith, e))
digits_same p o (suc n) ys same s e =
    let k = size p in
    let long : length ys ≡ k + n * k = e ∙ grind (arith, rows) in
    let first = take k ys in
    let len : length first ≡ k = length-take-le k ys (omega (arith, long)) in
    let left : length (drop k ys) ≡ n * k = length-drop k ys ∙ omega (arith, long) in
    let small = small_take k ys s in
    let here : octets Little k (raw k (with_sign k (is_signed p) (number o first))) ≡ first
    = ap (λ (m : ℕ). octets Little k (raw k (with_sign k (is_signed p) m))) (same first len)
    ∙ ap (λ (m : ℕ). octets Little k m) (raw_again k (is_signed p) (number Little first) (little_below k first len small))
    ∙ little_again k first len small in
    ap (λ (l : List ℕ). l ++ digits_of Little k (numbers_in p o n (drop k ys))) here
    ∙ ap (λ (l : List ℕ). first ++ l) (digits_same p o n (drop k ys) same (small_drop k ys s) left)
    ∙ take-append-drop k ys

pub none_left : (p : Primitive) (o : Order) (count turn : ℕ) (ys : List ℕ) → count ≤ turn → digits_of Little (size p) (numbers_in p o (count - turn) ys) ≡ []
none_left p o count turn ys past =
    let none : count - turn ≡ 0 = omega (arith, past) in
    ap (λ (n : ℕ). digits_of Little (size p) (numbers_in p o n ys)) none

-- one number more
pub one_turned : (p : Primitive) (o : Order) (count turn : ℕ) (ys first more : List ℕ) → turn < count → first ≡ take (size p) ys → more ≡ drop (size p) ys → number o first < 256 ^ size p
    → (q : ℕ) → digits_of Little (size p) (numbers_in p o (count - turn) ys) ≡ then_fixed (λ r. octets Little (size p) (number o first)) (λ r. digits_of Little (size p) (numbers_in p o (count - (turn + 1)) more)) q
unfolding then_fixed
one_turned p o count turn ys first more lt front back below q =
    let k = size p in
    let left : count - turn ≡ suc (count - (turn + 1)) = omega (arith, lt) in
    let here : raw k (with_sign k (is_signed p) (number o (take k ys))) ≡ number o first = ap (λ (l : List ℕ). raw k (with_sign k (is_signed p) (number o l))) (sym front) ∙ raw_again k (is_signed p) (number o first) below in
    ap (λ (n : ℕ). digits_of Little k (numbers_in p o n ys)) left
    ∙ ap (λ (m : ℕ). octets Little k m ++ digits_of Little k (numbers_in p o (count - (turn + 1)) (drop k ys))) here
    ∙ ap (λ (l : List ℕ). octets Little k (number o first) ++ digits_of Little k (numbers_in p o (count - (turn + 1)) l)) (sym back)

-- only the first of some numbers is padded
pub some_run : (m : ℕ) (p : Primitive) (o : Order) (n : ℕ) (ys : List ℕ) → (n ≡ 0 → ⊥) → IsUnit m → IsUnit (size p) → (q : ℕ) → run_fixed m Little (size p) (numbers_in p o n ys) q ≡ then_fixed (padding_fixed (min (size p) m)) (λ r. digits_of Little (size p) (numbers_in p o n ys)) q
some_run m p o zero ys some is_m is_k q = absurd (some refl)
some_run m p o (suc n) ys some is_m is_k q = run_parts m Little (size p) (number_of p o (take (size p) ys)) (numbers_in p o n (drop (size p) ys)) q is_m is_k

pub no_run : (m : ℕ) (p : Primitive) (o : Order) (n : ℕ) (ys : List ℕ) → n ≡ 0 → (q : ℕ) → run_fixed m Little (size p) (numbers_in p o n ys) q ≡ []
no_run m p o zero ys e q = refl
no_run m p o (suc n) ys e q = absurd (omega (arith, e))
