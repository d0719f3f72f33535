-- Lists of numbers of one size.
use Rattle.std.proofs.Common.{◌≡◌, refl, sym, ap, ◌∙◌, subst, ℕ, suc, ◌+◌, ◌*◌, ◌==◌, List, [], ◌∷◌, ◌++◌, length, replicate, min, arith, inl, inr, append_assoc, length-append, add-zero, tests, true, false, map}
use Rattle.std.proofs.lemmas.List.{length-replicate}
use Rattle.std.proofs.lemmas.Nat.{rows}
use Rattle.xt_shapes.specs.declared.leaves.Order.{Order}
use Rattle.xt_shapes.specs.Vals.{Val, number_in}
use Rattle.type_trees.specs.declared.values.Value.{Value}
use Rattle.type_trees.specs.View.{val}
use Rattle.xcdr_model.specs.FixedSpelling.{number_fixed, then_fixed}
use Rattle.xcdr_model.specs.Numbers.{octets, padding, raw}
use Rattle.xt_wire.specs.numbers.Units.{IsUnit}
use Rattle.xt_wire.specs.writer.Writing.{padding_fixed}
use Rattle.xt_wire.proofs.OfWriter.NumberSteps.{length-octets}
use Rattle.value_writer.specs.Places.{end_of, run_end}
use Rattle.value_writer.specs.Runs.{run_fixed, digits_of}

-- ---- alignment

-- k is a multiple of u, which is a size
record Divides (u k : ℕ) : Type 0 where
  unit : IsUnit u
  times : ℕ
  is : k ≡ u * times

in_cases : (P : ℕ → Type 0) → P 1 → P 2 → P 4 → P 8 → (k : ℕ) → IsUnit k → P k
in_cases P one two four eight k is = elim is [ inl e ↦ subst P (sym e) one | inr more ↦ elim more [ inl e ↦ subst P (sym e) two | inr more2 ↦ elim more2 [ inl e ↦ subst P (sym e) four | inr e ↦ subst P (sym e) eight ] ] ]

unit_one : IsUnit 1
unit_one = inl refl

unit_two : IsUnit 2
unit_two = inr (inl refl)

unit_four : IsUnit 4
unit_four = inr (inr (inl refl))

unit_eight : IsUnit 8
unit_eight = inr (inr (inr refl))

least_divides : (k m : ℕ) → IsUnit k → IsUnit m → Divides (min k m) k
least_divides k m is_k is_m = in_cases (λ j. Divides (min j m) j)
    (in_cases (λ n. Divides (min 1 n) 1) (record { unit = unit_one; times = 1; is = refl }) (record { unit = unit_one; times = 1; is = refl }) (record { unit = unit_one; times = 1; is = refl }) (record { unit = unit_one; times = 1; is = refl }) m is_m)
    (in_cases (λ n. Divides (min 2 n) 2) (record { unit = unit_one; times = 2; is = refl }) (record { unit = unit_two; times = 1; is = refl }) (record { unit = unit_two; times = 1; is = refl }) (record { unit = unit_two; times = 1; is = refl }) m is_m)
    (in_cases (λ n. Divides (min 4 n) 4) (record { unit = unit_one; times = 4; is = refl }) (record { unit = unit_two; times = 2; is = refl }) (record { unit = unit_four; times = 1; is = refl }) (record { unit = unit_four; times = 1; is = refl }) m is_m)
    (in_cases (λ n. Divides (min 8 n) 8) (record { unit = unit_one; times = 8; is = refl }) (record { unit = unit_two; times = 4; is = refl }) (record { unit = unit_four; times = 2; is = refl }) (record { unit = unit_eight; times = 1; is = refl }) m is_m)
    k is_k

stays : (u p j : ℕ) → IsUnit u → padding u p ≡ 0 → padding u (p + u * j) ≡ 0
unfolding padding
stays u p j is at = in_cases (λ n. padding n p ≡ 0 → padding n (p + n * j) ≡ 0) (λ e. omega (arith, e)) (λ e. omega (arith, e)) (λ e. omega (arith, e)) (λ e. omega (arith, e)) u is at

padded : (u p : ℕ) → IsUnit u → padding u (p + padding u p) ≡ 0
unfolding padding
padded u p is = in_cases (λ n. padding n (p + padding n p) ≡ 0) (omega arith) (omega arith) (omega arith) (omega arith) u is

-- ---- octets

pub length-digits : (o : Order) (k : ℕ) (vs : List Val) → length (digits_of o k vs) ≡ k * length vs
length-digits o k [] = grind (arith, rows)
length-digits o k (v ∷ vs) = length-append (octets o k (raw k (number_in v))) (digits_of o k vs) ∙ grind (arith, rows, length-octets o k (raw k (number_in v)), length-digits o k vs)

-- from an aligned place on there is no padding
aligned : (m : ℕ) (o : Order) (k : ℕ) (vs : List Val) (p : ℕ) → IsUnit m → IsUnit k → padding (min k m) p ≡ 0 → run_fixed m o k vs p ≡ digits_of o k vs
unfolding number_fixed then_fixed
aligned m o k [] p is_m is_k at = refl
aligned m o k (v ∷ vs) p is_m is_k at =
    let d = least_divides k m is_k is_m in
    let xs = octets o k (raw k (number_in v)) in
    let here : replicate (padding (min k m) p) 0 ++ xs ≡ xs = ap (λ (n : ℕ). replicate n 0 ++ xs) at in
    let next : padding (min k m) (p + length xs) ≡ 0 = ap (λ (n : ℕ). padding (min k m) (p + n)) (length-octets o k (raw k (number_in v)) ∙ d.is) ∙ stays (min k m) p d.times d.unit at in
    ap (λ (l : List ℕ). l ++ run_fixed m o k vs (p + length l)) here ∙ ap (λ (l : List ℕ). xs ++ l) (aligned m o k vs (p + length xs) is_m is_k next)

-- only the first number is padded
pub run_parts : (m : ℕ) (o : Order) (k : ℕ) (v : Val) (vs : List Val) (p : ℕ) → IsUnit m → IsUnit k → run_fixed m o k (v ∷ vs) p ≡ then_fixed (padding_fixed (min k m)) (λ q. digits_of o k (v ∷ vs)) p
unfolding number_fixed then_fixed
run_parts m o k v vs p is_m is_k =
    let d = least_divides k m is_k is_m in
    let u = min k m in
    let zeros = replicate (padding u p) 0 in
    let xs = octets o k (raw k (number_in v)) in
    let len : length (zeros ++ xs) ≡ padding u p + k = omega (arith, length-append zeros xs, length-replicate {A = ℕ} (padding u p) 0, length-octets o k (raw k (number_in v))) in
    let there : p + length (zeros ++ xs) ≡ p + padding u p + u * d.times = ap (λ (n : ℕ). p + n) len ∙ ap (λ (n : ℕ). p + (padding u p + n)) d.is ∙ omega arith in
    let next : padding u (p + length (zeros ++ xs)) ≡ 0 = ap (λ (n : ℕ). padding u n) there ∙ stays u (p + padding u p) d.times d.unit (padded u p d.unit) in
    ap (λ (l : List ℕ). (zeros ++ xs) ++ l) (aligned m o k vs (p + length (zeros ++ xs)) is_m is_k next) ∙ append_assoc zeros xs (digits_of o k vs)

run_more : (m k n p : ℕ) → min 4294967296 (p + (padding (min k m) p + k * suc n)) ≡ run_end m k (suc n) p
run_more m k n p = grind (arith, tests)

pub end_of_run : (m : ℕ) (o : Order) (k : ℕ) (vs : List Val) (p : ℕ) → IsUnit m → IsUnit k → end_of (run_fixed m o k vs) p ≡ run_end m k (length vs) p
unfolding end_of then_fixed
end_of_run m o k [] p is_m is_k = ap (λ (n : ℕ). min 4294967296 n) (add-zero p)
end_of_run m o k (v ∷ vs) p is_m is_k =
    let zeros = replicate {A = ℕ} (padding (min k m) p) 0 in
    let xs = digits_of o k (v ∷ vs) in
    let len : length (zeros ++ xs) ≡ padding (min k m) p + k * suc (length vs) = omega (arith, length-append zeros xs, length-replicate {A = ℕ} (padding (min k m) p) 0, length-digits o k (v ∷ vs)) in
    ap (λ (l : List ℕ). min 4294967296 (p + length l)) (run_parts m o k v vs p is_m is_k)
    ∙ ap (λ (n : ℕ). min 4294967296 (p + n)) len
    ∙ run_more m k (length vs) p

-- ---- numbers through a block

-- what is left, where the block's first octets are written
pub block_parts : (o : Order) (k : ℕ) (old done rest : List ℕ) (vs : List Val) (p : ℕ) → old ≡ done ++ rest → old ++ digits_of o k vs ≡ then_fixed (λ q. done) (λ q. rest ++ digits_of o k vs) p
unfolding then_fixed
block_parts o k old done rest vs p e = ap (λ (l : List ℕ). l ++ digits_of o k vs) e ∙ append_assoc done rest (digits_of o k vs)

-- one number more in the block
pub block_more : (o : Order) (k : ℕ) (block next xs : List ℕ) (v : Val) (vs : List Val) → next ≡ block ++ xs → xs ≡ octets o k (raw k (number_in v)) → block ++ digits_of o k (v ∷ vs) ≡ next ++ digits_of o k vs
block_more o k block next xs v vs e is = sym (ap (λ (l : List ℕ). l ++ digits_of o k vs) (e ∙ ap (λ (l : List ℕ). block ++ l) is) ∙ append_assoc block (octets o k (raw k (number_in v))) (digits_of o k vs))

-- ---- the numbers of the program's values

pub no_run : (m : ℕ) (o : Order) (k : ℕ) (vs : List Value) (p : ℕ) → (length vs == 0) ≡ true → run_fixed m o k (map val vs) p ≡ []
no_run m o k [] p e = refl
no_run m o k (v ∷ vs) p e = absurd (grind (arith, tests))

pub some_run : (m : ℕ) (o : Order) (k : ℕ) (vs : List Value) (p : ℕ) → (length vs == 0) ≡ false → IsUnit m → IsUnit k → run_fixed m o k (map val vs) p ≡ then_fixed (padding_fixed (min k m)) (λ q. digits_of o k (map val vs)) p
some_run m o k [] p e is_m is_k = absurd (grind (arith, tests))
some_run m o k (v ∷ vs) p e is_m is_k = run_parts m o k (val v) (map val vs) p is_m is_k
