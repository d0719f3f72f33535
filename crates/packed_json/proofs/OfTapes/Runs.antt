-- Numbers that are read of JSON, as their octets.
use Rattle.std.proofs.Common.{◌≡◌, refl, ℕ, zero, suc, ◌+◌, ◌*◌, ◌^◌, ◌<◌, ◌≤◌, ℤ, false, true, List, [], ◌∷◌, ◌++◌, length, drop, sym, ap, ap₂, subst, ◌∙◌, arith}
use Rattle.std.proofs.lemmas.List.{take_all, take-append-le, drop-append-le, length-drop, length-append}
use Rattle.json.specs.Json as json
use Rattle.json.specs.Json.{Json}
use Rattle.xt_shapes.specs.declared.leaves.Order.TheVariants.{Little}
use Rattle.xt_shapes.specs.declared.leaves.Primitive.{Primitive}
use Rattle.xt_shapes.specs.declared.leaves.Primitive.TheVariants.{Boolean}
use Rattle.xt_shapes.specs.Sizes.{size, is_signed}
use Rattle.xt_shapes.specs.Typing.{of_prim}
use Rattle.xt_shapes.specs.Vals.{Val, int}
use Rattle.xcdr_model.specs.Numbers.{octets, raw, with_sign, padding}
use Rattle.shape_laws.proofs.Steps.{number_again, length-octets}
use Rattle.shape_laws.proofs.Leaves.{sign_again}
use Rattle.shape_laws.proofs.FixedLaw.{prim_spells, length_number}
use Rattle.json_values.specs.Read.{prim_of}
use Rattle.dynamic_data.proofs.TypedLeaves.{OfInt, prim_typed}
use Rattle.dynamic_data.proofs.Yields.{yielded}
use Rattle.packed_reader.specs.View.{number_of, numbers_in}
use Rattle.packed_json.specs.Tapes.{Means, AllMeanAfter}
use Rattle.packed_json.proofs.OfTapes.Lists.{items_next}

-- ---- one number

-- a primitive's number is that of its octets
again_at : (q : Primitive) (i : ℤ) → of_prim q i ≡ true → (raw (size q) i < 256 ^ size q) × (with_sign (size q) (is_signed q) (raw (size q) i) ≡ i)
unfolding raw with_sign padding
again_at Boolean i e =
    let s = prim_spells 8 Little Boolean i e 0 (omega (arith, length_number 8 Little 1 (raw 1 i) 0)) in
    (subst (λ (k : ℤ). raw 1 k < 256 ^ 1) (sym s.is) (omega (arith, s.below)), subst (λ (k : ℤ). with_sign 1 false (raw 1 k) ≡ k) (sym s.is) refl)
again_at t i e =
    let s = prim_spells 8 Little t i e 0 (omega (arith, length_number 8 Little (size t) (raw (size t) i) 0)) in
    (s.spelled.fits, sign_again (size t) (is_signed t) i (omega arith) s.in_range)

number_is : (q : Primitive) (i : ℤ) → of_prim q i ≡ true → number_of q Little (octets Little (size q) (raw (size q) i)) ≡ int i
number_is q i e =
    let h = again_at q i e in
    ap (λ (n : ℕ). int (with_sign (size q) (is_signed q) n)) (number_again Little (size q) (raw (size q) i) h.0) ∙ ap int h.1

-- what is read of JSON as a primitive is one
is_of : (q : Primitive) (j : Json) (i : ℤ) → Means (prim_of q) 0 j (int i) → of_prim q i ≡ true
is_of q j i h = yielded (OfInt (of_prim q)) (prim_of q h.found) (int i) (prim_typed q h.found) h.reads

-- ---- one more of them

numbers_on : (q : Primitive) (n : ℕ) (xs ys : List ℕ) → length xs ≡ n * size q → length ys ≡ size q → numbers_in q Little (suc n) (xs ++ ys) ≡ numbers_in q Little n xs ++ number_of q Little ys ∷ []
numbers_on q zero [] ys e k = ap (λ (l : List ℕ). number_of q Little l ∷ []) (take_all (size q) ys (omega (arith, k)))
numbers_on q zero (x ∷ xs) ys e k = absurd (omega (arith, e))
numbers_on q (suc n) xs ys e k =
    let all : suc n * size q ≡ size q + n * size q = omega arith in
    let long : size q ≤ length xs = omega (arith, e, all) in
    let rest : length (drop (size q) xs) ≡ n * size q = omega (arith, e, all, length-drop (size q) xs) in
    ap₂ (λ (a : List ℕ) (l : List Val). number_of q Little a ∷ l) (take-append-le (size q) xs ys long) (ap (numbers_in q Little (suc n)) (drop-append-le (size q) xs ys long) ∙ numbers_on q n (drop (size q) xs) ys rest k)

pub run_begins : (q : Primitive) (n : ℕ) → n ≡ 0 → numbers_in q Little n [] ≡ []
run_begins q n e = ap (λ (k : ℕ). numbers_in q Little k []) e

pub run_next : (q : Primitive) (js left more : json.Items) (j : Json) (i : ℤ) (count now : ℕ) (before next : List ℕ) → left ≡ json.item j more → Means (prim_of q) 0 j (int i) → length before ≡ count * size q → now ≡ count + 1
    → next ≡ before ++ octets Little (size q) (raw (size q) i) → AllMeanAfter (prim_of q) 0 js left (numbers_in q Little count before) → AllMeanAfter (prim_of q) 0 js more (numbers_in q Little now next)
run_next q js left more j i count now before next is means long one_on longer so_far =
    let own = octets Little (size q) (raw (size q) i) in
    let one : now ≡ suc count = omega (arith, one_on) in
    let grown : numbers_in q Little now next ≡ numbers_in q Little count before ++ int i ∷ [] =
    ap₂ (λ (k : ℕ) (l : List ℕ). numbers_in q Little k l) one longer ∙ numbers_on q count before own long (length-octets Little (size q) (raw (size q) i))
    ∙ ap (λ (v : Val). numbers_in q Little count before ++ v ∷ []) (number_is q i (is_of q j i means)) in
    subst (AllMeanAfter (prim_of q) 0 js more) (sym grown) (items_next (prim_of q) 0 js left more j (numbers_in q Little count before) (int i) is means so_far)

pub run_longer : (k count now : ℕ) (before next own : List ℕ) → length before ≡ count * k → now ≡ count + 1 → length own ≡ k → next ≡ before ++ own → length next ≡ now * k
run_longer k count now before next own long one_on size_is longer =
    let all : (count + 1) * k ≡ count * k + k = omega arith in
    ap length longer ∙ length-append before own ∙ omega (arith, long, size_is) ∙ sym all ∙ ap (λ (m : ℕ). m * k) (sym one_on)
