-- Numbers with sign, and texts.
use Rattle.std.proofs.Common.{◌≡◌, ℕ, zero, suc, ◌+◌, ◌-◌, ◌*◌, ◌^◌, ◌<◌, ℤ, pos, negsuc, Bool, true, false, cond, List, [], ◌∷◌, ◌++◌, length, Ok, refl, sym, ap, subst, arith, nat_le, ◌==◌, ltb, leb, pow-suc}
use Rattle.std.proofs.lemmas.Bool.{le-ltb, lt-ltb, lt-leb, ne_eqb, cond_both, or_right}
use Rattle.std.proofs.lemmas.List.{take_at, length-append}
use Rattle.xt_shapes.specs.declared.leaves.Order.{Order}
use Rattle.xt_shapes.specs.declared.leaves.Primitive.{Primitive}
use Rattle.xt_shapes.specs.declared.leaves.Primitive.TheVariants.{Boolean}
use Rattle.xt_shapes.specs.Lists.{has}
use Rattle.xt_shapes.specs.Shape.{prim, bitmask}
use Rattle.xt_shapes.specs.Sizes.{size, is_signed, enum_size, mask_size, half}
use Rattle.xcdr_model.specs.Numbers.{with_sign, raw}
use Rattle.xcdr_model.specs.Reading.{◌>>=◌, number_at, octets_at}
use Rattle.xcdr_model.specs.Spelling.{IsNumber, Octets}
use Rattle.xcdr_model.specs.Xcdr2Reading.{scalar_at, text_at}
use Rattle.xcdr_model.specs.Xcdr2Spelling.{InRange, Scalar, Bounded, scalar, IsText}
use Rattle.shape_laws.proofs.Steps.{spot, Reads, then_ok, reads_number, at_one, at_two, reads_octets}

-- ---- numbers with sign

pub sign_again : (k : ℕ) (signed : Bool) (i : ℤ) → 0 < k → InRange k signed i → with_sign k signed (raw k i) ≡ i
unfolding with_sign raw
sign_again k false (pos n) k-pos h = refl
sign_again k true (pos n) k-pos h = rw (lt-ltb n (half k) h) refl
sign_again k false (negsuc m) k-pos h = absurd h
sign_again zero true (negsuc m) k-pos h = absurd (omega arith)
sign_again (suc k) true (negsuc m) k-pos h =
    let whole : 256 ^ suc k ≡ 256 * 256 ^ k = omega (arith, pow-suc 256 k) in
    let same : suc k - 1 ≡ k = omega arith in
    let small : m < 128 * 256 ^ k = rw same at h in
    let big : ltb (256 ^ suc k - suc m) (half (suc k)) ≡ false = le-ltb _ _ (rw same (omega arith)) in
    rw big (ap negsuc (omega arith))

scalar_again : (most : ℕ) (o : Order) (k : ℕ) (signed : Bool) (i : ℤ) → 0 < k → (p : ℕ) (b rest : List ℕ) → Scalar most o k signed i p b → (n : ℕ) × (number_at most o k (spot p (b ++ rest)) ≡ Ok (n, spot (p + length b) rest)) × (with_sign k signed n ≡ i)
scalar_again most o k signed i k-pos p b rest h = (raw k i, reads_number most o k (raw k i) p b rest h.spelled, sign_again k signed i k-pos h.in_range)

pub enum_size_pos : (bits : ℕ) → 0 < enum_size bits
enum_size_pos bits = cond_both (nat_le bits 8) 1 (cond (nat_le bits 16) 2 4) (λ n. 0 < n) (λ _. omega arith) (λ _. cond_both (nat_le bits 16) 2 4 (λ n. 0 < n) (λ _. omega arith) (λ _. omega arith))

pub reads_prim : (most : ℕ) (o : Order) (t : Primitive) (i : ℤ) → Reads (scalar_at most o (prim t)) (scalar most o (prim t) i) i
unfolding scalar_at with_sign
reads_prim most o Boolean i p b rest h =
    let low : ltb 1 h.n ≡ false = le-ltb _ _ (omega (arith, h.below)) in
    then_ok _ (reads_number most o 1 h.n p b rest h.spelled) (then_ok _ (rw low refl) (ap (λ (j : ℤ). Ok (j, spot (p + length b) rest)) (sym h.is)))
reads_prim most o t i p b rest h =
    let s = scalar_again most o (size t) (is_signed t) i (omega arith) p b rest h in
    then_ok _ s.1 (then_ok _ refl (ap (λ (j : ℤ). Ok (j, spot (p + length b) rest)) s.2))

pub reads_enum : (most : ℕ) (o : Order) (bits : ℕ) (i : ℤ) → Reads (λ s. number_at most o (enum_size bits) s >>= λ n. Ok (with_sign (enum_size bits) (enum_size bits == 4) n.0, n.1)) (Scalar most o (enum_size bits) (enum_size bits == 4) i) i
reads_enum most o bits i p b rest h =
    let s = scalar_again most o (enum_size bits) (enum_size bits == 4) i (enum_size_pos bits) p b rest h in
    then_ok _ s.1 (ap (λ (j : ℤ). Ok (j, spot (p + length b) rest)) s.2)

pub reads_mask : (most : ℕ) (o : Order) (bits : ℕ) (i : ℤ) → Reads (scalar_at most o (bitmask bits [])) (Bounded most o (mask_size bits) (2 ^ bits) i) i
unfolding scalar_at
reads_mask most o bits i p b rest h =
    let low : leb (2 ^ bits) h.n ≡ false = lt-leb _ _ h.below in
    then_ok _ (reads_number most o (mask_size bits) h.n p b rest h.spelled) (rw low (ap (λ (j : ℤ). Ok (j, spot (p + length b) rest)) (sym h.is)))

-- ---- texts

has-nul : (t : List ℕ) → has (λ b. b == 0) (t ++ 0 ∷ []) ≡ true
has-nul [] = refl
has-nul (x ∷ xs) = or_right (x == 0) (has (λ b. b == 0) (xs ++ 0 ∷ [])) (has-nul xs)

pub reads_text : (o : Order) (t : List ℕ) → Reads (text_at o) (IsText o t) t
unfolding text_at
reads_text o t p b rest h =
    let N = IsNumber 4 o 4 (length t + 1) in
    let O = Octets (t ++ 0 ∷ []) in
    let len : length (t ++ 0 ∷ []) ≡ length t + 1 = length-append t (0 ∷ []) in
    let some : ((length t + 1) == 0) ≡ false = ne_eqb _ _ (λ e. omega arith) in
    let back : length t + 1 - 1 ≡ length t = omega arith in
    let r : Reads (octets_at (length t + 1)) O (t ++ 0 ∷ []) = subst (λ (n : ℕ). Reads (octets_at n) O (t ++ 0 ∷ [])) len (reads_octets (t ++ 0 ∷ [])) in
    then_ok _ (at_one (number_at 4 o 4) N O (length t + 1) (reads_number 4 o 4 (length t + 1)) p b rest h.spelled) (
    rw some (then_ok _ (at_two (octets_at (length t + 1)) N O (t ++ 0 ∷ []) r p b rest h.spelled) (
    then_ok _ (rw (back, take_at t (0 ∷ []) (length t) refl, h.no_nul, has-nul t) refl) refl)))
