-- Where octets end that are written in parts.
use Rattle.std.proofs.Common.{◌≡◌, refl, sym, ap, ◌∙◌, ℕ, ◌+◌, List, length, min, arith, length-append, ⊎_elim}
use Rattle.std.proofs.Math.Nat.{min-eq_left, min-eq_right}
use Rattle.std.proofs.lemmas.Bool.{cases_lt}
use Rattle.xt_shapes.specs.declared.leaves.Order.{Order}
use Rattle.xcdr_model.specs.FixedSpelling.{Fixed, nothing, number_fixed, then_fixed, headed_fixed}
use Rattle.xcdr_model.specs.Numbers.{padding}
use Rattle.xt_wire.proofs.OfWriter.Puts.{length-number}
use Rattle.value_writer.specs.Places.{end_of, number_end}

pub length_then : (f g : Fixed) (p : ℕ) → length (then_fixed f g p) ≡ length (f p) + length (g (p + length (f p)))
unfolding then_fixed
length_then f g p = length-append (f p) (g (p + length (f p)))

pub length_headed : (o : Order) (f : Fixed) (p : ℕ) → length (headed_fixed o f p) ≡ padding 4 p + 4 + length (f (p + (padding 4 p + 4)))
unfolding headed_fixed
length_headed o f p =
    let b = f (p + (padding 4 p + 4)) in
    omega (arith, length-append (number_fixed 4 o 4 (length b) p) b, length-number 4 o 4 (length b) p)

-- one part, and then another from its end
pub end_of_then : (f g : Fixed) (p : ℕ) → end_of (then_fixed f g) p ≡ end_of g (end_of f p)
unfolding end_of
end_of_then f g p =
    let n = length (f p) in
    let whole = length_then f g p in
    ⊎_elim
    (λ below.
    let here : min 4294967296 (p + n) ≡ p + n = min-eq_right {n = p + n} {m = 4294967296} (omega (arith, below)) in
    ap (λ (k : ℕ). min 4294967296 (p + k)) whole ∙ ap (λ (k : ℕ). min 4294967296 k) (omega arith) ∙ ap (λ (q : ℕ). min 4294967296 (q + length (g q))) (sym here))
    (λ above.
    let here : min 4294967296 (p + n) ≡ 4294967296 = min-eq_left {n = 4294967296} {m = p + n} above in
    let far : min 4294967296 (p + length (then_fixed f g p)) ≡ 4294967296 = omega (arith, whole, above) in
    far ∙ sym (ap (λ (q : ℕ). min 4294967296 (q + length (g q))) here ∙ omega arith))
    (cases_lt (p + n) 4294967296)

pub end_of_number : (m : ℕ) (o : Order) (k n p : ℕ) → end_of (number_fixed m o k n) p ≡ number_end m k p
unfolding end_of
end_of_number m o k n p = ap (λ (l : ℕ). min 4294967296 (p + l)) (length-number m o k n p)

-- a count of octets, and then these
pub end_of_headed : (o : Order) (f : Fixed) (p : ℕ) → end_of (headed_fixed o f) p ≡ end_of f (number_end 4 4 p)
unfolding end_of
end_of_headed o f p =
    let n = padding 4 p + 4 in
    let whole = length_headed o f p in
    ⊎_elim
    (λ below.
    let here : min 4294967296 (p + n) ≡ p + n = min-eq_right {n = p + n} {m = 4294967296} (omega (arith, below)) in
    ap (λ (k : ℕ). min 4294967296 (p + k)) whole ∙ ap (λ (k : ℕ). min 4294967296 k) (omega arith) ∙ ap (λ (q : ℕ). min 4294967296 (q + length (f q))) (sym here))
    (λ above.
    let here : min 4294967296 (p + n) ≡ 4294967296 = min-eq_left {n = 4294967296} {m = p + n} above in
    let far : min 4294967296 (p + length (headed_fixed o f p)) ≡ 4294967296 = omega (arith, whole, above) in
    far ∙ sym (ap (λ (q : ℕ). min 4294967296 (q + length (f q))) here ∙ omega arith))
    (cases_lt (p + n) 4294967296)

pub end_of_nothing : (p : ℕ) → end_of nothing p ≡ min 4294967296 p
unfolding end_of
end_of_nothing p = omega arith

-- octets that stand as they are
pub end_of_octets : (xs : List ℕ) (p : ℕ) → end_of (λ q. xs) p ≡ min 4294967296 (p + length xs)
unfolding end_of
end_of_octets xs p = refl

-- of the same spelling
pub end_of_same : (f g : Fixed) (p : ℕ) → f p ≡ g p → end_of f p ≡ end_of g p
unfolding end_of
end_of_same f g p e = ap (λ (l : List ℕ). min 4294967296 (p + length l)) e

-- an end that is this far already is kept
pub end_of_capped : (f : Fixed) (p : ℕ) → min 4294967296 (end_of f p) ≡ end_of f p
unfolding end_of
end_of_capped f p = omega arith
