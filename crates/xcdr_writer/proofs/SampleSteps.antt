-- Sizes of whole samples.
use Rattle.std.proofs.Common.{◌≡◌, refl, sym, ap, ap₂, [], ◌∷◌, ◌++◌, replicate, ◌∙◌, ℕ, ◌+◌, ◌-◌, ◌%◌, ◌≤◌, ◌<◌, length, arith, Some, None, cond, nat_le, tests, Result, Bool, true, false}
use Rattle.xt_shapes.specs.declared.leaves.Order.{Order}
use Rattle.xt_shapes.specs.declared.leaves.Order.TheVariants.{Little}
use Rattle.xt_shapes.specs.declared.leaves.Rep.{Rep}
use Rattle.xt_shapes.specs.Shape.{Shape}
use Rattle.xt_shapes.specs.Vals.{Val}
use Rattle.xt_outside.specs.declared.octets.Failed.{Failed}
use Rattle.xcdr_model.specs.FixedSpelling.{fixed_of}
use Rattle.xcdr_model.specs.Numbers.{padding}
use Rattle.xcdr_model.specs.SampleSpelling.{sample_size, final_padding, identifier, fixed_sample}
use Rattle.xt_wire.specs.writer.Written.{Written}
use Rattle.xt_wire.specs.writer.Writing.{Puts, PutsWithin}
use Rattle.value_writer.specs.Places.{end_of}
use Rattle.xcdr_writer.specs.Samples.{sized}
use Rattle.xcdr_writer.proofs.Steady.{fixed_steady, length_most}

size_is : (r : Rep) (t : Shape) (v : Val) → sample_size r t v ≡ 4 + length (fixed_of r Little t v 0) + padding 4 (length (fixed_of r Little t v 0))
size_is r t v = refl

-- a count of octets up to the limit
pub told : (r : Rep) (t : Shape) (v : Val) (end octets : ℕ) → end ≡ end_of (fixed_of r Little t v) 0 → octets ≡ 4 + end + (4 - end % 4) % 4 → octets ≤ 1048576 → Some octets ≡ sized (sample_size r t v)
unfolding end_of padding
told r t v end octets e is fits =
    let n = length (fixed_of r Little t v 0) in
    let same : octets ≡ 4 + n + (4 - n % 4) % 4 = omega (arith, e, is, fits) in
    let low : nat_le (4 + n + (4 - n % 4) % 4) 1048576 ≡ true = grind (arith, tests) in
    ap (λ (k : ℕ). Some k) same ∙ sym (ap (λ (b : Bool). cond b (Some (4 + n + (4 - n % 4) % 4)) None) low)

pub not_told : (r : Rep) (t : Shape) (v : Val) (end octets : ℕ) → end ≡ end_of (fixed_of r Little t v) 0 → octets ≡ 4 + end + (4 - end % 4) % 4 → 1048576 < octets → None ≡ sized (sample_size r t v)
unfolding end_of padding
not_told r t v end octets e is past =
    let n = length (fixed_of r Little t v 0) in
    let more : 1048576 < 4 + n + (4 - n % 4) % 4 = omega (arith, e, is, past) in
    let high : nat_le (4 + n + (4 - n % 4) % 4) 1048576 ≡ false = grind (arith, tests) in
    sym (ap (λ (b : Bool). cond b (Some (4 + n + (4 - n % 4) % 4)) None) high)

-- what has a size fits wherever it is written
pub fits_anywhere : {T : Type 0} {x : Result T Failed} (r : Rep) (o : Order) (t : Shape) (v : Val) {a b : Written} → sample_size r t v ≤ 1048576 → PutsWithin 4294967296 (fixed_of r o t v) a b x → Puts (fixed_of r o t v) a b x
fits_anywhere r o t v size w = record {
  keeps = w.keeps;
  put = λ p at.
      let most = length_most r (fixed_of r o t v) (fixed_of r Little t v) p (fixed_steady r o Little t v) in
      let small : length (fixed_of r Little t v 0) ≤ 1048576 = omega (arith, size_is r t v, size) in
      w.put p at (omega (arith, most, small));
}

pub end_small : (r : Rep) (t : Shape) (v : Val) (end : ℕ) → end ≡ end_of (fixed_of r Little t v) 0 → end ≤ 4294967296
unfolding end_of
end_small r t v end e = omega (arith, e)

-- the padding is the same in both byte orders
pub padding_same : (r : Rep) (o : Order) (t : Shape) (v : Val) → final_padding (fixed_of r Little t v 0) ≡ final_padding (fixed_of r o t v 0)
padding_same r o t v = ap (λ (n : ℕ). padding 4 n) ((fixed_steady r Little o t v).same 0 0 refl)

pub padding_told : (r : Rep) (t : Shape) (v : Val) (end : ℕ) → sample_size r t v ≤ 1048576 → end ≡ end_of (fixed_of r Little t v) 0 → (4 - end % 4) % 4 ≡ final_padding (fixed_of r Little t v 0)
unfolding end_of padding
padding_told r t v end size e =
    let n = length (fixed_of r Little t v 0) in
    let same : end ≡ n = omega (arith, e, size) in
    ap (λ (k : ℕ). (4 - k % 4) % 4) same

-- a sample by its head and what is behind it
pub sample_is : (r : Rep) (o : Order) (t : Shape) (v : Val) (id pad : ℕ) → id ≡ identifier r t o → pad ≡ final_padding (fixed_of r Little t v 0) → (0 ∷ id ∷ 0 ∷ pad ∷ []) ++ (fixed_of r o t v 0 ++ replicate {A = ℕ} pad 0) ≡ fixed_sample r o t v
sample_is r o t v id pad e p = ap₂ (λ (i k : ℕ). 0 ∷ i ∷ 0 ∷ k ∷ (fixed_of r o t v 0 ++ replicate {A = ℕ} k 0)) e (p ∙ padding_same r o t v)
