-- The octets of numbers, one after another.
use Rattle.std.proofs.Common.{◌≡◌, refl, sym, ap, ◌∙◌, ℕ, zero, suc, ◌+◌, ◌-◌, ◌*◌, ◌/◌, ◌%◌, ◌≤◌, ◌<◌, ◌^◌, List, ◌∷◌, length, reverse, arith, set, take, inl, inr, ℤ, pos, negsuc, int_le, true, false, rules, lit<, get_or, get_or-take, length-take}
use Rattle.std.proofs.lemmas.List.{length-reverse, take_more_set, take_more, get_or-reverse}
use Rattle.std.specs.Prelude.{nat_abs}
use Rattle.std.specs.Int.{byte_at, bytes_low_first}
use Rattle.std.proofs.Math.Nat.{div-one, div-div-eq-div-mul, pow-suc, one-le-pow}
use Rattle.std.proofs.lemmas.Nat.{div-mul-add, mod-mul-add}
use lib.Arith.{mod-mul}
use Rattle.xt_shapes.specs.declared.leaves.Order.{Order}
use Rattle.xt_shapes.specs.declared.leaves.Order.TheVariants.{Big, Little}
use Rattle.xcdr_model.specs.Numbers.{low_octets, octets, raw}
use Rattle.xt_wire.specs.numbers.Units.{IsUnit}

length-low_octets : (k n : ℕ) → length (low_octets k n) ≡ k
length-low_octets zero n = refl
length-low_octets (suc k) n = ap (λ (m : ℕ). suc m) (length-low_octets k (n / 256))

pub length-octets : (o : Order) (k n : ℕ) → length (octets o k n) ≡ k
unfolding octets
length-octets Little k n = length-low_octets k n
length-octets Big k n = length-reverse (low_octets k n) ∙ length-low_octets k n

-- ---- from the low end

byte_is : (i n : ℕ) → byte_at i n ≡ n / 256 ^ i % 256
byte_is zero n = ap (λ (m : ℕ). m % 256) (sym (div-one n))
byte_is (suc i) n = refl

low_first : (i k n : ℕ) → bytes_low_first i k n ≡ low_octets k (n / 256 ^ i)
low_first i zero n = refl
low_first i (suc k) n = rw (byte_is i n, low_first (suc i) k n) (ap (λ (m : ℕ). n / 256 ^ i % 256 ∷ low_octets k m) (next i n))
  where
    next : (i n : ℕ) → n / 256 ^ suc i ≡ n / 256 ^ i / 256
    next i n = rw (pow-suc 256 i) (sym (div-div-eq-div-mul n (256 ^ i) 256))

take_low : (size k n : ℕ) → size ≤ k → take size (low_octets k n) ≡ low_octets size n
take_low zero k n le = refl
take_low (suc size) zero n le = absurd (omega arith)
take_low (suc size) (suc k) n le = ap (λ (l : List ℕ). n % 256 ∷ l) (take_low size k (n / 256) (omega arith))

-- the front of a number's octets, of which there are so many
pub low_front : (width size n : ℕ) → size ≤ width → take size (bytes_low_first 0 width n) ≡ low_octets size n
low_front width size n le = ap (λ (l : List ℕ). take size l) (low_first 0 width n ∙ ap (λ (m : ℕ). low_octets width m) (div-one n)) ∙ take_low size width n le

-- Octets are those of the rest by a power of 256 as well.
pub low_rest : (size k n : ℕ) → size ≤ k → low_octets size (n % 256 ^ k) ≡ low_octets size n
low_rest zero k n le = refl
low_rest (suc size) zero n le = absurd (omega arith)
low_rest (suc size) (suc k) n le =
    let above = n / 256 % 256 ^ k in
    let small : n % 256 < 256 = omega arith in
    let is : n % 256 ^ suc k ≡ above * 256 + n % 256 = ap (λ (m : ℕ). n % m) (pow-suc 256 k) ∙ mod-mul n (one-le-pow k 256 (omega arith)) (omega arith) in
    rw (is, mod-mul-add above 256 (n % 256) small, div-mul-add above 256 (n % 256) small) (ap (λ (l : List ℕ). n % 256 ∷ l) (low_rest size k (n / 256) (omega (arith, le))))

-- ---- from the high end

pub one_high : (size at v : ℕ) (low xs : List ℕ) → at < size → at < length xs → size ≤ length low → take at xs ≡ take at (reverse (take size low)) → v ≡ get_or low (size - 1 - at) 0
    → take (at + 1) (set xs at v) ≡ take (at + 1) (reverse (take size low))
one_high size at v low xs lt within le is e =
    let len : length (take size low) ≡ size = omega (arith, length-take size low) in
    let inside : at < length (reverse (take size low)) = omega (arith, length-reverse (take size low)) in
    let item : get_or (reverse (take size low)) at 0 ≡ v = get_or-reverse (take size low) at 0 (omega arith) ∙ ap (λ n. get_or (take size low) (n - 1 - at) 0) len ∙ get_or-take size low (size - 1 - at) 0 (omega arith) ∙ sym e in
    rw (take_more_set xs at v within, take_more (reverse (take size low)) at 0 inside, item, is) refl

-- ---- a number with sign

pub raw_pos : (k : ℕ) (z : ℤ) → int_le (pos 0) z ≡ true → nat_abs z ≡ raw k z
unfolding raw
raw_pos k (pos n) e = refl
raw_pos k (negsuc n) e = absurd (search rules)

pub raw_neg : (k : ℕ) (z : ℤ) → int_le (pos 0) z ≡ false → 256 ^ k - nat_abs z ≡ raw k z
unfolding raw
raw_neg k (pos n) e = absurd (search rules)
raw_neg k (negsuc n) e = refl

pub all_fit : (k : ℕ) → IsUnit k → 256 ^ k < 2 ^ 128
all_fit k is = elim is [ inl e ↦ rw e (lit< tt) | inr more ↦ elim more [ inl e ↦ rw e (lit< tt) | inr more2 ↦ elim more2 [ inl e ↦ rw e (lit< tt) | inr e ↦ rw e (lit< tt) ] ] ]
