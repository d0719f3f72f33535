-- Numbers as octets, in either byte order (DDS-XTypes 1.3, 7.4: the octets of primitives and their alignment).
use Rattle.std.specs.Prelude.{ℕ, zero, suc, ◌+◌, ◌-◌, ◌*◌, ◌^◌, ◌/◌, ◌%◌, ℤ, pos, negsuc, List, [], ◌∷◌, Bool, true, false, cond, reverse, nat_lt}
use Rattle.xt_shapes.specs.declared.leaves.Order.{Order}
use Rattle.xt_shapes.specs.declared.leaves.Order.TheVariants.{Big, Little}
use Rattle.xt_shapes.specs.Sizes.{half}

abbrev pub low_octets : ℕ → ℕ → List ℕ
low_octets zero n = []
low_octets (suc k) n = n % 256 ∷ low_octets k (n / 256)

abbrev pub low_number : List ℕ → ℕ
low_number [] = 0
low_number (b ∷ bs) = b + 256 * low_number bs

-- k octets of a number
unfoldable pub octets : Order → ℕ → ℕ → List ℕ
octets Little k n = low_octets k n
octets Big k n = reverse (low_octets k n)

unfoldable pub number : Order → List ℕ → ℕ
number Little bs = low_number bs
number Big bs = low_number (reverse bs)

unfoldable pub with_sign : ℕ → Bool → ℕ → ℤ
with_sign k false n = pos n
with_sign k true n = cond (nat_lt n (half k)) (pos n) (negsuc (256 ^ k - suc n))

unfoldable pub raw : ℕ → ℤ → ℕ
raw k (pos n) = n
raw k (negsuc m) = 256 ^ k - suc m

-- octets up to the next place that is a multiple of m
unfoldable pub padding : ℕ → ℕ → ℕ
padding m p = (m - p % m) % m
