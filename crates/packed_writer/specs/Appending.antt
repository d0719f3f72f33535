-- Octets that are appended behind an origin of alignment (this profile's own; alignment is that of DDS-XTypes 1.3, 7.4).
use Rattle.std.specs.Prelude.{◌≡◌, ℕ, ◌+◌, ◌-◌, List, ◌++◌, length, take, drop}
use Rattle.xt_shapes.specs.declared.leaves.Order.TheVariants.{Little}
use Rattle.xcdr_model.specs.FixedSpelling.{Fixed}
use Rattle.xcdr_model.specs.Numbers.{octets}

-- octets of a sample with what stands before it, and where they are aligned from
pub record Begun : Type 0 where
  pub origin : ℕ
  pub octets : List ℕ

-- it ends p octets behind its origin
abbrev pub IsAt : Begun → ℕ → Type 0
IsAt a p = length a.octets ≡ a.origin + p

-- what f spells at the end was appended
pub record Appends (f : Fixed) (a b : Begun) : Type 0 where
  pub origin : b.origin ≡ a.origin
  pub octets : (p : ℕ) → IsAt a p → b.octets ≡ a.octets ++ f p

-- the k octets before a place were set to the count of those from there on
pub record Counts (k begin : ℕ) (a b : Begun) : Type 0 where
  pub origin : b.origin ≡ a.origin
  pub octets : b.octets ≡ take (begin - k) a.octets ++ (octets Little k (length a.octets - begin) ++ drop begin a.octets)
