-- What it means that a call on a writer writes a spelling (this profile's own; alignment is that of DDS-XTypes 1.3, 7.4).
use Rattle.std.specs.Prelude.{◌≡◌, ℕ, ◌+◌, ◌^◌, ◌%◌, ◌≤◌, ◌<◌, List, length, replicate, Result, Ok, Err}
use Rattle.xt_outside.specs.Outside.{Rose, AppendsAll, AppendsPrefix}
use Rattle.xt_outside.specs.declared.octets.Failed.{Failed}
use Rattle.xcdr_model.specs.FixedSpelling.{Fixed}
use Rattle.xcdr_model.specs.Numbers.{padding}
use Rattle.xt_wire.specs.writer.Written.{Written}

-- zeros up to the next multiple of m
abbrev pub padding_fixed : ℕ → Fixed
padding_fixed m p = replicate (padding m p) 0

-- The writer stands p octets behind its origin. Its place counts them without end, and goes round at 2 to the 64.
unfoldable pub IsAt : Written → ℕ → Type 0
IsAt w p = w.place ≡ (w.origin + p) % 2 ^ 64

-- the writer wrote all of these octets
pub record Puttable (a b : Written) (xs : List ℕ) : Type 0 where
  pub place : b.place ≡ (a.place + length xs) % 2 ^ 64
  pub taken : AppendsAll a.taken b.taken xs

-- it wrote some of the first of these octets, and its sink failed
pub record Stuck (a b : Written) (xs : List ℕ) : Type 0 where
  pub taken : AppendsPrefix a.taken b.taken xs
  pub rose : Rose a.faults b.faults

abbrev pub Put : {T : Type 0} → Written → Written → List ℕ → Result T Failed → Type 0
Put a b xs (Ok t) = Puttable a b xs
Put a b xs (Err e) = Stuck a b xs

-- what every call on a writer keeps
pub record Keeps (a b : Written) : Type 0 where
  pub order : b.order ≡ a.order
  pub origin : b.origin ≡ a.origin
  pub name : b.name ≡ a.name
  pub faults : a.faults ≤ b.faults

-- Ok wrote what f spells at the writer's place. Err wrote a beginning of it, and comes only where the sink's count of faults rose.
pub record Puts {T : Type 0} (f : Fixed) (a b : Written) (result : Result T Failed) : Type 0 where
  pub keeps : Keeps a b
  pub put : (p : ℕ) → IsAt a p → Put a b (f p) result

-- The same, where it has fewer octets than the limit.
pub record PutsWithin {T : Type 0} (limit : ℕ) (f : Fixed) (a b : Written) (result : Result T Failed) : Type 0 where
  pub keeps : Keeps a b
  pub put : (p : ℕ) → IsAt a p → length (f p) < limit → Put a b (f p) result
