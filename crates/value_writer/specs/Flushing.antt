-- A block of octets that were not yet written (this profile's own).
use Rattle.std.specs.Prelude.{◌≡◌, ℕ, ◌≤◌, List, ◌++◌, length, Result, Ok, Err}
use Rattle.xt_outside.specs.declared.octets.Failed.{Failed}
use Rattle.xt_wire.specs.writer.Written.{Written}
use Rattle.xt_wire.specs.writer.Writing.{Puts}

-- what is left in it, with room for another number
abbrev pub IsLeft : List ℕ → List ℕ → Result (Unit {0}) Failed → Type 0
IsLeft rest new (Ok t) = (new ≡ rest) × (length rest ≤ 496)
IsLeft rest new (Err e) = Unit {0}

-- Its first octets were written, and the rest is left.
pub record Flushes (old new : List ℕ) (a b : Written) (result : Result (Unit {0}) Failed) : Type 0 where
  pub done : List ℕ
  pub rest : List ℕ
  pub parts : old ≡ done ++ rest
  pub put : Puts (λ p. done) a b result
  pub left : IsLeft rest new result
