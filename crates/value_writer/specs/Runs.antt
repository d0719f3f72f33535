-- Numbers one after another (DDS-XTypes 1.3, 7.4): in a list of numbers of one size only the first is padded.
use Rattle.std.specs.Prelude.{ℕ, List, [], ◌∷◌, ◌++◌}
use Rattle.xt_shapes.specs.declared.leaves.Order.{Order}
use Rattle.xt_shapes.specs.Vals.{Val, number_in}
use Rattle.xcdr_model.specs.FixedSpelling.{Fixed, number_fixed, each_fixed}
use Rattle.xcdr_model.specs.Numbers.{octets, raw}

-- the numbers of these values, each of k octets, aligned to its size and at most to m
abbrev pub run_fixed : ℕ → Order → ℕ → List Val → Fixed
run_fixed m o k vs = each_fixed (λ v. number_fixed m o k (raw k (number_in v))) vs

-- their octets without any padding
abbrev pub digits_of : Order → ℕ → List Val → List ℕ
digits_of o k [] = []
digits_of o k (v ∷ vs) = octets o k (raw k (number_in v)) ++ digits_of o k vs
