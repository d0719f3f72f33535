-- Finite floats, and the digits of zero.
use Rattle.std.proofs.Common.{◌≡◌, true, not, T, [], ◌∷◌, lit<}
use Rattle.std.specs.Prelude.{decimal}
use Rattle.std.specs.Float.Ieee.{is_nan}
use Rattle.std.specs.Float.{Float, float_is_finite, nan, inf, fin}
use Rattle.std.proofs.lemmas.Fmt.{decimal_digit}

pub finite_is_no_nan : (x : Float) → float_is_finite x ≡ true → T (not (is_nan x))
unfolding float_is_finite is_nan
finite_is_no_nan nan h = cc
finite_is_no_nan (inf s) h = cc
finite_is_no_nan (fin s m e) h = tt

pub zero_is : decimal 0 ≡ 48 ∷ []
zero_is = decimal_digit 0 (lit< tt)
