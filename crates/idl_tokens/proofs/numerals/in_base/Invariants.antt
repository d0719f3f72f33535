use Rattle.std.proofs.Common.{◌≡◌, min, take}
use Rattle.idl_tokens.specs.Numerals.{in_base}
use Rattle.idl_tokens.proofs.numerals.in_base.Given as goal

abbrev pub invariant-loop-b : goal.invariant-loop-b
invariant-loop-b l = (l.n ≡ min (in_base l.base (take l.b-index l.digits)) 1099511627776)
