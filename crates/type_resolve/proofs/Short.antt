-- An object's text is within the limit.
use Rattle.std.proofs.Common.{◌≡◌, ℕ, ◌≤◌, List, length, refl}
use Rattle.std.proofs.lemmas.Bool.{ltb-false}
use Rattle.std.specs.Prelude.{Bool, true, false, cond, nat_lt, Result, Ok, Err}
use Rattle.object_formats.specs.declared.faults.Fault.{Fault}
use Rattle.object_formats.specs.Objects.{Object}
use Rattle.object_formats.specs.Tables.{object_of}

guard : (b : Bool) (f : Fault) (r : Result Object Fault) (o : Object) → cond b (Err f) r ≡ Ok o → b ≡ false
guard true f r o e = absurd cc
guard false f r o e = refl

pub is_short : (bs : List ℕ) (o : Object) → object_of bs ≡ Ok o → length bs ≤ 131072
unfolding object_of
is_short bs o e = ltb-false 131072 (length bs) (guard (nat_lt 131072 (length bs)) _ _ o e)
