-- Whether two of a list are the same, anywhere or next to each other (this profile's own).
use Rattle.std.specs.Prelude.{Bool, false, ◌||◌, List, [], ◌∷◌}
use Rattle.xt_shapes.specs.Lists.{has}

-- two of the list are the same
abbrev pub repeats_by : {K : Type 0} → (K → K → Bool) → List K → Bool
repeats_by same [] = false
repeats_by same (k ∷ ks) = has (same k) ks || repeats_by same ks

-- one of the list and the next are the same
abbrev pub next_is_same : {K : Type 0} → (K → K → Bool) → K → List K → Bool
next_is_same same k [] = false
next_is_same same k (l ∷ ks) = same k l || next_is_same same l ks

abbrev pub any_next_is_same : {K : Type 0} → (K → K → Bool) → List K → Bool
any_next_is_same same [] = false
any_next_is_same same (k ∷ ks) = next_is_same same k ks
