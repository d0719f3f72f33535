-- The keys of a map, by kind (this profile's own).
use Rattle.std.specs.Prelude.{ℕ, ℤ, List, [], ◌∷◌}
use Rattle.xt_shapes.specs.Vals.{Val, int, text}

abbrev pub and_number : Val → List ℤ → List ℤ
and_number (int i) ns = i ∷ ns
and_number _ ns = ns

abbrev pub and_text : Val → List (List ℕ) → List (List ℕ)
and_text (text t) ts = t ∷ ts
and_text _ ts = ts

-- the keys that are numbers
abbrev pub number_keys : List (Val × Val) → List ℤ
number_keys [] = []
number_keys (x ∷ xs) = and_number x.0 (number_keys xs)

-- the keys that are texts
abbrev pub text_keys : List (Val × Val) → List (List ℕ)
text_keys [] = []
text_keys (x ∷ xs) = and_text x.0 (text_keys xs)
