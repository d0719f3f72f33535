-- Names that are taken (this profile's own).
use Rattle.std.specs.Prelude.{ℕ, Bool, false, ◌||◌, List, [], ◌∷◌}
use Rattle.std.specs.Str.{bytes_eq}

-- whether a name is among others
abbrev pub has : List ℕ → List (List ℕ) → Bool
has name [] = false
has name (n ∷ ns) = bytes_eq name n || has name ns
