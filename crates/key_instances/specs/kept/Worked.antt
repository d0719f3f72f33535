-- Worked instances: what is kept of puts, by computation (this profile's own).
use Rattle.std.proofs.Common.{refl}
use Rattle.std.specs.Prelude.{◌≡◌, [], ◌∷◌, true, false}
use Rattle.xt_shapes.specs.Vals.{text}
use Rattle.key_instances.specs.kept.Kept.{Puts, kept, all_put, is_full}

abbrev puts : Puts
puts = (1 ∷ [], text (5 ∷ [])) ∷ (2 ∷ [], text (6 ∷ [])) ∷ (1 ∷ [], text (7 ∷ [])) ∷ (1 ∷ [], text (8 ∷ [])) ∷ []

-- the last value of each key, and the last two
one : kept 1 puts ≡ (1 ∷ [], text (8 ∷ []) ∷ []) ∷ (2 ∷ [], text (6 ∷ []) ∷ []) ∷ []
one = refl

two : kept 2 puts ≡ (1 ∷ [], text (7 ∷ []) ∷ text (8 ∷ []) ∷ []) ∷ (2 ∷ [], text (6 ∷ []) ∷ []) ∷ []
two = refl

step_by_step : all_put 2 [] puts ≡ kept 2 puts
step_by_step = refl

-- with one key at most another is refused, and the same is taken
another : is_full 1 ((1 ∷ [], text (5 ∷ []) ∷ []) ∷ []) (2 ∷ []) ≡ true
another = refl

the_same : is_full 1 ((1 ∷ [], text (5 ∷ []) ∷ []) ∷ []) (1 ∷ []) ≡ false
the_same = refl
