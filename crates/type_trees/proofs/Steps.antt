-- The steps of a path in print.
use Rattle.std.proofs.Common.{◌≡◌, ℕ, ◌+◌, List, [], ◌∷◌, ◌++◌, length, take, get_or, refl, ap, ◌∙◌, sym, append_assoc, append-nil, ◌<◌}
use Rattle.std.proofs.lemmas.List.{take_more}
use Rattle.xt_shapes.specs.declared.leaves.Step.{Step}
use Rattle.xt_shapes.specs.Words.{step_text}
use Rattle.type_trees.specs.Paths.{steps_text}

steps_append : (xs ys : List Step) → steps_text (xs ++ ys) ≡ steps_text xs ++ steps_text ys
steps_append [] ys = refl
steps_append (x ∷ xs) ys = ap (λ l. (47 ∷ step_text x) ++ l) (steps_append xs ys) ∙ sym (append_assoc (47 ∷ step_text x) (steps_text xs) (steps_text ys))

-- one more step; which d stands for steps past the end doesn't matter
pub steps_more : (path : List Step) (i : ℕ) (d : Step) → i < length path → steps_text (take (i + 1) path) ≡ steps_text (take i path) ++ (47 ∷ step_text (get_or path i d))
steps_more path i d within =
    ap steps_text (take_more path i d within) ∙ steps_append (take i path) (get_or path i d ∷ []) ∙ ap (λ l. steps_text (take i path) ++ l) (append-nil (47 ∷ step_text (get_or path i d)))
