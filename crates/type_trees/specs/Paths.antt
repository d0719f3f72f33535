-- How the path to a part of a type or value is printed (this profile's own).
use Rattle.std.specs.Prelude.{ℕ, List, [], ◌∷◌, ◌++◌, ◌==◌, length, codes, if◌then◌else◌}
use Rattle.xt_shapes.specs.declared.leaves.Step.{Step}
use Rattle.xt_shapes.specs.Words.{step_text}

-- each step behind a `/`
abbrev pub steps_text : List Step → List ℕ
steps_text [] = []
steps_text (s ∷ ss) = (47 ∷ step_text s) ++ steps_text ss

-- `/` alone is the whole
abbrev pub path_text : List Step → List ℕ
path_text path = if length path == 0 then codes "/" else steps_text path
