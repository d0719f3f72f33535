-- The pairs of cases that the labels of some cases select (DDS-XTypes 1.3, 7.2.4.4).
use Rattle.std.specs.Prelude.{ℕ, Bool, ◌==◌, ◌&&◌}
use Rattle.xt_shapes.specs.Lists.{has}
use Rattle.xt_shapes.specs.Shape.{Cases, case_heads}
use Rattle.xcdr_model.specs.Failure.{is_met}

-- a label of a case of `side` with the id n selects the cases i and j
abbrev pub is_met_by : Cases → Cases → Cases → ℕ → ℕ → ℕ → Bool
is_met_by cs ds side n i j = has (λ h. (h.id == n) && is_met cs ds h.labels i j) (case_heads side)
