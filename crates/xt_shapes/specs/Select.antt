-- Members and cases by id, and the case that a number selects (DDS-XTypes 1.3, 7.2.2.4.4).
use Rattle.std.specs.Prelude.{ℕ, ℤ, ◌==◌, ◌||◌, List, Bool, false, Option, Some, None, cond}
use Rattle.std.specs.Ordering.{int_eq}
use Rattle.xt_shapes.specs.Lists.{has, or_else}
use Rattle.xt_shapes.specs.Shape.{Literal, Head, Shape, Members, no_members, member, Cases, no_cases, one_case}

abbrev pub has_member : Members → ℕ → Bool
has_member no_members id = false
has_member (member h t ms) id = (h.id == id) || has_member ms id

-- the type of the first member with that id
abbrev pub shape_at : Members → ℕ → Option Shape
shape_at no_members id = None
shape_at (member h t ms) id = cond (h.id == id) (Some t) (shape_at ms id)

-- the type of the first case with that id
abbrev pub case_at : Cases → ℕ → Option Shape
case_at no_cases id = None
case_at (one_case h t cs) id = cond (h.id == id) (Some t) (case_at cs id)

-- a key member must be understood as one that is marked so
abbrev pub is_must : Head → Bool
is_must h = h.must_understand || h.key

-- a literal has that value
abbrev pub is_literal : List Literal → ℤ → Bool
is_literal literals n = has (λ l. int_eq l.value n) literals

-- the id of the first case with that label
abbrev pub labelled : Cases → ℤ → Option ℕ
labelled no_cases d = None
labelled (one_case h t cs) d = cond (has (int_eq d) h.labels) (Some h.id) (labelled cs d)

-- the id of the first default case
abbrev pub default_case : Cases → Option ℕ
default_case no_cases = None
default_case (one_case h t cs) = cond h.is_default (Some h.id) (default_case cs)

-- The id of the case that has d among its labels, else of the default case. It takes any number d, value of the
-- discriminator or not.
abbrev pub select : Cases → ℤ → Option ℕ
select cs d = or_else (labelled cs d) (default_case cs)
