-- Which case of a union is read, by its position (DDS-XTypes 1.3, 7.2.2.4.4).
use Rattle.std.specs.Prelude.{ℕ, ◌<◌, ℤ, Bool, cond, not, ◌&&◌, Option, Some, None}
use Rattle.xt_shapes.specs.Shape.{Cases}
use Rattle.try_construct.specs.Guides.{selected_index}
use Rattle.xcdr_steps.specs.declared.reading.choices.Choice as declared
use Rattle.xcdr_steps.specs.declared.reading.choices.Choice.TheVariants.{NoCase, OneSided, Case}

abbrev pub choice_of : Bool → Bool → Option ℕ → declared.Choice
choice_of filled ended None = cond (filled && not ended) OneSided NoCase
choice_of filled ended (Some at) = cond (filled && ended) OneSided (Case at)

-- The case that the number selects. Where it is `filled`, it is there exactly where the region has not ended before it.
abbrev pub choice : Bool → Bool → Cases → ℤ → declared.Choice
choice filled ended cs d = choice_of filled ended (selected_index cs d)

-- a case that is chosen is one of n
abbrev pub IsInside : ℕ → declared.Choice → Type 0
IsInside n NoCase = Unit {0}
IsInside n OneSided = Unit {0}
IsInside n (Case at) = at < n
