-- Members and cases of which no more is known than what stands beside their types (this profile's own). The rules at a node read no more.
use Rattle.std.specs.Prelude.{List, [], ◌∷◌}
use Rattle.xt_shapes.specs.declared.leaves.Primitive.{Primitive}
use Rattle.xt_shapes.specs.Shape.{Head, CaseHead, Shape, prim, Members, no_members, member, Cases, no_cases, one_case}

-- a type that no rule reads
abbrev pub unread : Shape
unread = prim Primitive.Boolean

abbrev pub bare : List Head → Members
bare [] = no_members
bare (h ∷ hs) = member h unread (bare hs)

abbrev pub bare_cases : List CaseHead → Cases
bare_cases [] = no_cases
bare_cases (h ∷ hs) = one_case h unread (bare_cases hs)
