-- What the laws ask of the program's types (this profile's own).
use Rattle.std.specs.Prelude.{◌≡◌, None, ◌⊎◌}
use Rattle.xt_shapes.specs.declared.leaves.Rep.{Rep}
use Rattle.type_trees.specs.declared.types.XType.{XType}
use Rattle.type_trees.specs.View.{tree}
use Rattle.type_trees.specs.Bridge.{type_shape}
use Rattle.type_rules.specs.Valid.{type_fault}
use Rattle.xcdr_model.specs.declared.verdict.Policy.{Policy}
use Rattle.xcdr_model.specs.Assignable.{Assignable, Fits, Strong}

-- no rule of valid types fails
abbrev pub IsValid : XType → Type 0
IsValid ty = type_fault (tree ty) ≡ None

-- The reader's type is assignable from the writer's under the policy, or equivalent to it.
abbrev pub IsYes : Policy → Rep → XType → XType → Type 0
IsYes policy rep reader writer = (type_shape reader ≡ type_shape writer) ⊎ Assignable policy rep (type_shape reader) (type_shape writer)

-- The same of a pair inside such types: the reader's fits, or is equivalent.
abbrev pub FitsInside : Policy → Rep → XType → XType → Type 0
FitsInside policy rep reader writer = (type_shape reader ≡ type_shape writer) ⊎ Fits policy rep (type_shape reader) (type_shape writer)

-- The types are equivalent, or the writer's is delimited and the reader's fits: a value ends where it says itself.
abbrev pub IsStrongPair : Policy → Rep → XType → XType → Type 0
IsStrongPair policy rep reader writer = Strong rep (λ t. Fits policy rep (type_shape reader) t) (type_shape reader) (type_shape writer)
