-- What the declared types of a text keep: each is valid, and what each structure names as its base is a structure of the same extensibility
-- (DDS-XTypes 1.3, 7.2.2).
use Rattle.std.specs.Prelude.{◌≡◌, ℕ, Bool, true, false, List, Option, Some, None}
use Rattle.xt_shapes.specs.declared.leaves.Step.{Step}
use Rattle.xt_shapes.specs.Lists.{all}
use Rattle.type_rules.specs.Valid.{type_fault}
use Rattle.idl_types.specs.State.{Declared}
use Rattle.idl_types.specs.declared.declarations.Declaration.{Declaration}
use Rattle.idl_types.specs.Definitions.{declared, all_fit}

abbrev pub is_clear : Option (ℕ × List Step) → Bool
is_clear None = true
is_clear (Some fault) = false

-- each type of the list is valid
abbrev pub all_valid : Declared → Bool
all_valid ds = all (λ d. is_clear (type_fault d.1)) ds

pub record AreKept (ds : List Declaration) : Type 0 where
  pub fit : all_fit ds ≡ true
  pub valid : all_valid (declared ds) ≡ true
