-- A union's case, settled (DDS-XTypes 1.3, 7.2.2.7).
use Rattle.std.specs.Prelude.{Bool, false}
use Rattle.std.specs.Option.{option_map}
use Rattle.type_trees.specs.View.{val}
use Rattle.xcdr_model.specs.Projection.{Body, no_body, one_sided, settled_body}
use Rattle.try_construct.specs.declared.unions.SettledCase.{SettledCase}
use Rattle.try_construct.specs.declared.unions.SettledCase.TheVariants.{NoCase, OneSided, Settled}

abbrev pub case_of : SettledCase → Body × Bool
case_of NoCase = (no_body, false)
case_of OneSided = (one_sided, false)
case_of (Settled v u) = (settled_body (option_map val v), u)
