-- What a projection gives: the value of a sample has the reader's type (this profile's own).
use Rattle.std.specs.Prelude.{IsTrue}
use Rattle.xt_shapes.specs.Shape.{Shape}
use Rattle.xt_shapes.specs.Typing.{has_type}
use Rattle.type_trees.specs.View.{val}
use Rattle.settled_parts.specs.declared.settling.Outcome.{Outcome}
use Rattle.settled_parts.specs.declared.settling.Outcome.TheVariants.{Sample, Discarded, MustUnderstand}

-- the value of a sample has the type
abbrev pub IsTyped : Shape → Outcome → Type 0
IsTyped t (Sample v) = IsTrue (has_type t (val v))
IsTyped t Discarded = Unit {0}
IsTyped t MustUnderstand = Unit {0}
