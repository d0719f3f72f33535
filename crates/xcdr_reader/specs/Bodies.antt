-- The outcome of a value in a cursor's region, and what may be left behind it (this profile's own).
use Rattle.std.specs.Prelude.{Ok, cond, length, ◌==◌}
use Rattle.xt_shapes.specs.declared.leaves.Order.{Order}
use Rattle.xt_shapes.specs.declared.leaves.Rep.{Rep}
use Rattle.xt_shapes.specs.declared.leaves.Rep.TheVariants.{Xcdr1, Xcdr2}
use Rattle.xt_shapes.specs.Shape.{Shape, union}
use Rattle.xcdr_model.specs.declared.malformed.Why.TheVariants.{Trailing}
use Rattle.xcdr_model.specs.Reading.{Spot, Reading, fault_at, ◌>>=◌}
use Rattle.xcdr_model.specs.Samples.{Outcome, outcome_of, value_read}

abbrev pub value_outcome : Rep → Shape → Order → Spot → Reading Outcome
value_outcome r t o s = value_read r o t s >>= λ x. Ok (outcome_of x.0, x.1)

-- no octet of the region is left
abbrev pub nothing_left : Spot → Reading (Unit {0})
nothing_left s = cond (length s.rest == 0) (Ok (tt, s)) (fault_at s.at Trailing)

abbrev pub behind_union : Shape → Spot → Reading (Unit {0})
behind_union (union e key disc cs) s = nothing_left s
behind_union _ s = Ok (tt, s)

-- what may be left behind a value: in XCDR1 nothing behind a union, whose case has the rest of the region
abbrev pub value_end : Rep → Shape → Order → Spot → Reading (Unit {0})
value_end Xcdr1 t o s = behind_union t s
value_end Xcdr2 t o s = Ok (tt, s)
