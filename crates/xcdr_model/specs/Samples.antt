-- A whole sample: encapsulation, body and counted padding (DDS-XTypes 1.3, 7.6.3.1.2: the encapsulation identifier and the padding that
-- its options count). Its outcome is the value, or that it is discarded, or that a member had to be understood.
use Rattle.std.specs.Prelude.{true, ℕ, ◌+◌, ◌-◌, ◌%◌, ◌/◌, ◌*◌, List, ◌∷◌, cond, Result, Ok, Err, length, take, nat_lt, ◌==◌}
use Rattle.xt_shapes.specs.declared.leaves.Ext.{Ext}
use Rattle.xt_shapes.specs.declared.leaves.Ext.TheVariants.{Final, Appendable, Mutable}
use Rattle.xt_shapes.specs.declared.leaves.Order.{Order}
use Rattle.xt_shapes.specs.declared.leaves.Order.TheVariants.{Big, Little}
use Rattle.xt_shapes.specs.declared.leaves.Rep.{Rep}
use Rattle.xt_shapes.specs.declared.leaves.Rep.TheVariants.{Xcdr1, Xcdr2}
use Rattle.xt_shapes.specs.Shape.{Shape, structure, union}
use Rattle.xt_shapes.specs.Vals.{Val}
use Rattle.xcdr_model.specs.declared.malformed.Fault.{Fault}
use Rattle.xcdr_model.specs.declared.malformed.Why.TheVariants.{Encapsulation, Trailing}
use Rattle.xcdr_model.specs.Projection.{got, over, failed, Part, projected}
use Rattle.xcdr_model.specs.Reading.{fault_at, ◌>>=◌, Reading, Spot}
use Rattle.xcdr_model.specs.Xcdr1Reading.{read_body1, read1}
use Rattle.xcdr_model.specs.Xcdr2Reading.{read_body, read}

pub data Outcome : Type 0 where
  sample : Val → Outcome
  discarded : Outcome
  must_understand : Outcome

abbrev pub outcome_of : Part → Outcome
outcome_of x = cond x.1 must_understand (elim x.0 [ got v ↦ sample v | over v ↦ discarded | failed ↦ discarded ])

abbrev pub top_ext : Shape → Ext
top_ext (structure e ms) = e
top_ext (union e key disc cs) = e
top_ext _ = Final

-- half the identifier; the other half tells the byte order
abbrev pub row_of : Rep → Ext → ℕ
row_of Xcdr1 Final = 0
row_of Xcdr1 Appendable = 0
row_of Xcdr1 Mutable = 1
row_of Xcdr2 Final = 3
row_of Xcdr2 Appendable = 4
row_of Xcdr2 Mutable = 5

abbrev pub order_of : ℕ → Order
order_of n = cond (n == 0) Big Little

-- what a reader of the first type makes of a value of the second
abbrev pub projection : Shape → Shape → Val → Outcome
projection t t2 v = outcome_of (projected t t2 v)

-- A value at a place. What is left behind it in its region is no fault, except behind a union in XCDR1, whose case has the rest.
abbrev pub union_whole : Shape → Part × Spot → Reading Part
union_whole (union e key disc cs) x = cond (length x.1.rest == 0) (Ok x) (fault_at x.1.at Trailing)
union_whole _ x = Ok x

abbrev pub value_read : Rep → Order → Shape → Spot → Reading Part
value_read Xcdr1 o t s = read1 true o t s >>= λ x. union_whole t x
value_read Xcdr2 o t s = read o t s

-- a body: the value is all of it
abbrev pub body_read : Rep → Order → Shape → List ℕ → Result Part Fault
body_read Xcdr1 = read_body1
body_read Xcdr2 = read_body

abbrev pub body_outcome : Rep → Order → Shape → List ℕ → Result Outcome Fault
body_outcome r o t b = body_read r o t b >>= λ x. Ok (outcome_of x)

-- places are counted from the sample's first octet
abbrev pub past_head : {A : Type 0} → Result A Fault → Result A Fault
past_head (Ok x) = Ok x
past_head (Err f) = Err (record { at = f.at + 4; why = f.why })

abbrev pub body_of : Rep → Shape → ℕ → ℕ → List ℕ → Result Outcome Fault
body_of r t id pad b = cond (id / 2 == row_of r (top_ext t))
    (cond (nat_lt (length b) pad) (fault_at 2 Encapsulation) (past_head (body_outcome r (order_of (id % 2)) t (take (length b - pad) b))))
    (fault_at 0 Encapsulation)

unfoldable pub read_sample : Rep → Shape → List ℕ → Result Outcome Fault
read_sample r t (a ∷ b ∷ c ∷ d ∷ body) = body_of r t (256 * a + b) (d % 4) body
read_sample r t _ = fault_at 0 Encapsulation
