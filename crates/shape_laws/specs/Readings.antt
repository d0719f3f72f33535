-- Laws: a reading (DDS-XTypes 1.3, 7.4) gives at most one outcome, of the reader's type, and not too large (this profile's own).
use Rattle.std.specs.Prelude.{◌≡◌, ℕ, ◌+◌, ◌*◌, ◌≤◌, Bool, List, length, nat_lt, Result, Ok, Err, IsTrue, ◌⊎◌, cond, ◌==◌}
use Rattle.xt_shapes.specs.declared.leaves.Order.{Order}
use Rattle.xt_shapes.specs.declared.leaves.Rep.{Rep}
use Rattle.xt_shapes.specs.Lists.{all}
use Rattle.xt_shapes.specs.NodeRules.{rules_hold}
use Rattle.xt_shapes.specs.Nodes.{nodes}
use Rattle.xt_shapes.specs.Shape.{Shape}
use Rattle.xt_shapes.specs.Typing.{has_type}
use Rattle.xt_shapes.specs.Vals.{Val}
use Rattle.xt_shapes.specs.Weight.{weight}
use Rattle.xcdr_model.specs.declared.malformed.Fault.{Fault}
use Rattle.xcdr_model.specs.declared.malformed.Why.TheVariants.{Trailing}
use Rattle.xcdr_model.specs.Projection.{got}
use Rattle.xcdr_model.specs.Reading.{Spot, fault_at, ◌>>=◌}
use Rattle.xcdr_model.specs.Samples.{Outcome, sample, value_read, body_read, body_outcome, read_sample}

-- one outcome and no fault, or one place and reason and no outcome
pub record OneOf (x : Result Outcome Fault) : Type 0 where
  pub some : ((a : Outcome) × (x ≡ Ok a)) ⊎ ((f : Fault) × (x ≡ Err f))
  pub one_outcome : (a b : Outcome) → x ≡ Ok a → x ≡ Ok b → a ≡ b
  pub one_fault : (f g : Fault) → x ≡ Err f → x ≡ Err g → f ≡ g
  pub not_both : (a : Outcome) (f : Fault) → x ≡ Ok a → x ≡ Err f → ⊥

-- Any octets have, by the reader's type alone, exactly one outcome or one first fault, as a body and as a sample.
abbrev pub OneReading : Type 0
OneReading = (r : Rep) (o : Order) (t : Shape) (b : List ℕ) → OneOf (body_outcome r o t b) × OneOf (read_sample r t b)

-- A body is a value with nothing left behind it.
abbrev pub BodyIsValue : Type 0
BodyIsValue = (r : Rep) (o : Order) (t : Shape) (b : List ℕ) → body_read r o t b ≡ (value_read r o t (record { at = 0; rest = b }) >>= λ x. cond (length x.1.rest == 0) (Ok x.0) (fault_at x.1.at Trailing))

-- What is read of octets has the reader's type: of a value at any place in a region, of a body, and of a sample.
abbrev pub ValueTyped : Type 0
ValueTyped = (r : Rep) (o : Order) (t : Shape) (s s2 : Spot) (v : Val) (u : Bool) → IsTrue (rules_hold t) → IsTrue (all (λ c. nat_lt c 256) s.rest) → value_read r o t s ≡ Ok ((got v, u), s2) → IsTrue (has_type t v)

abbrev pub ReadTyped : Type 0
ReadTyped = (r : Rep) (o : Order) (t : Shape) (b : List ℕ) (v : Val) (u : Bool) → IsTrue (rules_hold t) → IsTrue (all (λ c. nat_lt c 256) b) → body_read r o t b ≡ Ok (got v, u) → IsTrue (has_type t v)

abbrev pub SampleTyped : Type 0
SampleTyped = (r : Rep) (t : Shape) (s : List ℕ) (v : Val) → IsTrue (rules_hold t) → IsTrue (all (λ c. nat_lt c 256) s) → read_sample r t s ≡ Ok (sample v) → IsTrue (has_type t v)

-- What is read has at most its type's weight and 128 nodes for each octet that was read: of a value at any place in a region, of a body,
-- and of a sample.
abbrev pub ValueNodesBound : Type 0
ValueNodesBound = (r : Rep) (o : Order) (t : Shape) (s s2 : Spot) (v : Val) (u : Bool) → IsTrue (rules_hold t) → value_read r o t s ≡ Ok ((got v, u), s2) → nodes v + 128 * length s2.rest ≤ weight t + 128 * length s.rest

abbrev pub NodesBound : Type 0
NodesBound = (r : Rep) (o : Order) (t : Shape) (b : List ℕ) (v : Val) (u : Bool) → IsTrue (rules_hold t) → body_read r o t b ≡ Ok (got v, u) → nodes v ≤ weight t + 128 * length b

abbrev pub SampleNodesBound : Type 0
SampleNodesBound = (r : Rep) (t : Shape) (s : List ℕ) (v : Val) → IsTrue (rules_hold t) → read_sample r t s ≡ Ok (sample v) → nodes v ≤ weight t + 128 * length s
