-- A sample's body, by the definition of values at a place.
use Rattle.std.proofs.Common.{◌≡◌, refl, ap, ◌∙◌, subst, ℕ, true, false, Bool, List, length, cond, ◌==◌, Result, Ok, Err}
use Rattle.xt_shapes.specs.declared.leaves.Ext.{Ext}
use Rattle.xt_shapes.specs.declared.leaves.Order.{Order}
use Rattle.xt_shapes.specs.declared.leaves.Rep.{Rep}
use Rattle.xt_shapes.specs.Shape.{Shape}
use Rattle.xcdr_model.specs.declared.malformed.Why.TheVariants.{Trailing}
use Rattle.xcdr_model.specs.Projection.{Part}
use Rattle.xcdr_model.specs.Reading.{Spot, Reading, fault_at, ◌>>=◌}
use Rattle.xcdr_model.specs.declared.malformed.Fault.{Fault}
use Rattle.xcdr_model.specs.Samples.{Outcome, outcome_of, body_outcome, value_read, top_ext}
use Rattle.shape_laws.specs.Readings.{BodyIsValue}
use Rattle.xt_wire.specs.declared.cursor.faults.DecodeFault.{DecodeFault}
use Rattle.xt_wire.specs.cursor.Standing.{Standing}
use Rattle.xt_wire.specs.cursor.Decoding.{Decodes}
use Rattle.xt_wire.proofs.OfCursor.Ahead.{decodes_as}
use Rattle.xcdr_samples.specs.frames.Frames.{whole_body, sample_at}
use Rattle.xcdr_samples.proofs.OfFrames.Samples.{sample_is}
use Rattle.xcdr_reader.specs.Bodies.{value_outcome}
use Rattle.xcdr_samples.specs.Samples.{sample_outcome}

abbrev made : Part × Spot → Reading Outcome
made x = Ok (outcome_of x.0, x.1)

left_none : (k : Bool) (x : Part × Spot) → (cond k (Ok x.0) (fault_at x.1.at Trailing) >>= λ y. Ok (outcome_of y)) ≡ cond k (Ok (outcome_of x.0)) (fault_at x.1.at Trailing)
unfolding ◌>>=◌
left_none true x = refl
left_none false x = refl

by_value : (r : Reading Part) → ((r >>= λ x. cond (length x.1.rest == 0) (Ok x.0) (fault_at x.1.at Trailing)) >>= λ x. Ok (outcome_of x)) ≡ ((r >>= λ x. made x) >>= λ x. cond (length x.1.rest == 0) (Ok x.0) (fault_at x.1.at Trailing))
unfolding ◌>>=◌
by_value (Ok x) = left_none (length x.1.rest == 0) x
by_value (Err f) = refl

body_is : (r : Rep) (t : Shape) (o : Order) (b : List ℕ) → BodyIsValue → body_outcome r o t b ≡ whole_body (value_outcome r t) o b
unfolding whole_body
body_is r t o b law = ap (λ (x : Result Part Fault). x >>= λ y. Ok (outcome_of y)) (law r o t b) ∙ by_value (value_read r o t (record { at = 0; rest = b }))

-- what is read by head and body is read of the sample
pub by_parts : {T : Type 0} (view : T → Outcome) (rep : Rep) (t : Shape) (e : Ext) {a b : Standing} {r : Result T DecodeFault} → BodyIsValue → e ≡ top_ext t → Decodes view (sample_at rep e (value_outcome rep t)) a b r → Decodes view (sample_outcome rep t) a b r
by_parts view rep t e {a} {b} {r} law is d = decodes_as view (sample_outcome rep t) (sample_at rep (top_ext t) (value_outcome rep t)) (λ s. sample_is rep t (value_outcome rep t) (λ o b. body_is rep t o b law) a.order s.at s.rest) (subst (λ (x : Ext). Decodes view (sample_at rep x (value_outcome rep t)) a b r) is d)
