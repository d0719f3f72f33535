-- What a sample is that was read in memory, from its first octet on.
use Rattle.std.proofs.Common.{◌≡◌, ℕ, ◌-◌, List, length, take, take_all, Result, Ok, Err, refl, sym, ap, ◌∙◌, arith}
use Rattle.xt_shapes.specs.declared.leaves.Rep.{Rep}
use Rattle.xt_shapes.specs.Shape.{Shape}
use Rattle.xcdr_model.specs.declared.malformed.Fault.{Fault}
use Rattle.xcdr_model.specs.declared.malformed.Why.{Why}
use Rattle.xcdr_model.specs.Reading.{Spot}
use Rattle.xcdr_model.specs.Samples as samples
use Rattle.xcdr_model.specs.Samples.{read_sample}
use Rattle.settled_parts.specs.declared.settling.Outcome.{Outcome}
use Rattle.settled_parts.specs.Settling.{outcome_val}
use Rattle.xt_wire.specs.declared.cursor.faults.DecodeFault.TheVariants as faults
use Rattle.xt_wire.specs.cursor.Decoding.{Answers, Decodes}
use Rattle.xt_wire.specs.cursor.Slices.{at_start}
use Rattle.xt_wire.specs.cursor.Standing.{Standing}
use Rattle.xcdr_samples.specs.frames.Frames.{over_region}
use Rattle.xcdr_samples.specs.Samples.{sample_outcome}

by_value : (m : Result samples.Outcome Fault) (a b : Standing) (xs : List ℕ) (s : Spot) (x : Outcome) → Answers outcome_val a b xs (over_region s m) (Ok x) → m ≡ Ok (outcome_val x)
by_value (Ok y) a b xs s x p = ap (λ (z : samples.Outcome). Ok z) (sym p.value)
by_value (Err f) a b xs s x p = absurd p

no_value : (m : Result samples.Outcome Fault) (a b : Standing) (xs : List ℕ) (s : Spot) (at : ℕ) (why : Why) (y : samples.Outcome) → m ≡ Ok y → Answers outcome_val a b xs (over_region s m) (Err (faults.Malformed at why)) → ⊥
no_value (Ok x) a b xs s at why y e p = p
no_value (Err f) a b xs s at why y e p = cc

-- all of the octets are ahead
all_ahead : (xs : List ℕ) → take (length xs - 0) xs ≡ xs
all_ahead xs = take_all (length xs - 0) xs (omega arith)

same_outcome : (m : Result samples.Outcome Fault) (x y : samples.Outcome) → m ≡ Ok x → m ≡ Ok y → x ≡ y
same_outcome m x y e f = cc

-- a value that comes is the one that the octets are read as
pub value_found : (r : Rep) (t : Shape) (xs : List ℕ) (b : Standing) (x : Outcome) (y : samples.Outcome) → read_sample r t xs ≡ Ok y → Decodes outcome_val (sample_outcome r t) (at_start xs) b (Ok x) → outcome_val x ≡ y
value_found r t xs b x y e d =
    let ahead : read_sample r t (take (length xs - 0) xs) ≡ Ok (outcome_val x) = by_value _ _ _ _ _ _ (d.told xs refl) in
    same_outcome (read_sample r t xs) (outcome_val x) y (ap (read_sample r t) (sym (all_ahead xs)) ∙ ahead) e

-- what is read has no fault
pub no_fault_found : (r : Rep) (t : Shape) (xs : List ℕ) (b : Standing) (at : ℕ) (why : Why) (y : samples.Outcome) → read_sample r t xs ≡ Ok y → Decodes outcome_val (sample_outcome r t) (at_start xs) b (Err (faults.Malformed at why)) → ⊥
no_fault_found r t xs b at why y e d = no_value (read_sample r t (take (length xs - 0) xs)) _ _ _ _ at why y (ap (read_sample r t) (all_ahead xs) ∙ e) (d.told xs refl)
