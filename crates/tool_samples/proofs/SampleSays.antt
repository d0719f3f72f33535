-- What a reader over a payload in memory says of it.
use Rattle.std.proofs.Common.{◌≡◌, refl, sym, ap, ◌∙◌, subst, ℕ, ◌-◌, List, length, take, Result, Ok, Err, arith}
use Rattle.std.proofs.Math.Seq.{take-length}
use Rattle.xt_shapes.specs.declared.leaves.Rep.{Rep}
use Rattle.xt_shapes.specs.Shape.{Shape}
use Rattle.xcdr_model.specs.declared.malformed.Fault.{Fault}
use Rattle.xcdr_model.specs.declared.malformed.Why.{Why}
use Rattle.xcdr_model.specs.Reading.{Spot}
use Rattle.xcdr_model.specs.Samples.{Outcome, read_sample}
use Rattle.xt_wire.specs.declared.cursor.faults.DecodeFault.TheVariants.{Malformed}
use Rattle.xt_wire.specs.cursor.Standing.{Standing}
use Rattle.xt_wire.specs.cursor.Decoding.{spot, Answers, Decodes}
use Rattle.xt_wire.specs.cursor.Slices.{at_start}
use Rattle.xcdr_samples.specs.frames.Frames.{over_region}
use Rattle.xcdr_samples.specs.Samples.{sample_outcome}
use Rattle.xt_wire.specs.declared.cursor.faults.DecodeFault.{DecodeFault}
use Rattle.xt_wire.specs.declared.cursor.faults.DecodeFault.TheVariants.{ReadFault, OutOfMemory}
use Rattle.settled_parts.specs.declared.settling.Outcome.{Outcome as Settled}
use Rattle.settled_parts.specs.Settling.{outcome_val}
use Rattle.tool_samples.specs.Sampling.{Taken}

said_ok : {T : Type 0} (view : T → Outcome) (q : Result Outcome Fault) (s : Spot) (a b : Standing) (xs : List ℕ) (x : T) → Answers view a b xs (over_region s q) (Ok x) → q ≡ Ok (view x)
said_ok view (Ok y) s a b xs x d = ap (λ (z : Outcome). Ok z) (sym d.value)
said_ok view (Err f) s a b xs x d = absurd d

said_fault : {T : Type 0} (view : T → Outcome) (q : Result Outcome Fault) (s : Spot) (a b : Standing) (xs : List ℕ) (at : ℕ) (why : Why) → a.origin ≡ 0 → s.at ≡ 0 → Answers view a b xs (over_region s q) (Err (Malformed at why)) → q ≡ Err (record { at = at; why = why })
said_fault view (Ok y) s a b xs at why o z d = absurd d
said_fault view (Err f) s a b xs at why o z d =
    let place : at ≡ f.at = omega (arith, d.at, o, z) in
    rw (place, d.why) refl

all_of : (payload : List ℕ) → (spot (at_start payload) payload).rest ≡ payload
all_of payload =
    let whole : length payload - 0 ≡ length payload = omega arith in
    ap (λ (n : ℕ). take n payload) whole ∙ take-length payload

pub says : {T : Type 0} (view : T → Outcome) (rep : Rep) (t : Shape) (payload : List ℕ) {a b : Standing} (x : T) → a ≡ at_start payload → Decodes view (sample_outcome rep t) a b (Ok x) → read_sample rep t payload ≡ Ok (view x)
says view rep t payload {a} {b} x start d =
    let e = subst (λ (c : Standing). Decodes view (sample_outcome rep t) c b (Ok x)) start d in
    let s = at_start payload in
    ap (read_sample rep t) (sym (all_of payload)) ∙ said_ok view (read_sample rep t (spot s payload).rest) (spot s payload) s b payload x (e.told payload refl)

pub faults : {T : Type 0} (view : T → Outcome) (rep : Rep) (t : Shape) (payload : List ℕ) {a b : Standing} (at : ℕ) (why : Why) → a ≡ at_start payload → Decodes {T = T} view (sample_outcome rep t) a b (Err (Malformed at why)) → read_sample rep t payload ≡ Err (record { at = at; why = why })
faults {T} view rep t payload {a} {b} at why start d =
    let e = subst (λ (c : Standing). Decodes {T = T} view (sample_outcome rep t) c b (Err (Malformed at why))) start d in
    let s = at_start payload in
    ap (read_sample rep t) (sym (all_of payload)) ∙ said_fault view (read_sample rep t (spot s payload).rest) (spot s payload) s b payload at why refl refl (e.told payload refl)

-- a device that never fails has no read fault
pub taken_as : (rep : Rep) (t : Shape) (payload : List ℕ) {a b : Standing} (r : Result Settled DecodeFault) → a ≡ at_start payload → b.faults ≡ 0 → Decodes outcome_val (sample_outcome rep t) a b r → Taken (read_sample rep t payload) r
taken_as rep t payload (Ok x) start quiet d = says outcome_val rep t payload x start d
taken_as rep t payload (Err (Malformed at why)) start quiet d = faults outcome_val rep t payload at why start d
taken_as rep t payload (Err ReadFault) start quiet d = absurd (omega (arith, quiet, d.cause))
taken_as rep t payload (Err OutOfMemory) start quiet d = tt
