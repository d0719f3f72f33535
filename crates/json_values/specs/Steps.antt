-- Where a reading ends: with a value, or with a rule and the steps to its place (this profile's own).
use Rattle.std.specs.Prelude.{◌≡◌, ℕ, [], ◌∷◌, length, Result, Ok, Err, IfErr}
use Rattle.xt_shapes.specs.declared.leaves.Step.{Step}
use Rattle.json_values.specs.declared.faults.JsonRule.{JsonRule}
use Rattle.json_values.specs.declared.faults.ValueFault.{ValueFault}
use Rattle.json_values.specs.declared.faults.ValueFault.TheVariants.{NotJson, Wrong, OutOfMemory}

abbrev pub Reading : Type 0 → Type 0
Reading A = Result A ValueFault

abbrev pub here : {A : Type 0} → JsonRule → Reading A
here rule = Err (Wrong [] rule)

abbrev pub fault_beneath : Step → ValueFault → ValueFault
fault_beneath step NotJson = NotJson
fault_beneath step (Wrong path rule) = Wrong (step ∷ path) rule
fault_beneath step OutOfMemory = OutOfMemory

abbrev pub beneath : {A : Type 0} → Step → Reading A → Reading A
beneath step (Ok v) = Ok v
beneath step (Err e) = Err (fault_beneath step e)

abbrev pub and_then : {A B : Type 0} → Reading A → (A → Reading B) → Reading B
and_then (Ok v) f = f v
and_then (Err e) f = Err e

abbrev pub mapped_to : {A B : Type 0} → (A → B) → Reading A → Reading B
mapped_to f (Ok v) = Ok (f v)
mapped_to f (Err e) = Err e

-- how many steps a fault has
abbrev pub steps_of : ValueFault → ℕ
steps_of NotJson = 0
steps_of (Wrong path rule) = length path
steps_of OutOfMemory = 0

-- the fault of a call that reads is the reading's, unless memory is wanting
abbrev pub FailsAs : {A B : Type 0} → Reading A → Result B ValueFault → Type 0
FailsAs reading result = IfErr result (λ e. ¬ (e ≡ OutOfMemory) → reading ≡ Err e)
