-- One or more parts of a definition, each read by a step from what was gathered before it (this profile's own). The number bounds the turns:
-- each part has an octet at least.
use Rattle.std.specs.Prelude.{◌≡◌, ◌≢◌, ℕ, zero, suc, if◌then◌else◌, Result, Ok, Err, codes}
use Rattle.idl_input.specs.declared.faults.IdlFault.{IdlFault}
use Rattle.idl_input.specs.declared.faults.IdlFault.TheVariants as fault
use Rattle.idl_input.specs.Input.{Input, Outcome, Parser, ◌>>=◌, pure, syntax, eat, turns}

-- with `,` between them
unfoldable pub comma_from : {A : Type 0} → (A → Parser A) → ℕ → A → Parser A
comma_from step zero a = pure a
comma_from step (suc n) a = do
  b ← step a
  more ← eat (codes ",")
  if more then comma_from step n b else pure b

abbrev pub with_commas : {A : Type 0} → (A → Parser A) → A → Parser A
with_commas step a = λ i. comma_from step (turns i) a i

-- up to `}`
unfoldable pub braced_from : {A : Type 0} → (A → Parser A) → ℕ → A → Parser A
braced_from step zero a = syntax
braced_from step (suc n) a = do
  b ← step a
  over ← eat (codes "}")
  if over then pure b else braced_from step n b

abbrev pub to_brace : {A : Type 0} → (A → Parser A) → A → Parser A
to_brace step a = λ i. braced_from step (turns i) a i

-- ---- what a function that reads ensures of what it is lent: the definition's outcome, unless memory was wanting

abbrev pub Goes : {X A U : Type 0} → (X → A) → Outcome A → Result U IdlFault → X → Input → Type 0
Goes view outcome (Ok u) x new = outcome ≡ Ok (view x, new)
Goes view outcome (Err e) x new = e ≢ fault.OutOfMemory → outcome ≡ Err e
