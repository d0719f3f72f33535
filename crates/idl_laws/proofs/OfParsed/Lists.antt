-- What each step keeps, the whole list keeps.
use Rattle.std.proofs.Common.{ℕ, zero, suc}
use Rattle.std.specs.Prelude.{codes}
use Rattle.idl_input.specs.Input.{Parser, turns}
use Rattle.idl_definitions.specs.Lists.{comma_from, with_commas, braced_from, to_brace}
use Rattle.idl_laws.proofs.OfParsed.Gives.{Yields, bind, given, fails, by_input, at_input, if_eaten}

comma_yields : {A : Type 0} (step : A → Parser A) (P : A → Type 0) → ((a : A) → P a → Yields (step a) P) → (n : ℕ) (a : A) → P a → Yields (comma_from step n a) P
unfolding comma_from
comma_yields step P keeps zero a holds = given holds
comma_yields step P keeps (suc n) a holds = bind (keeps a holds) (λ b more. if_eaten (codes ",") (comma_yields step P keeps n b more) (given more))

pub commas_yield : {A : Type 0} (step : A → Parser A) (P : A → Type 0) → ((a : A) → P a → Yields (step a) P) → (a : A) → P a → Yields (with_commas step a) P
commas_yield step P keeps a holds = by_input (λ i. at_input (comma_yields step P keeps (turns i) a holds) i)

braced_yields : {A : Type 0} (step : A → Parser A) (P : A → Type 0) → ((a : A) → P a → Yields (step a) P) → (n : ℕ) (a : A) → P a → Yields (braced_from step n a) P
unfolding braced_from
braced_yields step P keeps zero a holds = fails
braced_yields step P keeps (suc n) a holds = bind (keeps a holds) (λ b more. if_eaten (codes "}") (given more) (braced_yields step P keeps n b more))

pub brace_yields : {A : Type 0} (step : A → Parser A) (P : A → Type 0) → ((a : A) → P a → Yields (step a) P) → (a : A) → P a → Yields (to_brace step a) P
brace_yields step P keeps a holds = by_input (λ i. at_input (braced_yields step P keeps (turns i) a holds) i)
