-- What a command over a net reads first: a bundle without a body, of whose types it takes the objects (own).
use Rattle.std.specs.Prelude.{◌≡◌, List, [], ℕ, ◌⊎◌, Option, Result, Ok, Err}
use Rattle.std.specs.Option.{option_map}
use Rattle.xt_io.specs.Bundles.{Bundle, bundle}
use Rattle.xt_io.specs.Links.{IsToldAs}
use Rattle.type_object.specs.Pools.{Texts}
use Rattle.tool_runs.specs.declared.output.ending.Cause.{Cause}
use Rattle.tool_runs.specs.declared.output.ending.Cause.TheVariants as causes
use Rattle.tool_runs.specs.declared.output.ending.Style.TheVariants.{Lines}
use Rattle.tool_runs.specs.declared.output.stop.Stop.{Stop}
use Rattle.tool_runs.specs.declared.output.stop.Stop.TheVariants as stops
use Rattle.tool_runs.specs.output.Outputs.{Output, Refusal, ◌>>=◌, refused}
use Rattle.tool_runs.specs.front.Fronts.{Front, front_of, closed}
use Rattle.tool_types.specs.Types.{declare}

-- the objects of a front, each once, in order, where nothing but Notes comes behind it
abbrev pub objects_behind : Front → Result Texts Refusal
objects_behind front = closed front.body >>= λ u. declare 0 [] front.records >>= λ types. Ok types.1

abbrev pub opened : Bundle → Result Texts Refusal
opened bundle = front_of 0 bundle >>= objects_behind

-- A bundle is refused for what it holds or for its types.
abbrev pub IsFrontCause : Cause → Type 0
IsFrontCause cause = (cause ≡ causes.Bundle) ⊎ (cause ≡ causes.Types)

abbrev pub StopsFront : Stop → Type 0
StopsFront (stops.Refused r) = IsFrontCause r.cause
StopsFront (stops.Halted halt) = Unit {0}

-- what is allowed of a bundle that came to this
abbrev pub AllowedOf : Result Texts Refusal → (Texts → Output → Type 0) → Output → Type 0
AllowedOf (Ok pool) Allowed output = Allowed pool output
AllowedOf (Err refusal) Allowed output = IsFrontCause refusal.cause × (output ≡ refused Lines refusal)

-- What is allowed of an input: where it is told, what its bundle comes to, and else some bundle.
abbrev pub Behind : Option (List ℕ) → (Texts → Output → Type 0) → Output → Type 0
Behind told Allowed output = (came : Result Texts Refusal) × IsToldAs (option_map (λ octets. opened (bundle octets)) told) came × AllowedOf came Allowed output
