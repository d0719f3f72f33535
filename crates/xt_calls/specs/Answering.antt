-- What the calls' own values stand for, and how an answer is handed to a caller's room (this profile's own).
use Rattle.std.specs.Prelude.{◌≡◌, ◌<◌, ◌^◌, IsTrue, ℕ, Bool, List, length, drop, ◌++◌, nat_le, if◌then◌else◌, ◌==◌, Result, Ok, Err}
use Rattle.xt_shapes.specs.Shape.{Shape}
use Rattle.xt_shapes.specs.Typing.{has_type}
use Rattle.xt_wire.specs.declared.cursor.faults.DecodeFault.{DecodeFault}
use Rattle.xt_wire.specs.declared.cursor.faults.DecodeFault.TheVariants.{Malformed, ReadFault, OutOfMemory}
use Rattle.settled_parts.specs.declared.settling.Outcome.{Outcome as Settled}
use Rattle.settled_parts.specs.Settling.{outcome_val}
use Rattle.xcdr_model.specs.declared.malformed.Fault.{Fault}
use Rattle.xcdr_model.specs.KeyOctets.{key_octets}
use Rattle.xcdr_model.specs.Samples.{Outcome, sample, discarded, must_understand}
use Rattle.tool_runs.specs.declared.output.halt.Halt.TheVariants as halts
use Rattle.tool_runs.specs.declared.output.stop.Stop.{Stop}
use Rattle.tool_runs.specs.declared.output.stop.Stop.TheVariants as stops
use Rattle.xt_calls.specs.declared.answers.Answer.{Answer}

-- the same, where any halt is said to be want of memory
abbrev pub Unhalted : Stop → Stop → Type 0
Unhalted (stops.Refused r) after = after ≡ stops.Refused r
Unhalted (stops.Halted halt) after = after ≡ stops.Halted halts.OutOfMemory

-- A value has the type, and its key is not too long.
abbrev pub HasKey : Shape → Outcome → Type 0
HasKey t (sample v) = IsTrue (has_type t v) × (length (key_octets t v) < 2 ^ 32)
HasKey t discarded = Unit {0}
HasKey t must_understand = Unit {0}

-- ---- a caller's room

abbrev pub fits : List ℕ → List ℕ → Bool
fits text room = nat_le (length text) (length room)

-- A text that fits stands at the front of the room, and what is behind it is as it was. Of one that doesn't nothing is written.
abbrev pub filled : List ℕ → List ℕ → List ℕ
filled text room = if fits text room then text ++ drop (length text) room else room

-- 14 where what was asked doesn't fit. A refusal has its own status, whether its text fits or not.
abbrev pub status_in : Answer → List ℕ → ℕ
status_in answer room = if fits answer.text room then answer.status else if answer.status == 0 then 14 else answer.status

-- how an answer was handed over
pub record Tells (answer : Answer) (old new : List ℕ) (size code : ℕ) : Type 0 where
  pub room : new ≡ filled answer.text old
  pub needed : size ≡ length answer.text
  pub status : code ≡ status_in answer old

-- nothing was handed over, for this reason
pub record TellsNone (why : ℕ) (old new : List ℕ) (size code : ℕ) : Type 0 where
  pub room : new ≡ old
  pub needed : size ≡ 0
  pub status : code ≡ why
