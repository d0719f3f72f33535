-- What a command writes that reads a bundle: its front, and then a body, or nothing behind the front (this profile's own).
use Rattle.std.specs.Prelude.{ℕ, List, length, Result, Ok}
use Rattle.xt_io.specs.declared.Item.{Item}
use Rattle.xt_io.specs.Bundles.{Bundle}
use Rattle.tool_runs.specs.declared.output.ending.Ending.TheVariants.{Done}
use Rattle.tool_runs.specs.declared.output.ending.Style.{Style}
use Rattle.tool_runs.specs.output.Outputs.{Output, Refusal, ◌>>=◌, unless_refused}
use Rattle.tool_runs.specs.front.Fronts.{Front, front_of, closed}

-- the front, and what comes behind it
abbrev pub command_output : Style → (Front → Result Output Refusal) → Bundle → Output
command_output style behind bundle = unless_refused style (front_of 0 bundle >>= behind)

-- ---- a command with a body: the records of the front come to what is written of the body, whose records are numbered on

abbrev pub with_body : (List Item → Result (ℕ → Bundle → Output) Refusal) → List Item → Bundle → Result Output Refusal
with_body prepared records body = prepared records >>= λ write. Ok (write (length records) body)

abbrev pub body_behind : (List Item → Result (ℕ → Bundle → Output) Refusal) → Front → Result Output Refusal
body_behind prepared front = with_body prepared front.records front.body

-- ---- a command without a body: the rest of the input is read, and then the records of the front are answered

abbrev pub only : List (List ℕ) → Output
only pieces = record { pieces = pieces; ending = Done }

-- an answer in pieces, with which all is done
abbrev pub answer_to : (List Item → Result (List (List ℕ)) Refusal) → List Item → Result Output Refusal
answer_to answered records = answered records >>= λ pieces. Ok (only pieces)

abbrev pub with_end : (List Item → Result Output Refusal) → List Item → Bundle → Result Output Refusal
with_end answered records body = closed body >>= λ u. answered records

abbrev pub ends_behind : (List Item → Result Output Refusal) → Front → Result Output Refusal
ends_behind answered front = with_end answered front.records front.body
