-- What a command that was answered leaves of its input (this profile's own).
use Rattle.std.specs.Prelude.{◌≡◌, ℕ, List, [], ◌∷◌, ◌++◌, Option, Some, None, Result, IfOk, OnOk, OnErr}
use Rattle.std.specs.Io.KnownBytes.{IsAtEnd}
use Rattle.xt_io.specs.declared.Item.{Item}
use Rattle.xt_io.specs.declared.RecordFault.{RecordFault}
use Rattle.xt_io.specs.Bundles.{Bundle}
use Rattle.tool_runs.specs.output.Outputs.{Refusal}
use Rattle.tool_runs.specs.front.Fronts.{Front, closed, front_of}

-- Of the records only the first one's head was read: what is left begins with its payload. Nothing is left where there is none. Of one that is cut or
-- too long nothing is told.
abbrev pub OnlyHeadRead : List Item → Option RecordFault → Option (List ℕ) → Type 0
OnlyHeadRead [] None left = IsAtEnd left
OnlyHeadRead [] (Some fault) left = Unit {0}
OnlyHeadRead (item ∷ items) end None = ⊥
OnlyHeadRead (item ∷ items) end (Some left) = (behind : List ℕ) × (left ≡ item.payload ++ behind)

-- Where what the front's records come to is a refusal, of the body only the head at which it begins was read.
abbrev pub LeavesBody : {A : Type 0} → (List Item → Result A Refusal) → Front → Option (List ℕ) → Type 0
LeavesBody prepared front left = OnErr (prepared front.records) (OnlyHeadRead front.body.items front.body.end left)

-- Where nothing behind the front is refused, all was read.
abbrev pub LeavesNothing : Front → Option (List ℕ) → Type 0
LeavesNothing front left = OnOk (closed front.body) (IsAtEnd left)

-- The same by the bundle that the input was, where it is told and its front is not refused.
abbrev pub Leaves : (Front → Option (List ℕ) → Type 0) → Option Bundle → Option (List ℕ) → Type 0
Leaves P None left = Unit {0}
Leaves P (Some bundle) left = IfOk (front_of 0 bundle) (λ front. P front left)
