-- A handle may go to another thread if what it holds may. Assumes nothing.
use Rattle.std.specs.Prelude.{[], Option, Some, None}
use Rattle.std.proofs.Crossing.{Box-send}
use base.Shift.{Keyless}
use denote.Exit.{Exit, unchanged, leaves, hidden, under}
use denote.RattleType.{RattleType}
use denote.RawPtr.{Ptr}
use denote.Builtin.{RawPtr}
use denote.Struct.Owning.{to}
use denote.Param.Send.{IsSend, Quiet, sendable}
use Rattle.xt_handles.specs.boxes.Held.{heap, held_owns}

pub ps : IsSend RawPtr
ps = search sendable

pub quiet : {D X : Type 0} (to : D → X) (e : Exit X) → Quiet e → Quiet (hidden (under to e))
quiet to unchanged q = λ x w. tt
quiet to (leaves L l S s r₀) q = λ d. q (to d)

-- a box's row says this of the same pointer and value
pub held_keyless : (R : RattleType) → IsSend R → (p : Ptr) (x : Option R.Denot) → Keyless (held_owns R p x)
held_keyless R s p None = tt
held_keyless R s p (Some y) = ((Box-send R s).owned (record { ptr = p; alloc = heap; value = y }) []).1
