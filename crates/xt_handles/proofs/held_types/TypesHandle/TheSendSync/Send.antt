use denote.Param.Send.{IsSend}
use Rattle.xt_calls.specs.contracts.types.Types as types
use Rattle.xt_handles.proofs.OfBoxes.Crosses.{held_keyless}
use Rattle.xt_handles.specs.contracts.held_types.TypesHandle.{the_row}
use Rattle.xt_handles.proofs.Crosses.{types_send}

-- The pointer says the same to every thread, and so does the box behind it.
pub send : IsSend the_row
send = record { owned = λ h vs. ((λ w. (tt, (tt, tt))), held_keyless types.the_row types_send h.at h.held); leaving = λ k h w. tt }
