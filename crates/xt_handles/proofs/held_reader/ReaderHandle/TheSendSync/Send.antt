use denote.Param.Send.{IsSend}
use Rattle.xt_calls.specs.contracts.readers.Reader as reader
use Rattle.xt_handles.proofs.OfBoxes.Crosses.{held_keyless}
use Rattle.xt_handles.specs.contracts.held_reader.ReaderHandle.{the_row}
use Rattle.xt_handles.proofs.Crosses.{reader_send}

-- The pointer says the same to every thread, and so does the box behind it.
pub send : IsSend the_row
send = record { owned = λ h vs. ((λ w. (tt, (tt, tt))), held_keyless reader.the_row reader_send h.at h.held); leaving = λ k h w. tt }
