use Rattle.std.proofs.Common.{ap, arith, length}
use Rattle.lookup_service.proofs.OfReplies.Framed.{types_frame, put_frame}
use Rattle.lookup_service.proofs.replies.answers.answer.Goals as goal

pub returns-in_ok-objects-in-GetTypes-clause-frame : goal.returns-in_ok-objects-in-GetTypes-clause-frame
returns-in_ok-objects-in-GetTypes-clause-frame g c =
    let k = rw c.in-GetTypes.is at c.requires.frame.limits in
    let e = c.in_ok-objects-in-GetTypes.ensures in
    types_frame _ _ e.fetched (omega (arith, e.few, ap length c.as_slice.ensures, k.count)) e.fits

pub returns-in_ok-outcomes-in-PutTypes-clause-frame : goal.returns-in_ok-outcomes-in-PutTypes-clause-frame
returns-in_ok-outcomes-in-PutTypes-clause-frame g c =
    let k = rw c.in-PutTypes.is at c.requires.frame.limits in
    let e = c.in_ok-outcomes-in-PutTypes.ensures in
    put_frame _ _ e.each (omega (arith, e.count, ap length c.as_slice-in-PutTypes.ensures, k.count))
