-- What an encoder appended.
use Rattle.std.proofs.Common.{◌≡◌, arith, Result, Ok, Err, OnOk, OnErr}
use Rattle.xt_outside.specs.Outside.{AppendsAll, AppendsPrefix, HasCause}
use Rattle.xt_outside.specs.declared.octets.Failed.{Failed}
use Rattle.xcdr_model.specs.FixedSpelling.{Fixed}
use Rattle.xt_wire.specs.writer.Written.{Written}
use Rattle.xt_wire.specs.writer.Writing.{IsAt, Puts}

pub at_start : (w : Written) → w.place ≡ 0 → w.origin ≡ 0 → IsAt w 0
unfolding IsAt
at_start w p o = omega (arith, p, o)

pub wrote : {T : Type 0} (r : Result T Failed) (f : Fixed) (a b : Written) → IsAt a 0 → Puts f a b r → OnOk r (AppendsAll a.taken b.taken (f 0))
wrote (Ok t) f a b at w = (w.put 0 at).taken
wrote (Err e) f a b at w = tt

pub wrote_part : {T : Type 0} (r : Result T Failed) (f : Fixed) (a b : Written) → IsAt a 0 → Puts f a b r → OnErr r (AppendsPrefix a.taken b.taken (f 0))
wrote_part (Ok t) f a b at w = tt
wrote_part (Err e) f a b at w = (w.put 0 at).taken

pub caused : {T : Type 0} (r : Result T Failed) (f : Fixed) (a b : Written) → IsAt a 0 → Puts f a b r → HasCause a.faults b.faults r
caused (Ok t) f a b at w = record { later = w.keeps.faults; failed = tt }
caused (Err e) f a b at w = record { later = w.keeps.faults; failed = (w.put 0 at).rose }
