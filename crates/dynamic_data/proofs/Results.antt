-- What is said of an answer.
use Rattle.std.proofs.Common.{Result, Ok, Err, IfOk}

pub ok_then : {T E : Type 0} (P Q : T → Type 0) (r : Result T E) → ((x : T) → P x → Q x) → IfOk r P → IfOk r Q
ok_then P Q (Ok x) f h = f x h
ok_then P Q (Err e) f h = h
