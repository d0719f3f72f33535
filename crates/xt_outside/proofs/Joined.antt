-- What was appended in two parts.
use Rattle.std.proofs.Common.{sym, ap, ◌∙◌, ℕ, List, ◌++◌, append_assoc, Result, Ok, Err, Option, OnOk, OnErr}
use Rattle.std.proofs.KnownBytes.{Appends-trans}
use Rattle.xt_outside.specs.Outside.{AppendsAll, AppendsPrefix}
use Rattle.xt_outside.specs.declared.octets.Failed.{Failed}

-- a beginning of the first part is one of the whole
pub first_part : (a b : Option (List ℕ)) (xs ys : List ℕ) → AppendsPrefix a b xs → AppendsPrefix a b (xs ++ ys)
first_part a b xs ys p =
    let (some, rest, parts, appended) = p in
    (some, rest ++ ys, ap (λ l. l ++ ys) parts ∙ append_assoc some rest ys, appended)

pub both : {T : Type 0} (r : Result T Failed) (a b c : Option (List ℕ)) (xs ys : List ℕ) → AppendsAll a b xs → OnOk r (AppendsAll b c ys) → OnOk r (AppendsAll a c (xs ++ ys))
both (Ok t) a b c xs ys p q = Appends-trans a b c xs ys p q
both (Err e) a b c xs ys p q = tt

pub second_part : {T : Type 0} (r : Result T Failed) (a b c : Option (List ℕ)) (xs ys : List ℕ) → AppendsAll a b xs → OnErr r (AppendsPrefix b c ys) → OnErr r (AppendsPrefix a c (xs ++ ys))
second_part (Ok t) a b c xs ys p q = tt
second_part (Err e) a b c xs ys p q =
    let (some, rest, parts, appended) = q in
    (xs ++ some, rest, ap (λ l. xs ++ l) parts ∙ sym (append_assoc xs some rest), Appends-trans a b c xs some p appended)

pub on_err : {T : Type 0} {P : Type 0} (r : Result T Failed) → P → OnErr r P
on_err (Ok t) p = tt
on_err (Err e) p = p
