-- All octets of a key were written to a sink in memory.
use Rattle.std.proofs.Common.{◌≡◌, ℕ, ◌<◌, ◌^◌, List, [], length, Option, Some, sym, ap, subst, ◌∙◌, arith}
use Rattle.std.specs.Prelude.{Result, Ok, Err, IfOk}
use Rattle.std.specs.Io.KnownBytes.{Appends}
use Rattle.xt_shapes.specs.declared.leaves.Order.{Order}
use Rattle.xcdr_model.specs.FixedSpelling.{Fixed}
use Rattle.xt_wire.specs.writer.Written.{Written}
use Rattle.xt_wire.specs.writer.Writing.{PutsWithin}
use Rattle.xcdr_writer.proofs.Joining.{at_start}

-- where nothing was taken before, what was appended is all
appended : (a b : Option (List ℕ)) (text xs : List ℕ) → a ≡ Some [] → Some text ≡ b → Appends a b xs → text ≡ xs
appended a b text xs first all more =
    let one : Appends (Some []) b xs = subst (λ (o : Option (List ℕ)). Appends o b xs) first more in
    subst (λ (o : Option (List ℕ)). Appends (Some []) o xs) (sym all) one

pub all_written : {T : Type 0} {t : T} (f : Order → Fixed) (o : Order) (a b : Written) (text : List ℕ) → a.place ≡ 0 → a.origin ≡ 0 → a.order ≡ o → a.taken ≡ Some [] → Some text ≡ b.taken
    → PutsWithin 4294967296 (f a.order) a b (Ok t) → length (f o 0) < 2 ^ 32 → text ≡ f o 0
all_written f o a b text place origin order none all w few =
    let fits : length (f a.order 0) < 4294967296 = subst (λ (k : Order). length (f k 0) < 4294967296) (sym order) (omega (arith, few)) in
    appended a.taken b.taken text (f a.order 0) none all (w.put 0 (at_start a place origin) fits).taken ∙ ap (λ (k : Order). f k 0) order

pub made : {E : Type 0} {xs ys : List ℕ} (r : Result (List ℕ) E) → IfOk r (λ l. l ≡ xs) → xs ≡ ys → IfOk r (λ l. l ≡ ys)
made (Ok l) is same = is ∙ same
made (Err e) is same = tt
