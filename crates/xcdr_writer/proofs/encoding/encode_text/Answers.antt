use Rattle.std.proofs.Common.{ℕ, ◌+◌, ◌++◌, ◌∷◌, [], length, refl}
use Rattle.std.proofs.lemmas.Result.{err_from_is_err_and}
use Rattle.xcdr_model.specs.FixedSpelling.{number_fixed, then_fixed, text_fixed}
use Rattle.xt_wire.proofs.OfWriter.Puts.{begins, goes_on, last, fails, left_as, within, whole}
use Rattle.xcdr_writer.proofs.encoding.encode_text.Goals as goal

pub returns-in_err-number : goal.returns-in_err-number
returns-in_err-number g c =
    let o = c.args.out.now.order in
    let xs = c.args.octets.now in
    let count = number_fixed 4 o 4 (length xs + 1) in
    let rest = λ (p : ℕ). xs ++ 0 ∷ [] in
    let e = err_from_is_err_and c.from_residual.result c.from_residual.ensures.1 in
    whole (λ limit. rw e.1 (fails count rest (begins limit (text_fixed o xs) (then_fixed count rest) c.args.out.now (λ p. refl)) (within c.in_err-number.ensures)))

pub returns-in_err-put : goal.returns-in_err-put
unfolding then_fixed
returns-in_err-put g c =
    let o = c.args.out.now.order in
    let xs = c.args.octets.now in
    let count = number_fixed 4 o 4 (length xs + 1) in
    let rest = λ (p : ℕ). xs ++ 0 ∷ [] in
    let e = err_from_is_err_and c.from_residual-in_err-put.result c.from_residual-in_err-put.ensures.1 in
    whole (λ limit.
    let u = goes_on count rest (begins limit (text_fixed o xs) (then_fixed count rest) c.args.out.now (λ p. refl)) (within c.in_ok-number.ensures) in
    rw e.1 (fails (λ p. xs) (λ p. 0 ∷ []) (left_as rest (then_fixed (λ p. xs) (λ p. 0 ∷ [])) (λ p. refl) u) (within c.in_err-put.ensures)))

pub returns : goal.returns
unfolding then_fixed
returns g c =
    let o = c.args.out.now.order in
    let xs = c.args.octets.now in
    let count = number_fixed 4 o 4 (length xs + 1) in
    let rest = λ (p : ℕ). xs ++ 0 ∷ [] in
    whole (λ limit.
    let u = goes_on count rest (begins limit (text_fixed o xs) (then_fixed count rest) c.args.out.now (λ p. refl)) (within c.in_ok-number.ensures) in
    let v = goes_on (λ p. xs) (λ p. 0 ∷ []) (left_as rest (then_fixed (λ p. xs) (λ p. 0 ∷ [])) (λ p. refl) u) (within c.in_ok-put.ensures) in
    last (λ p. 0 ∷ []) v (within c.put-2.ensures))
