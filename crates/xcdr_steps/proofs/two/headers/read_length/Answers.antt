use Rattle.std.proofs.Common.{◌^◌, Ok, eq-eqb}
use Rattle.std.proofs.lemmas.Bool.{ne_eqb}
use Rattle.std.proofs.lemmas.Result.{err_from_is_err_and}
use Rattle.xcdr_model.specs.Reading.{number_at}
use Rattle.xt_wire.proofs.OfCursor.Ahead.{goes_on, fails, ends, decodes_as}
use Rattle.xcdr_steps.specs.two.Headers.{counted_content, peeked_at, length_at}
use Rattle.xcdr_steps.proofs.OfAgain.Unheld.{settled}
use Rattle.xcdr_steps.proofs.OfTwo.HeaderSteps.{length_short, length_counted, length_told}
use Rattle.xcdr_steps.proofs.two.headers.read_length.Goals as goal

pub returns-then-code-lt4-clause-value : goal.returns-then-code-lt4-clause-value
returns-then-code-lt4-clause-value g c =
    let a = g.C.Cursor.state c.args.cursor.now in
    settled a.reach a (ends (λ n. n) (λ o. 2 ^ c.args.code) (length_short c.args.code a c.if-code-lt4.true) c.short_length.ensures)

pub returns-then-code-eq4-clause-value : goal.returns-then-code-eq4-clause-value
returns-then-code-eq4-clause-value g c =
    let a = g.C.Cursor.state c.args.cursor.now in
    let b = g.C.Cursor.state c.read_number.new.cursor in
    settled b.reach b (decodes_as (λ n. n) (length_at c.args.code) (λ o s. number_at 4 o 4 s) (length_told c.args.code a c.if-code-lt4.false (eq-eqb c.args.code 4 c.if-code-eq4.true)) c.read_number.ensures)

pub returns-in_err-count-clause-value : goal.returns-in_err-count-clause-value
returns-in_err-count-clause-value g c =
    let u = length_counted c.args.code (g.C.Cursor.state c.args.cursor.now) c.if-code-lt4.false (ne_eqb c.args.code 4 c.if-code-eq4.false) in
    let p = err_from_is_err_and c.from_residual.result c.from_residual.ensures.1 in
    rw (p.1, p.2) (fails (λ n. n) (λ n. n) peeked_at (λ n o s. Ok (counted_content c.args.code n, s)) u c.in_err-count.ensures.value)

pub returns-clause-value : goal.returns-clause-value
returns-clause-value g c =
    let u = length_counted c.args.code (g.C.Cursor.state c.args.cursor.now) c.if-code-lt4.false (ne_eqb c.args.code 4 c.if-code-eq4.false) in
    let v = goes_on (λ n. n) peeked_at (λ n o s. Ok (counted_content c.args.code n, s)) u c.in_ok-count.ensures.value in
    ends (λ n. n) (λ o. counted_content c.args.code c.in_ok-count.count) v c.counted_length.ensures
