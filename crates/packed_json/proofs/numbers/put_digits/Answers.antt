use Rattle.std.proofs.Common.{◌++◌, ◌∙◌, ap, List, ℕ, arith, rules}
use Rattle.std.proofs.lemmas.Fmt.{length-decimal-le}
use Rattle.packed_json.proofs.Wholes.{digits_first}
use Rattle.packed_json.proofs.numbers.put_digits.Goals as goal

pub write_digits-start-requires : goal.write_digits-start-requires
write_digits-start-requires s c = (omega (arith, length-decimal-le 20 c.args.number (omega arith) (omega arith) c.ranges.number.fits), search rules)

pub returns : goal.returns
returns s c =
    let w = c.write_digits-start in
    let digits = digits_first c.args.number w.result w.new.buf _ w.ensures.start w.ensures.written in
    c.in_ok-add_some.ensures ∙ ap (λ (l : List ℕ). s.S.Sink.held c.args.out.now ++ l) digits
