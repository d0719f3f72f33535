use Rattle.std.proofs.Common.{◌≡◌, ◌≤◌, length, ◌∙◌, arith, rules}
use Rattle.std.proofs.lemmas.List.{take_rest}
use Rattle.idl_tokens.specs.Tokens.{blank}
use Rattle.idl_tokens.proofs.Blanks.{skip_goes}
use Rattle.idl_tokens.proofs.tokens.skip.Goals as goal

pub loop-text-preserved : goal.loop-text-preserved
loop-text-preserved c =
    let text = c.loop-text.text.now in
    let value : c.blank-len.result ≡ blank text = c.blank-len.ensures.value in
    let moves : 1 ≤ blank text = omega arith in
    let within : blank text ≤ length text = omega arith in
    let some : 1 ≤ length text = omega arith in
    let goes = skip_goes text (grind arith) moves some in
    (rw (take_rest text c.blank-len.result, value) (goes ∙ c.loop-text.invariant.0), search rules)
