use Rattle.std.proofs.Common.{◌≡◌, ◌<◌, ◌+◌, ◌*◌, drop}
use Rattle.tool_words.specs.Words.{valued}
use Rattle.tool_words.proofs.numbers.valued.Given as goal

abbrev pub invariant-loop-digit : goal.invariant-loop-digit
invariant-loop-digit l = (valued l.most l.number (drop l.digit-index l.digits) ≡ valued l.most 0 l.digits) × (l.number < 10 * l.most + 10)
