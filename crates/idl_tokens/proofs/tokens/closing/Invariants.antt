use Rattle.std.proofs.Common.{◌≡◌, ◌+◌, length}
use Rattle.idl_tokens.specs.Tokens.{closing}
use Rattle.idl_tokens.proofs.tokens.closing.Given as goal

abbrev pub invariant-loop-text : goal.invariant-loop-text
invariant-loop-text l = (closing l.text l.at ≡ closing l.initial.text 2) × (l.at + length l.text ≡ length l.initial.text + 2)

abbrev pub decreases-loop-text : goal.decreases-loop-text
decreases-loop-text l = length l.text
