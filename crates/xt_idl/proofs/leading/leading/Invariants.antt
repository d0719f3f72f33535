use Rattle.std.proofs.Common.{◌≡◌, ◌-◌}
use Rattle.xt_idl.specs.Leading.{leading, leading_from}
use Rattle.xt_idl.proofs.leading.leading.Given as goal

abbrev pub invariant-loop-turn : goal.invariant-loop-turn
invariant-loop-turn l = leading l.initial.tokens ≡ leading_from (l._turn-end - l._turn) l.before l.tokens
