use Rattle.std.proofs.Common.{◌≡◌, ◌-◌}
use Rattle.idl_input.specs.Input.{notes_at, notes_from}
use Rattle.idl_input.proofs.tokens.Tokens.notes_at.Given as goal

abbrev pub invariant-loop-turn : goal.invariant-loop-turn
invariant-loop-turn l = notes_at l.site l.initial.self ≡ notes_from l.site (l._turn-end - l._turn) l.before l.self
