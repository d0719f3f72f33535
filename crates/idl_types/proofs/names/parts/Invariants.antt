use Rattle.std.proofs.Common.{◌≡◌, ◌-◌, [], map}
use Rattle.idl_types.specs.Names.{parts_from, turns_of}
use Rattle.idl_types.proofs.names.parts.Given as goal

abbrev pub invariant-loop-turn : goal.invariant-loop-turn
invariant-loop-turn l = parts_from (turns_of l.fn.tokens) l.fn.rooted [] l.fn.first l.fn.tokens ≡ parts_from (l._turn-end - l._turn) l.rooted (map (λ s. s.now) l.path) l.last l.tokens
