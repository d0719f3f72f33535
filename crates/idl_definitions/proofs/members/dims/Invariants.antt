use Rattle.std.proofs.Common.{◌≡◌, ◌-◌}
use Rattle.idl_definitions.specs.Members.{dims, dims_from}
use Rattle.idl_definitions.proofs.members.dims.Given as goal

abbrev pub invariant-loop-turn : goal.invariant-loop-turn
invariant-loop-turn l = dims l.initial.tokens ≡ dims_from (l._turn-end - l._turn) l.dims l.tokens
