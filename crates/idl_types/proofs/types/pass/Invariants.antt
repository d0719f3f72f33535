use Rattle.std.proofs.Common.{◌≡◌, ◌-◌, [], reverse}
use Rattle.idl_types.specs.Names.{turns_of}
use Rattle.idl_types.specs.Views.{state}
use Rattle.idl_types.specs.Types.{due}
use Rattle.idl_types.proofs.types.pass.Given as goal

abbrev pub invariant-loop-turn : goal.invariant-loop-turn
invariant-loop-turn l =
    due (state l.fn.reader) (turns_of l.fn.tokens) [] l.fn.tokens ≡ due (state l.fn.reader) (l._turn-end - l._turn) (reverse l.begun) l.tokens
