use Rattle.std.proofs.Common.{◌≡◌, List, Result, reverse, length}
use Rattle.idl_input.specs.declared.faults.IdlFault.{IdlFault}
use Rattle.idl_types.specs.declared.types.Open.{Open}
use Rattle.idl_input.specs.Input.{Input}
use Rattle.idl_types.specs.Types.{closing}
use Rattle.idl_types.proofs.types.close.Given as goal

abbrev pub invariant-loop-last : goal.invariant-loop-last
invariant-loop-last l =
    (due : List Open → Input → Result (Unit {0} × Input) IdlFault) → closing due (reverse l.initial.begun) l.initial.tokens ≡ closing due (reverse l.begun) l.tokens

abbrev pub decreases-loop-last : goal.decreases-loop-last
decreases-loop-last l = length l.begun
