use Rattle.std.proofs.Common.{◌≡◌, ◌-◌}
use Rattle.idl_definitions.specs.Views as view
use Rattle.idl_types.specs.Views.{state}
use Rattle.idl_definitions.specs.Lists.{to_brace, braced_from}
use Rattle.idl_definitions.specs.Unions.{case}
use Rattle.idl_definitions.proofs.unions.cases.Given as goal

abbrev pub invariant-loop-turn : goal.invariant-loop-turn
invariant-loop-turn l = to_brace (case (state l.reader) l.hashed (view.form l.form)) (view.gathered (state l.reader).types l.initial.gathered) l.initial.tokens ≡ braced_from (case (state l.reader) l.hashed (view.form l.form)) (l._turn-end - l._turn) (view.gathered (state l.reader).types l.gathered) l.tokens
