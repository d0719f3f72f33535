use Rattle.std.proofs.Common.{◌≡◌, ◌-◌}
use Rattle.idl_definitions.specs.Views as view
use Rattle.idl_definitions.specs.Unions.{labels, labels_from}
use Rattle.idl_definitions.proofs.unions.labels.Given as goal

abbrev pub invariant-loop-turn : goal.invariant-loop-turn
invariant-loop-turn l = labels (view.form l.form) l.initial.tokens ≡ labels_from (view.form l.form) (l._turn-end - l._turn) l.values l.is_default l.tokens
