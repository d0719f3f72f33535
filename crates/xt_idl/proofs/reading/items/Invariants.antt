use Rattle.std.proofs.Common.{◌≡◌, ◌-◌}
use Rattle.idl_types.specs.Views.{state}
use Rattle.xt_idl.specs.Kept.{IsKept}
use Rattle.xt_idl.specs.Whole.{items_from}
use Rattle.xt_idl.proofs.reading.items.Given as goal

abbrev pub invariant-loop-turn : goal.invariant-loop-turn
invariant-loop-turn l =
    (items_from l.turns (state l.initial.reader) l.initial.tokens ≡ items_from (l.turns - l._turn) (state l.reader) l.tokens) × (IsKept (state l.reader).types l.kept)
