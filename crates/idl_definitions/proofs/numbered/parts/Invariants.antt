use Rattle.std.proofs.Common.{◌≡◌, ◌-◌}
use Rattle.idl_definitions.specs.Views as view
use Rattle.idl_definitions.specs.Lists.{with_commas, comma_from}
use Rattle.idl_definitions.specs.Numbered.{part}
use Rattle.idl_definitions.proofs.numbered.parts.Given as goal

abbrev pub invariant-loop-turn : goal.invariant-loop-turn
invariant-loop-turn g l = with_commas (part g.P.NumberedPart.numbering) (view.numbered l.initial.numbered) l.initial.tokens ≡ comma_from (part g.P.NumberedPart.numbering) (l._turn-end - l._turn) (view.numbered l.numbered) l.tokens
