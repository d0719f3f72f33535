use Rattle.std.proofs.Common.{◌≡◌, ◌≤◌, ◌-◌, length, take}
use Rattle.std.specs.Io.KnownBytes.{Consumes}
use Rattle.xt_outside.specs.Outside.{KeepsTold}
use Rattle.xt_io.proofs.filling.fill.Given as goal

-- The octets before the place are those that were read.
abbrev pub invariant-loop-at : goal.invariant-loop-at
invariant-loop-at g l = record {
  room : length l.into ≡ length l.initial.into;
  within : l.at ≤ length l.into;
  octets : Consumes (g.S.Source.left l.initial.source) (g.S.Source.left l.source) (take l.at l.into);
  behind : KeepsTold (g.S.Source.behind l.initial.source) (g.S.Source.behind l.source);
  later : g.S.Source.faults l.initial.source ≤ g.S.Source.faults l.source;
  same : g.S.Source.name l.source ≡ g.S.Source.name l.initial.source;
}

abbrev pub decreases-loop-at : goal.decreases-loop-at
decreases-loop-at g l = length l.into - l.at
