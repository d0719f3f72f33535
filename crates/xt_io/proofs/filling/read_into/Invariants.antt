use Rattle.std.proofs.Common.{◌≡◌, ◌≤◌, ◌-◌, length}
use Rattle.xt_outside.specs.Outside.{TakesUpTo}
use Rattle.xt_io.proofs.filling.read_into.Given as goal

-- What was read so far is the text.
abbrev pub invariant-chunks : goal.invariant-chunks
invariant-chunks g l = record {
  within : length l.text ≤ l.most;
  octets : TakesUpTo (length l.text) (g.S.Source.left l.initial.source) (g.S.Source.left l.source) l.text;
  later : g.S.Source.faults l.initial.source ≤ g.S.Source.faults l.source;
  same : g.S.Source.name l.source ≡ g.S.Source.name l.initial.source;
}

abbrev pub decreases-chunks : goal.decreases-chunks
decreases-chunks g l = l.most - length l.text
