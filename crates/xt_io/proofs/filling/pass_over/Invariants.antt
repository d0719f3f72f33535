use Rattle.std.proofs.Common.{◌≡◌, ◌≤◌, ◌-◌}
use Rattle.xt_outside.specs.Outside.{PassesUpTo}
use Rattle.xt_io.proofs.filling.pass_over.Given as goal

-- So many octets were passed over so far.
abbrev pub invariant-chunks : goal.invariant-chunks
invariant-chunks g l = record {
  within : l.passed ≤ l.most;
  octets : PassesUpTo l.passed (g.S.Source.left l.initial.source) (g.S.Source.left l.source) l.passed;
  later : g.S.Source.faults l.initial.source ≤ g.S.Source.faults l.source;
  same : g.S.Source.name l.source ≡ g.S.Source.name l.initial.source;
}

abbrev pub decreases-chunks : goal.decreases-chunks
decreases-chunks g l = l.most - l.passed
