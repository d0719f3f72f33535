use Rattle.std.proofs.Common.{◌≡◌, ◌≤◌, Some, map, drop, false}
use Rattle.std.specs.Prelude.{IfSome}
use Rattle.tool_runs.specs.output.Runs.{Leads}
use Rattle.tool_types.specs.Coming.{AllComeBack}
use Rattle.tool_types.specs.Declaring.{AllGood, declared_view}
use Rattle.tool_verdicts.specs.Versions.{findings, telling, versions}
use Rattle.tool_verdicts.specs.Reports.{IsVersion}
use Rattle.tool_commands.specs.Comparing.{remaining}
use Rattle.tool_commands.proofs.comparing.compare_all.Given as goal

-- What was written leads to the records that are left.
abbrev pub invariant-loop-declared : goal.invariant-loop-declared
invariant-loop-declared g l = record {
  good : AllGood (drop l.declared-index l.records);
  back : AllComeBack l.pool (map declared_view (drop l.declared-index l.records));
  older : IfSome l.progress.older (IsVersion l.pool);
  count : l.number ≡ l.declared-index;
  lines : Leads (Some (telling false (findings l.terms.policy l.terms.rep (versions 0 (map declared_view l.records))))) (Some (remaining l.terms.policy l.terms.rep l.progress l.number (map declared_view (drop l.declared-index l.records)))) (g.K.Sink.taken l.initial.sink) (g.K.Sink.taken l.sink);
  later : g.K.Sink.faults l.initial.sink ≤ g.K.Sink.faults l.sink;
  same : g.K.Sink.name l.sink ≡ g.K.Sink.name l.initial.sink;
}
