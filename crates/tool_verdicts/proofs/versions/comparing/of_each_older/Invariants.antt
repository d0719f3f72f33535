use Rattle.std.proofs.Common.{drop}
use Rattle.idl_types.specs.State.{declared}
use Rattle.tool_types.specs.Coming.{ComeBack}
use Rattle.tool_types.specs.Declaring.{AreIdentified}
use Rattle.tool_verdicts.specs.Versions.{each, of_older}
use Rattle.tool_verdicts.specs.Reports.{Reports, version_view}
use Rattle.tool_verdicts.specs.declared.versions.reports.Report.{Report}
use Rattle.tool_verdicts.proofs.versions.comparing.of_each_older.Given as goal

-- What is reported of the types that are left completes what is reported of all.
abbrev pub invariant-loop-at : goal.invariant-loop-at
invariant-loop-at l = record {
  identified : AreIdentified (declared (drop l.at l.types)) (drop l.at l.ids);
  back : ComeBack l.pool (declared (drop l.at l.types));
  goes : (last : Report) → Reports l.report last (each (of_older l.terms.policy l.terms.rep (version_view l.newer)) (declared (drop l.at l.types))) → Reports l.initial.report last (each (of_older l.terms.policy l.terms.rep (version_view l.newer)) (declared l.types));
}
