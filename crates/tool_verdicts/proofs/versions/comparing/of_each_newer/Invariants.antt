use Rattle.std.proofs.Common.{drop}
use Rattle.idl_types.specs.State.{declared}
use Rattle.tool_verdicts.specs.Versions.{each, of_newer}
use Rattle.tool_verdicts.specs.Reports.{Reports}
use Rattle.tool_verdicts.specs.declared.versions.reports.Report.{Report}
use Rattle.tool_verdicts.proofs.versions.comparing.of_each_newer.Given as goal

-- What is reported of the types that are left completes what is reported of all.
abbrev pub invariant-loop-named : goal.invariant-loop-named
invariant-loop-named l = record {
  goes : (last : Report) → Reports l.report last (each (of_newer l.newer.number (declared l.older.types)) (declared (drop l.named-index l.types))) → Reports l.initial.report last (each (of_newer l.newer.number (declared l.older.types)) (declared l.types));
}
