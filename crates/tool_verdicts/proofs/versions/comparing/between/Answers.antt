use Rattle.idl_types.specs.State.{declared}
use Rattle.tool_verdicts.specs.Versions.{each, of_newer, of_older}
use Rattle.tool_verdicts.specs.Reports.{version_view}
use Rattle.tool_verdicts.proofs.Compared.{reported_breaks, reported_text}
use Rattle.tool_verdicts.proofs.versions.comparing.between.Goals as goal

pub returns-clause-text : goal.returns-clause-text
returns-clause-text c =
    let older = declared c.args.older.now.types in
    let newer = c.args.newer.now in
    let xs = each (of_older c.args.terms.now.policy c.args.terms.now.rep (version_view newer)) older in
    let ys = each (of_newer newer.number older) (declared newer.types) in
    reported_text c.new-report.result c.of_each_older.new.report c.of_each_newer.new.report xs ys c.new-report.ensures.text c.in_ok-of_each_older.ensures c.in_ok-of_each_newer.ensures

pub returns-clause-breaks : goal.returns-clause-breaks
returns-clause-breaks c =
    let older = declared c.args.older.now.types in
    let newer = c.args.newer.now in
    let xs = each (of_older c.args.terms.now.policy c.args.terms.now.rep (version_view newer)) older in
    let ys = each (of_newer newer.number older) (declared newer.types) in
    reported_breaks c.new-report.result c.of_each_older.new.report c.of_each_newer.new.report xs ys c.new-report.ensures.breaks c.in_ok-of_each_older.ensures c.in_ok-of_each_newer.ensures
