use Rattle.std.proofs.Common.{◌+◌, List, drop, drop_of_length-le, ap, subst}
use Rattle.type_trees.specs.declared.types.Named.{Named}
use Rattle.type_trees.specs.View.{tree}
use Rattle.idl_types.specs.State.{declared}
use Rattle.tool_verdicts.specs.Versions.{each, of_newer}
use Rattle.tool_verdicts.specs.Reports.{Reports}
use Rattle.tool_verdicts.proofs.Compared.{each_done, each_on, next_type}
use Rattle.tool_verdicts.proofs.versions.comparing.of_each_newer.Goals as goal

pub loop-named-preserved : goal.loop-named-preserved
loop-named-preserved c =
    let types = c.as_slice-types.result.now in
    let i = c.loop-named.named-index in
    let t = c.named-item.result in
    let next = next_type types i t c.loop-named-test.true c.named-item.is in
    let f = of_newer c.args.newer.now.number (declared c.args.older.now.types) in
    record {
      goes = each_on f (t.name, tree t.ty) (declared (drop (i + 1) types)) (declared types) (declared (drop i types)) c.args.report.now c.loop-named.report c.of_newer.new.report (ap declared next) c.loop-named.invariant.goes c.in_ok-of_newer.ensures;
    }

pub returns : goal.returns
returns c =
    let types = c.as_slice-types.result.now in
    let i = c.loop-named.named-index in
    let f = of_newer c.args.newer.now.number (declared c.args.older.now.types) in
    subst (λ (l : List Named). Reports c.args.report.now c.loop-named.report (each f (declared l))) c.as_slice-types.ensures (each_done f (declared types) (declared (drop i types)) c.args.report.now c.loop-named.report (ap declared (drop_of_length-le types c.loop-named-test.false)) c.loop-named.invariant.goes)
