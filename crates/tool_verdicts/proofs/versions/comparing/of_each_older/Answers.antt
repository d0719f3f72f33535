use Rattle.std.proofs.Common.{◌+◌, List, add-one, drop, drop_of_length-le, ap, subst, sym, ℕ}
use Rattle.type_trees.specs.declared.types.Named.{Named}
use Rattle.type_trees.specs.View.{tree}
use Rattle.idl_types.specs.State.{declared}
use Rattle.tool_types.specs.Declaring.{AreIdentified}
use Rattle.tool_types.proofs.Declares.{identified_next}
use Rattle.tool_verdicts.specs.Versions.{each, of_older}
use Rattle.tool_verdicts.specs.Reports.{Reports, version_view}
use Rattle.tool_verdicts.proofs.Compared.{back_behind, each_done, each_on, next_type}
use Rattle.tool_verdicts.proofs.versions.comparing.of_each_older.Goals as goal

pub loop-at-preserved : goal.loop-at-preserved
loop-at-preserved c =
    let types = c.as_slice-types.result.now in
    let ids = c.args.older.now.ids.now in
    let i = c.loop-at.at in
    let t = c.index-types-at.result in
    let next = next_type types i t c.loop-at-test.true c.index-types-at.is in
    let f = of_older c.args.terms.now.policy c.args.terms.now.rep (version_view c.args.newer.now) in
    record {
      identified = subst (λ (n : ℕ). AreIdentified (declared (drop n types)) (drop n ids)) (sym (add-one i)) (identified_next i types ids c.loop-at-test.true c.loop-at.invariant.identified);
      back = back_behind c.args.pool.now (drop i types) t (drop (i + 1) types) next c.loop-at.invariant.back;
      goes = each_on f (t.name, tree t.ty) (declared (drop (i + 1) types)) (declared types) (declared (drop i types)) c.args.report.now c.loop-at.report c.of_older.new.report (ap declared next) c.loop-at.invariant.goes c.in_ok-of_older.ensures;
    }

pub returns : goal.returns
returns c =
    let types = c.as_slice-types.result.now in
    let i = c.loop-at.at in
    let f = of_older c.args.terms.now.policy c.args.terms.now.rep (version_view c.args.newer.now) in
    subst (λ (l : List Named). Reports c.args.report.now c.loop-at.report (each f (declared l))) c.as_slice-types.ensures (each_done f (declared types) (declared (drop i types)) c.args.report.now c.loop-at.report (ap declared (drop_of_length-le types c.loop-at-test.false)) c.loop-at.invariant.goes)
