use Rattle.std.proofs.Common.{◌∙◌, arith}
use Rattle.idl_types.specs.Definitions.{declared}
use Rattle.xt_idl.proofs.Measuring.{case_on}
use Rattle.xt_idl.proofs.measures.measure_cases.Goals as goal

pub loop-case-preserved : goal.loop-case-preserved
loop-case-preserved c =
    let ts = declared c.args.known.now.types.now in
    c.with_case-sum.ensures ∙ case_on ts c.args.cases.now c.loop-case.case-index c.case-item.result (omega (arith, c.loop-case-test.true)) c.case-item.is c.loop-case.sum c.measure_use-measure.result c.loop-case.invariant c.measure_use-measure.ensures
