use Rattle.std.proofs.Common.{◌+◌, ◌-◌, sym, ◌∙◌, arith}
use Rattle.object_reader.proofs.Numbers.{past_done, past_end, past_zero, past_other}
use Rattle.object_reader.proofs.reader.Reader.skip.Goals as goal

pub returns-in-None : goal.returns-in-None
returns-in-None c = sym c.loop.invariant ∙ past_end _ _ _ c.in-None.ensures.cases (omega (arith, c.loop-test.true))

pub returns-then-first-ne0 : goal.returns-then-first-ne0
returns-then-first-ne0 c = sym c.loop.invariant ∙ past_other _ _ _ c.in-Some.first.now c.in-Some.rest.now c.in-Some.ensures.cases.0 c.if-first-ne0.true (omega (arith, c.loop-test.true))

pub loop-preserved : goal.loop-preserved
loop-preserved c = sym (past_zero _ (c.args.count - (c.loop.counter + 1)) _ _ c.in-Some.first.now c.in-Some.rest.now c.in-Some.ensures.cases.0 c.if-first-ne0.false (omega (arith, c.loop-test.true))) ∙ c.loop.invariant

pub returns : goal.returns
returns c = sym c.loop.invariant ∙ past_done _ _ _ (omega (arith, c.loop-test.false))
