use Rattle.std.proofs.Common.{◌+◌, ◌-◌, ◌∙◌}
use Rattle.idl_types.specs.Views.{state}
use Rattle.idl_types.specs.Types.{due}
use Rattle.idl_types.proofs.TypeSteps.{due_go}
use Rattle.idl_types.proofs.types.pass.Goals as goal

pub returns-then-is_over : goal.returns-then-is_over
returns-then-is_over c =
    let n = c.left-turn-end.result in
    let st = state c.args.reader.now in
    let s = c.in_ok-is_over.ensures (due st (n - (c.loop-turn._turn + 1))) in
    let over = rw c.if-is_over.true at s in
    c.loop-turn.invariant ∙ due_go st n c.loop-turn._turn _ c.loop-turn.tokens c.loop-turn-test.true ∙ over

pub loop-turn-preserved : goal.loop-turn-preserved
loop-turn-preserved c =
    let n = c.left-turn-end.result in
    let st = state c.args.reader.now in
    let s = c.in_ok-is_over.ensures (due st (n - (c.loop-turn._turn + 1))) in
    let on = rw c.if-is_over.false at s in
    c.loop-turn.invariant ∙ due_go st n c.loop-turn._turn _ c.loop-turn.tokens c.loop-turn-test.true ∙ on
