use Rattle.xt_outside.proofs.Joined.{on_err, first_part, second_part}
use Rattle.tool_runs.proofs.output.block.write_both.Goals as goal

pub returns-in_err-write_whole-clause-prefix : goal.returns-in_err-write_whole-clause-prefix
returns-in_err-write_whole-clause-prefix g c = on_err c.from_residual.result (first_part (g.K.Sink.taken c.args.sink.now) (g.K.Sink.taken c.write_whole.new.sink) c.args.front.now c.args.behind.now c.in_err-write_whole.ensures.prefix)

pub returns-clause-prefix : goal.returns-clause-prefix
returns-clause-prefix g c = second_part c.write_whole-2.result (g.K.Sink.taken c.args.sink.now) (g.K.Sink.taken c.write_whole.new.sink) (g.K.Sink.taken c.write_whole-2.new.sink) c.args.front.now c.args.behind.now c.in_ok-write_whole.ensures.whole c.write_whole-2.ensures.prefix
