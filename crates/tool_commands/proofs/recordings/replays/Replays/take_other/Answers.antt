use Rattle.std.proofs.Common.{Some, ◌∙◌}
use Rattle.type_trees.specs.View.{tree}
use Rattle.xt_recorder.specs.Answers.{answer}
use Rattle.xt_recorder.specs.Replaying.{reader_of, state_of}
use Rattle.xt_recorder.specs.Replays.{taken}
use Rattle.tool_commands.proofs.OfRecordings.Stepped.{stepped_on, step_refused}
use Rattle.tool_commands.proofs.recordings.replays.Replays.take_other.Goals as goal

pub returns-in-Ok-clause-steps : goal.returns-in-Ok-clause-steps
returns-in-Ok-clause-steps g c more =
    let t = reader_of c.args.self.now.replayer in
    let s = state_of c.args.self.now.replayer in
    let now = state_of c.take.new.self in
    stepped_on t (tree c.reader.result.now) c.args.number c.args.item.now (taken t s c.args.item.now) (answer c.in-Ok.replayed) now more c.say_replayed.result (g.K.Sink.taken c.args.sink.now) (g.K.Sink.taken c.say_replayed.new.sink)
    c.in-Ok.ensures.ok (c.reader.ensures.reader ∙ c.in-Ok.ensures.reader) (c.say_replayed.ensures.steps (more now))

pub returns-in-Err-clause-steps : goal.returns-in-Err-clause-steps
returns-in-Err-clause-steps g c more =
    let t = reader_of c.args.self.now.replayer in
    let s = state_of c.args.self.now.replayer in
    step_refused t c.args.number c.args.item.now (taken t s c.args.item.now) more (Some (more (state_of c.take.new.self))) c.in-Err.fault c.refuse_replay.result (g.K.Sink.taken c.args.sink.now) c.in-Err.ensures.err c.refuse_replay.ensures
