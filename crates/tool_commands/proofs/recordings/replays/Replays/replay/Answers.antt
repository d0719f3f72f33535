use Rattle.xt_io.specs.Bundles.{item_of}
use Rattle.xt_recorder.specs.Replaying.{reader_of, state_of}
use Rattle.tool_commands.proofs.OfRecordings.Stepped.{sample_stepped}
use Rattle.tool_commands.proofs.recordings.replays.Replays.replay.Goals as goal

pub returns-in-Some-clause-steps : goal.returns-in-Some-clause-steps
returns-in-Some-clause-steps g c more =
    let t = reader_of c.args.self.now.replayer in
    let s = state_of c.args.self.now.replayer in
    sample_stepped t c.args.number (item_of c.args.head c.args.payload.now) s c.in-Some.rep more c.say_sample.result (g.K.Sink.taken c.args.sink.now) (g.K.Sink.taken c.say_sample.new.sink) c.in-Some.ensures.kind c.in-Some.ensures.rep (c.say_sample.ensures.steps (more s))
