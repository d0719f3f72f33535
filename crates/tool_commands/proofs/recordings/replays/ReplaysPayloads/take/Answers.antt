use Rattle.xt_io.specs.Bundles.{item_of}
use Rattle.xt_recorder.specs.Replaying.{reader_of, state_of}
use Rattle.tool_commands.proofs.OfRecordings.Stepped.{record_stepped}
use Rattle.tool_commands.proofs.recordings.replays.ReplaysPayloads.take.Goals as goal

pub returns-clause-steps : goal.returns-clause-steps
returns-clause-steps g c more =
    let old = c.args.self.now.replayer in
    let new = c.replay.new.self.replayer in
    record_stepped (reader_of old) (reader_of new) (state_of old) (state_of new) c.args.number (item_of c.args.head c.args.payload.now) more c.replay.result (g.K.Sink.taken c.args.sink.now) (g.K.Sink.taken c.replay.new.sink) c.replay.ensures.reader c.replay.ensures.steps
