use Rattle.tool_runs.specs.declared.output.halt.Halt.TheVariants.{WriteFault, OutOfMemory}
use Rattle.tool_runs.proofs.Joined.{pieces_went, pieces_stayed}
use Rattle.xt_recorder.specs.Recordings.{opening}
use Rattle.tool_commands.specs.recordings.Recording.{opening_pieces}
use Rattle.object_walks.specs.Resolving.{resolved}
use Rattle.tool_commands.proofs.OfRecordings.Opened.{has_type, opening_is}
use Rattle.tool_commands.proofs.recordings.recorded.Recorded.begin.Goals as goal

pub write_stream-requires : goal.write_stream-requires
write_stream-requires g c = has_type (resolved c.args.self.now.pool c.args.self.now.id) c.args.self.now.resolves

pub returns-in-Ok-clause-steps : goal.returns-in-Ok-clause-steps
returns-in-Ok-clause-steps g c rest =
    let s = c.args.self.now in
    pieces_went (opening_pieces s.pool s.id s.rep) rest (opening s.pool s.id s.rep) (g.K.Sink.taken c.args.sink.now) (g.K.Sink.taken c.write_stream.new.sink) (opening_is s.pool s.id s.rep) c.in-Ok.ensures.all

pub returns-in-Err-WriteFault-clause-steps : goal.returns-in-Err-WriteFault-clause-steps
returns-in-Err-WriteFault-clause-steps g c rest =
    let s = c.args.self.now in
    pieces_stayed (opening_pieces s.pool s.id s.rep) rest (opening s.pool s.id s.rep) WriteFault (g.K.Sink.taken c.args.sink.now) (g.K.Sink.taken c.write_stream.new.sink) (opening_is s.pool s.id s.rep) c.in-Err-WriteFault.ensures.some (λ h. cc)

pub returns-in-Err-OutOfMemory-clause-steps : goal.returns-in-Err-OutOfMemory-clause-steps
returns-in-Err-OutOfMemory-clause-steps g c rest =
    let s = c.args.self.now in
    pieces_stayed (opening_pieces s.pool s.id s.rep) rest (opening s.pool s.id s.rep) OutOfMemory (g.K.Sink.taken c.args.sink.now) (g.K.Sink.taken c.write_stream.new.sink) (opening_is s.pool s.id s.rep) c.in-Err-OutOfMemory.ensures.some (λ h. cc)
