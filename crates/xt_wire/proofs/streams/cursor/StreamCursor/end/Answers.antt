use Rattle.xt_wire.proofs.OfStreams.Standings.{stream_ends}
use Rattle.xt_wire.proofs.streams.cursor.StreamCursor.end.Goals as goal

pub returns : goal.returns
returns g c = rw c.end.ensures.value (stream_ends c.args.self c.end.ensures.read)
