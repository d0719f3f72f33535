-- What contracts see of a Replayer (this profile's own).
use Rattle.std.specs.Option.{option_map}
use Rattle.type_trees.specs.Trees.{Tree}
use Rattle.type_trees.specs.View.{tree}
use Rattle.xt_recorder.specs.declared.replayer.Replayer.{Replayer}
use Rattle.xt_recorder.specs.declared.replayer.Stream.{Stream as Held}
use Rattle.xt_recorder.specs.Replays.{State, Stream}

-- the reader's type
abbrev pub reader_of : Replayer → Tree
reader_of r = tree r.reader

abbrev pub stream_view : Held → Stream
stream_view s = record { rep = s.rep; yes = s.yes }

-- the state between two records
abbrev pub state_of : Replayer → State
state_of r = record { pool = r.pool; stream = option_map stream_view r.stream }
