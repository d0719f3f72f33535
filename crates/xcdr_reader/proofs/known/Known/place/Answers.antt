use Rattle.std.proofs.Common.{sym}
use Rattle.xcdr_reader.proofs.Indexed.{index_inside}
use Rattle.xcdr_reader.proofs.known.Known.place.Goals as goal

pub has-requires : goal.has-requires
has-requires c = rw c.requires.count (index_inside c.args.members.now c.in-Some.at c.args.header.id (sym c.in-Some.ensures))
