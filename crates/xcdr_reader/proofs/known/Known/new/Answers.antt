use Rattle.std.proofs.Common.{refl}
use Rattle.xcdr_reader.proofs.PieceSteps.{none_held}
use Rattle.xcdr_reader.proofs.known.Known.new.Goals as goal

pub returns : goal.returns
returns c = none_held c.args.members.now _ c.in_ok-new.ensures refl tt
