use Rattle.shape_laws.proofs.Theorems.{the_round_trip}
use Rattle.shape_laws.proofs.round_trip.Goals as goal

pub returns : goal.returns
returns c = the_round_trip
