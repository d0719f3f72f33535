use Rattle.type_lookup.proofs.Streams.{frames-none, frames-broken, frames-framed}
use Rattle.type_lookup.proofs.Sequences.{are_whole}
use Rattle.type_lookup.proofs.laws.frames_by_front.Goals as goal

pub returns : goal.returns
returns c = record { end = frames-none; broken = frames-broken; goes_on = frames-framed; whole = are_whole }
