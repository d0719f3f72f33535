use Rattle.std.proofs.Common.{sym, ◌∙◌}
use Rattle.packed_reader.specs.Spots.{spot_of}
use Rattle.packed_reader.proofs.Steps.{empty_is}
use Rattle.packed_reader.proofs.samples.read_own.Goals as goal

pub returns : goal.returns
returns c =
    let x = c.in_ok-value in
    record { end = spot_of x.left; value = x.ensures; none_left = empty_is x.left.rest.now (sym c.is_empty.ensures ∙ c.if-not-is_empty.false) }
