use Rattle.std.proofs.Common.{arith}
use Rattle.packed_json.proofs.OfTapes.Lists.{grid_means}
use Rattle.packed_json.proofs.tapes.parts.read_grid.Goals as goal

pub returns : goal.returns
returns c = grid_means c.args.dims.now c.args.prim c.args.part.now c.in_ok-own.own c.in_ok-own.ensures (omega (arith, c.if-own-elements.false, c.elements_of-elements.ensures))
