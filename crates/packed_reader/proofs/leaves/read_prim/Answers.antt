use Rattle.std.proofs.Common.{rules}
use Rattle.std.specs.Int.{w128}
use Rattle.std.proofs.lemmas.Int.{to_z-of_z}
use Rattle.packed_reader.specs.View.{packed_val}
use Rattle.packed_reader.specs.Spots.{spot_of}
use Rattle.packed_reader.proofs.LeafSteps.{prim_is}
use Rattle.packed_reader.proofs.leaves.read_prim.Goals as goal

pub returns : goal.returns
returns c =
    let d = c.in_ok-number.number in
    let is = rw (to_z-of_z w128 d (search rules)) at c.in_ok-value.ensures in
    prim_is c.args.rep c.args.order c.args.prim d (packed_val c.in_ok-value.value) (spot_of c.args.ahead) (spot_of c.in_ok-number.behind) c.in_ok-number.ensures is
