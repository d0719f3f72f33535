use Rattle.std.proofs.Common.{sym, ◌∙◌, rules}
use Rattle.std.specs.Int.{w128}
use Rattle.std.proofs.lemmas.Int.{to_z-of_z}
use Rattle.packed_reader.specs.Spots.{spot_of}
use Rattle.packed_reader.proofs.LeafSteps.{prim_number_is}
use Rattle.packed_reader.proofs.leaves.prim_number.Goals as goal

pub returns : goal.returns
returns c =
    let d = c.prim_value.result in
    let e = rw c.prim_size.ensures.size at c.in_ok-number.ensures.value in
    rw (to_z-of_z w128 d (search rules)) (prim_number_is c.args.rep c.args.order c.args.prim c.in_ok-number.number d (spot_of c.args.ahead) (spot_of c.in_ok-number.behind) e (sym c.is_no_truth.ensures ∙ c.if-is_no_truth.false) c.prim_value.ensures)
