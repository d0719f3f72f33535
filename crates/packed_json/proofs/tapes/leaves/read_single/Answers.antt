use Rattle.std.specs.Int.{w32}
use Rattle.xt_shapes.specs.Vals.{int}
use Rattle.json_values.specs.Read.{bits_of}
use Rattle.packed_json.proofs.OfTapes.Leaves.{texts_mean}
use Rattle.packed_json.proofs.tapes.leaves.read_single.Goals as goal

pub returns : goal.returns
returns c j begins = texts_mean int (bits_of w32 4) j c.in_ok-text.text.now c.single_in.result (c.in_ok-text.ensures j begins) c.single_in.ensures
