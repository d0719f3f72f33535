use Rattle.std.specs.Int.{w64}
use Rattle.xt_shapes.specs.Vals.{int}
use Rattle.json_values.specs.Read.{bits_of}
use Rattle.packed_json.proofs.OfTapes.Leaves.{texts_mean}
use Rattle.packed_json.proofs.tapes.leaves.read_double.Goals as goal

pub returns : goal.returns
returns c j begins = texts_mean int (bits_of w64 8) j c.in_ok-text.text.now c.double_in.result (c.in_ok-text.ensures j begins) c.double_in.ensures
