use Rattle.std.proofs.Common.{◌≡◌, ◌*◌, length}
use Rattle.xt_shapes.specs.declared.leaves.Order.TheVariants.{Little}
use Rattle.xt_shapes.specs.Sizes.{size}
use Rattle.json_values.specs.Read.{prim_of}
use Rattle.packed_reader.specs.View.{numbers_in}
use Rattle.packed_json.specs.Tapes.{ItemsSoFar}
use Rattle.packed_json.proofs.tapes.runs.read_numbers.Given as goal

abbrev pub invariant-loop-item : goal.invariant-loop-item
invariant-loop-item l = record {
  so_far : ItemsSoFar (prim_of l.prim) 0 l.part l.items (numbers_in l.prim Little l.count l.octets);
  long : length l.octets ≡ l.count * size l.prim;
}

abbrev pub decreases-loop-item : goal.decreases-loop-item
decreases-loop-item l = length l.items
