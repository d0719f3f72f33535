use Rattle.std.proofs.Common.{◌-◌, ℕ}
use Rattle.xt_shapes.specs.declared.leaves.Order.TheVariants.{Big, Little}
use Rattle.xt_shapes.specs.Sizes.{size}
use Rattle.packed_reader.specs.View.{numbers_in}
use Rattle.value_writer.specs.Runs.{digits_of}
use Rattle.packed_writer.proofs.Appending.{Going}
use Rattle.packed_writer.proofs.numbers.put_turned.Given as goal

abbrev pub invariant-loop-turn : goal.invariant-loop-turn
invariant-loop-turn l = Going (λ (p : ℕ). digits_of Little (size l.fn.prim) (numbers_in l.fn.prim Big l.count l.octets)) (λ (p : ℕ). digits_of Little (size l.fn.prim) (numbers_in l.fn.prim Big (l.count - l.turn) l.rest)) l.initial.out l.out
