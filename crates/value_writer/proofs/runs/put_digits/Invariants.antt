use Rattle.std.proofs.Common.{ℕ, ◌++◌, drop, map}
use Rattle.type_trees.specs.View.{val}
use Rattle.xt_wire.proofs.OfWriter.Puts.{Going}
use Rattle.value_writer.specs.Runs.{digits_of}
use Rattle.value_writer.proofs.runs.put_digits.Given as goal

abbrev pub invariant-loop-value : goal.invariant-loop-value
invariant-loop-value g l =
    (limit : ℕ) → Going limit (λ p. digits_of l.order l.size (map val l.values)) (λ p. l.block ++ digits_of l.order l.size (map val (drop l.value-index l.values))) l.initial.out l.out
