use Rattle.std.proofs.Common.{◌≡◌, ◌++◌, ◌-◌, map}
use Rattle.type_trees.specs.View.{val}
use Rattle.packed_reader.specs.View.{numbers_in, numbers_of}
use Rattle.key_instances.proofs.octets.unpacked.unpacked_numbers.Given as goal

-- those that are there and those still to come are all numbers
abbrev pub invariant-loop-turn : goal.invariant-loop-turn
invariant-loop-turn l = map val l.values ++ numbers_in l.numbers.prim l.numbers.order (l.numbers.count - l.turn) l.rest ≡ numbers_of l.numbers
