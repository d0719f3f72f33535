use Rattle.std.proofs.Common.{◌≡◌, drop, map, ◌++◌}
use Rattle.type_trees.specs.View.{pair_val}
use Rattle.type_values.specs.KeyLists.{number_keys}
use Rattle.type_values.proofs.sorted_keys.numbers_of.Given as goal

-- The keys so far, and those of the entries to come.
abbrev pub invariant-loop-pair : goal.invariant-loop-pair
invariant-loop-pair l = l.keys.items ++ number_keys (map pair_val (drop l.pair-index l.pairs)) ≡ number_keys (map pair_val l.pairs)
