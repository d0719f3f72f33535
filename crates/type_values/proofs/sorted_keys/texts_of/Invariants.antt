use Rattle.std.proofs.Common.{◌≡◌, drop, map, ◌++◌}
use Rattle.type_trees.specs.View.{pair_val}
use Rattle.type_values.specs.KeyLists.{text_keys}
use Rattle.type_values.proofs.sorted_keys.texts_of.Given as goal

-- The keys so far, and those of the entries to come.
abbrev pub invariant-loop-pair : goal.invariant-loop-pair
invariant-loop-pair l = map (λ key. key.now) l.keys.items ++ text_keys (map pair_val (drop l.pair-index l.pairs)) ≡ text_keys (map pair_val l.pairs)
