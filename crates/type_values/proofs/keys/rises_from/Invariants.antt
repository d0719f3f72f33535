use Rattle.std.proofs.Common.{◌≡◌, drop, map}
use Rattle.type_trees.specs.View.{val, pair_val}
use Rattle.type_values.specs.Rising.{rises_from}
use Rattle.type_values.proofs.keys.rises_from.Given as goal

abbrev pub invariant-loop-pair : goal.invariant-loop-pair
invariant-loop-pair l = rises_from (val l.last) (map pair_val (drop l.pair-index l.pairs)) ≡ rises_from (val l.key) (map pair_val l.pairs)
