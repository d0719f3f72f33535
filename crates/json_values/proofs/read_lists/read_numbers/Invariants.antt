use Rattle.std.proofs.Common.{◌≡◌, drop, map}
use Rattle.serde_json.specs.View.{items_view}
use Rattle.type_trees.specs.View.{val}
use Rattle.json_values.specs.Read.{items_of, prim_of}
use Rattle.json_values.proofs.Built.{after}
use Rattle.json_values.proofs.read_lists.read_numbers.Given as goal

abbrev pub invariant-loop-item : goal.invariant-loop-item
invariant-loop-item l = after (map val l.values) (items_of (prim_of l.prim) (items_view (drop l.item-index l.items))) ≡ items_of (prim_of l.prim) (items_view l.items)
