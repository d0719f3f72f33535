use Rattle.std.proofs.Common.{◌≡◌, drop, map}
use Rattle.serde_json.specs.View.{items_view}
use Rattle.type_trees.specs.View.{val}
use Rattle.json_values.specs.Read.{items_of, literal_of}
use Rattle.json_values.proofs.Built.{after}
use Rattle.json_values.proofs.read_lists.read_literals.Given as goal

abbrev pub invariant-loop-item : goal.invariant-loop-item
invariant-loop-item l = after (map val l.values) (items_of (literal_of l.literals) (items_view (drop l.item-index l.items))) ≡ items_of (literal_of l.literals) (items_view l.items)
