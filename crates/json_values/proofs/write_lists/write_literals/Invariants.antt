use Rattle.std.proofs.Common.{◌≡◌, ◌++◌, drop}
use Rattle.json.specs.Tree.{items_tokens}
use Rattle.serde_json.specs.Written.{items_outline}
use Rattle.type_trees.specs.View.{vals}
use Rattle.json_values.specs.Written.{int_data, literal_data, vals_data}
use Rattle.json_values.proofs.write_lists.write_literals.Given as goal

abbrev pub invariant-loop-value : goal.invariant-loop-value
invariant-loop-value l =
    (l.out.before ≡ l.initial.out.before)
    × (l.out.tokens ++ items_tokens (items_outline (vals_data (int_data (literal_data l.literals)) (vals (drop l.value-index l.values)))) ≡ l.initial.out.tokens ++ items_tokens (items_outline (vals_data (int_data (literal_data l.literals)) (vals l.values))))
