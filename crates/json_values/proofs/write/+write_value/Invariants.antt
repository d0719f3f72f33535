use Rattle.std.proofs.Common.{◌≡◌, ◌++◌, drop, true}
use Rattle.json.specs.Tree.{items_tokens, members_tokens}
use Rattle.serde_json.specs.Written.{items_outline, members_outline}
use Rattle.type_trees.specs.View.{tree, val, vals, pairs_val, cases_tree}
use Rattle.json_values.specs.Names.{cases_have_text_names}
use Rattle.json_values.specs.Order.{entries_data}
use Rattle.json_values.specs.Written.{data_of, vals_data, pairs_data, case_data}
use Rattle.json_values.proofs.write.+write_value.Given as goal

abbrev pub invariant-write_each-loop-value : goal.invariant-write_each-loop-value
invariant-write_each-loop-value l =
    (l.out.before ≡ l.initial.out.before)
    × (l.out.tokens ++ items_tokens (items_outline (vals_data (data_of (tree l.ty)) (vals (drop l.value-index l.values)))) ≡ l.initial.out.tokens ++ items_tokens (items_outline (vals_data (data_of (tree l.ty)) (vals l.values))))

abbrev pub invariant-write_pairs-loop-pair : goal.invariant-write_pairs-loop-pair
invariant-write_pairs-loop-pair l =
    (l.out.before ≡ l.initial.out.before)
    × (l.out.tokens ++ items_tokens (items_outline (pairs_data (data_of (tree l.kind.key.ty)) (data_of (tree l.kind.value.ty)) (pairs_val (drop l.pair-index l.pairs)))) ≡ l.initial.out.tokens ++ items_tokens (items_outline (pairs_data (data_of (tree l.kind.key.ty)) (data_of (tree l.kind.value.ty)) (pairs_val l.pairs))))

abbrev pub invariant-write_members-loop-key : goal.invariant-write_members-loop-key
invariant-write_members-loop-key l =
    (l.out.before ≡ l.initial.out.before)
    × (l.out.tokens ++ members_tokens (members_outline (entries_data l.members l.slots l.key-iterator)) ≡ l.initial.out.tokens ++ members_tokens (members_outline (entries_data l.members l.slots l.order.entries)))

abbrev pub invariant-write_case-loop-case : goal.invariant-write_case-loop-case
invariant-write_case-loop-case l =
    (case_data (cases_tree (drop l.case-index l.cases)) l.id (val l.value) ≡ case_data (cases_tree l.cases) l.id (val l.value))
    × (cases_have_text_names (cases_tree (drop l.case-index l.cases)) ≡ true)
    × (l.out ≡ l.initial.out)
