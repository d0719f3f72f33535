use Rattle.std.proofs.Common.{◌≡◌, ◌≤◌, drop, map, true}
use Rattle.serde_json.specs.View.{view, items_view, members_view}
use Rattle.type_rules.specs.Places.{members_depth, cases_depth}
use Rattle.type_trees.specs.View.{tree, val, pair_val, body_val, members_tree, cases_tree}
use Rattle.json_values.specs.Names.{members_have_text_names, cases_have_text_names}
use Rattle.json_values.specs.Read.{value_of, items_of, entries_of, slots_in, case_reading}
use Rattle.json_values.proofs.Built.{after}
use Rattle.json_values.proofs.read.+read_value.Given as goal

abbrev pub invariant-read_each-loop-item : goal.invariant-read_each-loop-item
invariant-read_each-loop-item l =
    after (map val l.values) (items_of (value_of (tree l.ty)) (items_view (drop l.item-index l.items))) ≡ items_of (value_of (tree l.ty)) (items_view l.items)

abbrev pub invariant-read_pairs-loop-item : goal.invariant-read_pairs-loop-item
invariant-read_pairs-loop-item l =
    after (map pair_val l.pairs) (entries_of (value_of (tree l.kind.key.ty)) (value_of (tree l.kind.value.ty)) (items_view (drop l.item-index l.items))) ≡ entries_of (value_of (tree l.kind.key.ty)) (value_of (tree l.kind.value.ty)) (items_view l.items)

abbrev pub invariant-read_slots-loop-member : goal.invariant-read_slots-loop-member
invariant-read_slots-loop-member l =
    (after (map body_val l.slots) (slots_in (members_tree (drop l.member-index l.members)) (members_view l.found.entries)) ≡ slots_in (members_tree l.members) (members_view l.found.entries))
    × (members_depth (members_tree (drop l.member-index l.members)) ≤ members_depth (members_tree l.members))
    × (members_have_text_names (members_tree (drop l.member-index l.members)) ≡ true)

abbrev pub invariant-read_case-loop-case : goal.invariant-read_case-loop-case
invariant-read_case-loop-case l =
    (case_reading (cases_tree (drop l.case-index l.cases)) l.id (view l.part) ≡ case_reading (cases_tree l.cases) l.id (view l.part))
    × (cases_depth (cases_tree (drop l.case-index l.cases)) ≤ cases_depth (cases_tree l.cases))
    × (cases_have_text_names (cases_tree (drop l.case-index l.cases)) ≡ true)
