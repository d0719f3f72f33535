use Rattle.std.proofs.Common.{◌≡◌, drop, true}
use Rattle.serde_json.specs.View.{members_view}
use Rattle.type_trees.specs.View.{members_tree}
use Rattle.json_values.specs.Names.{members_have_text_names}
use Rattle.json_values.specs.Read.{has_missing}
use Rattle.json_values.proofs.objects.has_missing_member.Given as goal

abbrev pub invariant-loop-member : goal.invariant-loop-member
invariant-loop-member l =
    (has_missing (members_tree (drop l.member-index l.members)) (members_view l.found.entries) ≡ has_missing (members_tree l.members) (members_view l.found.entries))
    × (members_have_text_names (members_tree (drop l.member-index l.members)) ≡ true)
