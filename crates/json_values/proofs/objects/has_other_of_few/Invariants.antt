use Rattle.std.proofs.Common.{◌≡◌}
use Rattle.serde_json.specs.View.{members_view}
use Rattle.type_trees.specs.View.{members_tree}
use Rattle.json_values.specs.Names.{member_names}
use Rattle.json_values.specs.Read.{has_other}
use Rattle.json_values.proofs.objects.has_other_of_few.Given as goal

abbrev pub invariant-loop-key : goal.invariant-loop-key
invariant-loop-key l = has_other (member_names (members_tree l.members)) (members_view l.key-iterator) ≡ has_other (member_names (members_tree l.members)) (members_view l.found.entries)
