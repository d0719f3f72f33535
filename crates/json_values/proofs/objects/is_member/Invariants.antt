use Rattle.std.proofs.Common.{◌≡◌, drop}
use Rattle.type_trees.specs.View.{members_tree}
use Rattle.json_values.specs.Names.{is_among, member_names}
use Rattle.json_values.proofs.objects.is_member.Given as goal

abbrev pub invariant-loop-member : goal.invariant-loop-member
invariant-loop-member l = is_among l.key (member_names (members_tree (drop l.member-index l.members))) ≡ is_among l.key (member_names (members_tree l.members))
