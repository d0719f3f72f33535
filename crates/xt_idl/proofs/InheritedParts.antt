-- The members that a copy of a structure's members lists.
use Rattle.std.proofs.Common.{◌≡◌, List, map, sym, ap, ◌∙◌}
use Rattle.type_trees.specs.declared.types.Member.{Member}
use Rattle.type_trees.specs.View.{member_tree, members_of, members_tree}
use Rattle.idl_types.specs.Definitions.{listed}
use Rattle.idl_definitions.proofs.MakeSteps.{listed_back}

pub copied_back : (copy ms : List Member) → members_tree copy ≡ members_tree ms → map member_tree copy ≡ listed (members_of (map member_tree ms))
copied_back copy ms same = sym (listed_back (map member_tree copy)) ∙ ap listed same
