use Rattle.std.proofs.Common.{◌≡◌, ◌++◌, map, take}
use Rattle.type_trees.specs.View.{member_tree}
use Rattle.idl_types.specs.Definitions.{member_head}
use Rattle.xt_idl.proofs.standing.append_members.Given as goal

abbrev pub invariant-loop-member : goal.invariant-loop-member
invariant-loop-member g l =
    map member_tree l.members ≡ map member_tree l.initial.members ++ map (λ m. (member_head m, g.S.Stands.stood l.stands m.used)) (take l.member-index l.own)
