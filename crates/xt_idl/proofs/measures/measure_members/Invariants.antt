use Rattle.std.proofs.Common.{◌≡◌, ◌++◌, map, take}
use Rattle.type_trees.specs.View.{members_of}
use Rattle.idl_types.specs.Definitions.{declared, member_whole, members_before}
use Rattle.xt_idl.specs.Measures.{of_members}
use Rattle.xt_idl.proofs.measures.measure_members.Given as goal

abbrev pub invariant-loop-member : goal.invariant-loop-member
invariant-loop-member l = let ts = declared l.known.types.now in l.sum ≡ of_members (members_of (members_before ts l.fn.base ++ map (member_whole ts) (take l.member-index l.own)))
