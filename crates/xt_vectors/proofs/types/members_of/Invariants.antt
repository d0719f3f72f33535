use Rattle.std.proofs.Common.{◌≡◌, take, map}
use Rattle.type_trees.specs.View.{member_tree}
use Rattle.xt_vectors.specs.Types.{member_of}
use Rattle.xt_vectors.proofs.types.members_of.Given as goal

abbrev pub invariant-loop-plan : goal.invariant-loop-plan
invariant-loop-plan l = map member_tree l.members ≡ map member_of (take l.plan-index l.plans)
