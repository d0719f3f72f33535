use Rattle.std.proofs.Common.{◌≡◌, drop, length}
use Rattle.type_trees.specs.Bridge.{members_shape, cases_shape}
use Rattle.xcdr_model.specs.Equivalence.{same_members, same_cases}
use Rattle.assignability.proofs.equal.+equivalent.Given as goal

abbrev pub invariant-same_members-loop-at : goal.invariant-same_members-loop-at
invariant-same_members-loop-at l =
    (same_members (members_shape (drop l.at l.left)) (members_shape (drop l.at l.right)) ≡ same_members (members_shape l.left) (members_shape l.right)) × (length l.left ≡ length l.right)

abbrev pub invariant-same_cases-loop-at : goal.invariant-same_cases-loop-at
invariant-same_cases-loop-at l =
    (same_cases (cases_shape (drop l.at l.left)) (cases_shape (drop l.at l.right)) ≡ same_cases (cases_shape l.left) (cases_shape l.right)) × (length l.left ≡ length l.right)
