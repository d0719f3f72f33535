use Rattle.std.proofs.Common.{◌≡◌, ◌≤◌, drop, take, Option, None}
use Rattle.type_rules.specs.Places.{members_depth, cases_depth}
use Rattle.type_trees.specs.View.{members_tree, cases_tree}
use Rattle.xt_shapes.specs.Shape.{Shape}
use Rattle.type_trees.specs.Bridge.{members_shape, cases_shape}
use Rattle.xcdr_model.specs.Failure.{index_failure, id_failure, case_failure, first_of, label_failure, all_labels}
use Rattle.assignability.proofs.failures.+failure.Given as goal

abbrev pub invariant-index_failure-loop-at : goal.invariant-index_failure-loop-at
invariant-index_failure-loop-at l =
    (index_failure l.policy l.rep (members_shape (drop l.at l.left)) (members_shape (drop l.at l.right)) ≡ index_failure l.policy l.rep (members_shape l.left) (members_shape l.right)) × (members_depth (members_tree (drop l.at l.left)) ≤ members_depth (members_tree l.left))

abbrev pub invariant-id_failure-loop-member : goal.invariant-id_failure-loop-member
invariant-id_failure-loop-member l =
    (id_failure l.policy l.rep (members_shape (drop l.member-index l.left)) (members_shape l.right) ≡ id_failure l.policy l.rep (members_shape l.left) (members_shape l.right)) × (members_depth (members_tree (drop l.member-index l.left)) ≤ members_depth (members_tree l.left))

abbrev pub invariant-case_failure-loop-case : goal.invariant-case_failure-loop-case
invariant-case_failure-loop-case l =
    ((o : Option Shape) → case_failure l.policy l.rep (cases_shape (drop l.case-index l.left)) l.id o ≡ case_failure l.policy l.rep (cases_shape l.left) l.id o) × (cases_depth (cases_tree (drop l.case-index l.left)) ≤ cases_depth (cases_tree l.left))

abbrev pub invariant-labels_failure-loop-label : goal.invariant-labels_failure-loop-label
invariant-labels_failure-loop-label l =
    let f = label_failure l.policy l.rep (cases_shape l.left) (cases_shape l.right) in
    (first_of f (drop l.label-index l.labels) ≡ first_of f l.labels) × (first_of f (take l.label-index l.labels) ≡ None) × (l.at ≡ l.label-index)

abbrev pub invariant-side_failure-loop-case : goal.invariant-side_failure-loop-case
invariant-side_failure-loop-case l =
    let f = label_failure l.policy l.rep (cases_shape l.left) (cases_shape l.right) in first_of f (all_labels (cases_shape (drop l.case-index l.side))) ≡ first_of f (all_labels (cases_shape l.side))
