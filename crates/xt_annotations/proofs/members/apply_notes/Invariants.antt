use Rattle.std.proofs.Common.{◌≡◌, drop}
use Rattle.type_trees.specs.View.{member_tree}
use Rattle.xt_annotations.specs.Members.{with_notes}
use Rattle.xt_annotations.proofs.members.apply_notes.Given as goal

abbrev pub invariant-loop-placed : goal.invariant-loop-placed
invariant-loop-placed l =
    (with_notes (drop l.placed-index l.notes) (member_tree l.member).0 ≡ with_notes l.notes (member_tree l.initial.member).0) × ((member_tree l.member).1 ≡ (member_tree l.initial.member).1)
