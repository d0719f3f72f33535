use Rattle.std.proofs.Common.{◌≡◌, drop}
use Rattle.type_trees.specs.Bridge.{members_shape}
use Rattle.xcdr_model.specs.Keys.{keys_fit}
use Rattle.assignability.proofs.keys.+key_fit.Given as goal

abbrev pub invariant-keys_fit-loop-member : goal.invariant-keys_fit-loop-member
invariant-keys_fit-loop-member l = keys_fit l.keyed (members_shape (drop l.member-index l.members)) (members_shape l.others) ≡ keys_fit l.keyed (members_shape l.members) (members_shape l.others)
