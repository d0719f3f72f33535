use Rattle.std.proofs.Common.{◌≡◌, ℕ, ◌≤◌, length, drop}
use Rattle.std.specs.BTreeMap.{get}
use Rattle.std.specs.Ordering.{nat_cmp}
use Rattle.type_trees.specs.Bridge.{members_shape}
use Rattle.xcdr_steps.specs.reading.Indices.{index_of}
use Rattle.try_construct.proofs.CasesByIndex.{shifted}
use Rattle.xcdr_steps.proofs.index.index.MemberIndex.new.Given as goal

-- the members from there on are held
abbrev pub invariant-members : goal.invariant-members
invariant-members l = (l.at ≤ length l.members) × ((id : ℕ) → get nat_cmp l.by_id id ≡ shifted l.at (index_of (members_shape (drop l.at l.members)) id))

abbrev pub decreases-members : goal.decreases-members
decreases-members l = l.at
