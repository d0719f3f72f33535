use Rattle.std.proofs.Common.{◌≡◌, ℕ, Bool, drop}
use Rattle.serde_json.specs.Data.{Data, no_members}
use Rattle.packed_json.specs.Plans.{entries_by, put_from}
use Rattle.packed_json.proofs.plan.order_of.Given as goal

-- what is listed and what is still to come is the whole
abbrev pub invariant-loop-at : goal.invariant-loop-at
invariant-loop-at l = (there : ℕ → Bool) (f : ℕ → Data) → put_from there f l.at (drop l.at l.members) (entries_by there f l.order.entries) ≡ put_from there f 0 l.members no_members
