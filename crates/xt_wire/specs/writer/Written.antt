-- What contracts see of a writer: its place and the origin of alignment, both below 2 to the 64, and its sink (this profile's own).
use Rattle.std.specs.Prelude.{ℕ, List, Option}
use Rattle.xt_shapes.specs.declared.leaves.Order.{Order}

pub record Written : Type 0 where
  pub place : ℕ
  pub origin : ℕ
  pub order : Order
  pub taken : Option (List ℕ)
  pub faults : ℕ
  pub name : List ℕ
