-- The counted member with the least id from a number on, so that a key's parts come by rising id (DDS-XTypes 1.3, 7.6.8).
use Rattle.std.specs.Prelude.{◌≡◌, ◌≤◌, ◌<◌, ℕ, zero, suc, Bool, true, false, ◌&&◌, nat_le, nat_lt, Option, Some, None}
use Rattle.xt_shapes.specs.Keyable.{counted}
use Rattle.xt_shapes.specs.Shape.{Head, Shape, Members, no_members, member}
use Rattle.xcdr_model.specs.Keys.{counts_id}
use Rattle.key_instances.specs.declared.octets.order.Counted.{Counted}

-- the member at a place
abbrev pub member_in : Members → ℕ → Option (Head × Shape)
member_in no_members i = None
member_in (member h t ms) zero = Some (h, t)
member_in (member h t ms) (suc i) = member_in ms i

-- no id from the first number up to the second is counted
abbrev pub NoneBetween : Bool → Members → ℕ → ℕ → Type 0
NoneBetween keyed ms from to = (id : ℕ) → from ≤ id → id < to → counts_id keyed ms id ≡ false

-- a counted member whose id is the least from a number on
pub record IsLeast (keyed : Bool) (ms : Members) (from : ℕ) (c : Counted) : Type 0 where
  pub head : Head
  pub type : Shape
  pub there : member_in ms c.at ≡ Some (head, type)
  pub id : head.id ≡ c.id
  pub is_counted : counted keyed head ≡ true
  pub late : from ≤ c.id
  pub least : NoneBetween keyed ms from c.id

abbrev pub IsNext : Bool → Members → ℕ → Option Counted → Type 0
IsNext keyed ms from None = (id : ℕ) → from ≤ id → counts_id keyed ms id ≡ false
IsNext keyed ms from (Some c) = IsLeast keyed ms from c

-- whether a member is counted, has no id before a number, and has one before the other's
abbrev pub is_earlier : ℕ → Option ℕ → Bool
is_earlier id None = true
is_earlier id (Some other) = nat_lt id other

abbrev pub comes_first : Bool → Head → ℕ → Option ℕ → Bool
comes_first keyed h from other = counted keyed h && (nat_le from h.id && is_earlier h.id other)
