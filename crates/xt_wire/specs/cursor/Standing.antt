-- Where a cursor stands, and what its calls do to that (this profile's own).
use Rattle.std.specs.Prelude.{◌≡◌, ℕ, ◌+◌, ◌-◌, ◌^◌, ◌<◌, ◌≤◌, List, max, length, take, drop, Some, Result, Ok, Err, OnOk, IfSome}
use Rattle.std.specs.declared.option.Option.{Option}
use Rattle.std.specs.Option.{option_map}
use Rattle.xt_outside.specs.Outside.{Rose}
use Rattle.xt_shapes.specs.declared.leaves.Order.{Order}
use Rattle.xcdr_model.specs.Numbers.{padding}
use Rattle.xt_wire.specs.declared.cursor.cursor.CutFault.{CutFault}
use Rattle.xt_wire.specs.declared.cursor.cursor.CutFault.TheVariants.{Short, Fault}
use Rattle.xt_wire.specs.declared.cursor.cursor.Outer.{Outer}

-- Places are counted from the first octet of all. `ahead` is the octets from the place to the end of all, where they are told. `reach` is where
-- the last of the octets ends that were taken from below, as from a reader: it is ahead of the place only where octets are held that will be
-- given again.
pub record Standing : Type 0 where
  pub place : ℕ
  pub region_end : ℕ
  pub whole : ℕ
  pub origin : ℕ
  pub order : Order
  pub ahead : Option (List ℕ)
  pub faults : ℕ
  pub name : ℕ
  pub reach : ℕ

pub record Stands (a : Standing) : Type 0 where
  pub in_region : a.place ≤ a.region_end
  pub in_whole : a.region_end ≤ a.whole
  pub from_origin : a.origin ≤ a.place
  pub fits : a.whole < 2 ^ 64
  pub told : (xs : List ℕ) → a.ahead ≡ Some xs → length xs ≡ a.whole - a.place

-- how many octets the region has from the place on
abbrev pub room : Standing → ℕ
room a = a.region_end - a.place

-- octets up to the next place whose distance from the origin is a multiple of m
abbrev pub pad_of : ℕ → Standing → ℕ
pad_of m a = padding m (a.place - a.origin)

-- the same whole, origin, order and name, and no fewer faults
pub record Along (a b : Standing) : Type 0 where
  pub whole : b.whole ≡ a.whole
  pub name : b.name ≡ a.name
  pub faults : a.faults ≤ b.faults

-- the same region too, and nothing more is held than was before
pub record Within (a b : Standing) : Type 0 where
  pub along : Along a b
  pub region_end : b.region_end ≡ a.region_end
  pub origin : b.origin ≡ a.origin
  pub order : b.order ≡ a.order
  pub reach : b.reach ≤ max a.reach b.place

-- The place stays within the region, whatever became of the region: it is not past the end that the region had. (Each cursor stands in its region.)
abbrev pub StaysInside : Standing → Standing → Type 0
StaysInside a b = a.place ≤ a.region_end → b.place ≤ a.region_end

-- n octets on, in the same region
pub record Moved (n : ℕ) (a b : Standing) : Type 0 where
  pub within : Within a b
  pub fits : n ≤ room a
  pub place : b.place ≡ a.place + n
  pub ahead : b.ahead ≡ option_map (drop n) a.ahead

-- at the same place
pub record Stayed (a b : Standing) : Type 0 where
  pub within : Within a b
  pub place : b.place ≡ a.place
  pub ahead : b.ahead ≡ a.ahead

-- the device failed within the next n octets, in the same region
pub record Stopped (n : ℕ) (a b : Standing) : Type 0 where
  pub within : Within a b
  pub later : a.place ≤ b.place
  pub few : b.place ≤ a.place + n
  pub rose : Rose a.faults b.faults

pub record IsShort (n p : ℕ) (a b : Standing) (said : ℕ) : Type 0 where
  pub lacks : room a < n
  pub at : said ≡ p
  pub stayed : Stayed a b

abbrev pub GoesOn : {T : Type 0} → ℕ → ℕ → Standing → Standing → Result T CutFault → Type 0
GoesOn n at a b (Ok u) = Moved n a b
GoesOn n at a b (Err (Short said)) = IsShort n at a b said
GoesOn n at a b (Err Fault) = (n ≤ room a) × Stopped n a b

-- the octets that were read are those ahead
abbrev pub Gives : {T : Type 0} → Standing → List ℕ → Result T CutFault → Type 0
Gives a octets result = OnOk result (IfSome a.ahead (λ xs. octets ≡ take (length octets) xs))

-- where too few octets are there, none is written
abbrev pub IsKept : {T : Type 0} → List ℕ → List ℕ → Result T CutFault → Type 0
IsKept old new (Ok u) = Unit {0}
IsKept old new (Err (Short said)) = new ≡ old
IsKept old new (Err Fault) = Unit {0}

-- the next n octets are the region
pub record Entered (n : ℕ) (a b : Standing) (x : Outer) : Type 0 where
  pub along : Along a b
  pub fits : n ≤ room a
  pub outer : x.end ≡ a.region_end
  pub region_end : b.region_end ≡ a.place + n
  pub place : b.place ≡ a.place
  pub ahead : b.ahead ≡ a.ahead
  pub origin : b.origin ≡ a.origin
  pub order : b.order ≡ a.order
  pub reach : b.reach ≡ a.reach

abbrev pub IsEntered : ℕ → Standing → Standing → Result Outer CutFault → Type 0
IsEntered n a b (Ok outer) = Entered n a b outer
IsEntered n a b (Err (Short said)) = IsShort n a.place a b said
IsEntered n a b (Err Fault) = (n ≤ room a) × Stopped n a b

-- the region ends at that place
pub record HasEnd (n : ℕ) (a b : Standing) : Type 0 where
  pub along : Along a b
  pub region_end : b.region_end ≡ n
  pub place : b.place ≡ a.place
  pub ahead : b.ahead ≡ a.ahead
  pub origin : b.origin ≡ a.origin
  pub order : b.order ≡ a.order
  pub reach : b.reach ≡ a.reach

pub record HasOrigin (n : ℕ) (a b : Standing) : Type 0 where
  pub along : Along a b
  pub region_end : b.region_end ≡ a.region_end
  pub place : b.place ≡ a.place
  pub ahead : b.ahead ≡ a.ahead
  pub origin : b.origin ≡ n
  pub order : b.order ≡ a.order
  pub reach : b.reach ≡ a.reach

pub record HasOrder (o : Order) (a b : Standing) : Type 0 where
  pub along : Along a b
  pub region_end : b.region_end ≡ a.region_end
  pub place : b.place ≡ a.place
  pub ahead : b.ahead ≡ a.ahead
  pub origin : b.origin ≡ a.origin
  pub order : b.order ≡ o
  pub reach : b.reach ≡ a.reach
