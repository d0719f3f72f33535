-- What it means that a call on a cursor reads as a reading of lists says (this profile's own).
use Rattle.std.specs.Prelude.{◌≡◌, ℕ, ◌+◌, ◌-◌, ◌≤◌, max, List, take, drop, Some, Result, Ok, Err}
use Rattle.std.specs.Option.{option_map}
use Rattle.xt_outside.specs.Outside.{Rose}
use Rattle.xt_shapes.specs.declared.leaves.Order.{Order}
use Rattle.xcdr_model.specs.declared.malformed.Why.{Why}
use Rattle.xt_wire.specs.declared.cursor.faults.DecodeFault.{DecodeFault}
use Rattle.xt_wire.specs.declared.cursor.faults.DecodeFault.TheVariants.{Malformed, ReadFault, OutOfMemory}
use Rattle.xcdr_model.specs.declared.malformed.Fault.{Fault}
use Rattle.xcdr_model.specs.Reading.{Spot, Reading}
use Rattle.xt_wire.specs.cursor.Standing.{Standing, Along, Within, StaysInside, room}

-- the spot of a cursor that has these octets ahead
abbrev pub spot : Standing → List ℕ → Spot
spot a xs = record { at = a.place - a.origin; rest = take (room a) xs }

-- the octets ahead after a cursor went on
abbrev pub after : Standing → Standing → List ℕ → List ℕ
after a b xs = drop (b.place - a.place) xs

-- what was read, and the cursor stands behind it
pub record Reads {T A : Type 0} (view : T → A) (a b : Standing) (xs : List ℕ) (x : A × Spot) (t : T) : Type 0 where
  pub value : view t ≡ x.0
  pub ahead : b.ahead ≡ Some (after a b xs)
  pub spot : spot b (after a b xs) ≡ x.1

-- the place is counted as the cursor counts
pub record IsFault (a : Standing) (f : Fault) (p : ℕ) (w : Why) : Type 0 where
  pub at : p ≡ a.origin + f.at
  pub why : w ≡ f.why

-- The answer is that of the reading, unless the device failed or memory was refused.
abbrev pub Answers : {T A : Type 0} → (T → A) → Standing → Standing → List ℕ → Reading A → Result T DecodeFault → Type 0
Answers view a b xs (Ok x) (Ok t) = Reads view a b xs x t
Answers view a b xs (Ok x) (Err (Malformed at why)) = ⊥
Answers view a b xs (Ok x) (Err ReadFault) = Unit {0}
Answers view a b xs (Ok x) (Err OutOfMemory) = Unit {0}
Answers view a b xs (Err f) (Ok t) = ⊥
Answers view a b xs (Err f) (Err (Malformed at why)) = IsFault a f at why
Answers view a b xs (Err f) (Err ReadFault) = Unit {0}
Answers view a b xs (Err f) (Err OutOfMemory) = Unit {0}

-- A read fault comes only where the count of faults rose.
abbrev pub HasRisen : {T : Type 0} → Standing → Standing → Result T DecodeFault → Type 0
HasRisen a b (Ok t) = Unit {0}
HasRisen a b (Err (Malformed at why)) = Unit {0}
HasRisen a b (Err ReadFault) = Rose a.faults b.faults
HasRisen a b (Err OutOfMemory) = Unit {0}

-- Where it is read the cursor is in the same region.
abbrev pub InRegion : {T : Type 0} → Standing → Standing → Result T DecodeFault → Type 0
InRegion a b (Ok t) = Within a b
InRegion a b (Err d) = Along a b

-- The call reads in the cursor's region as `f` reads the region's octets, where they are told.
pub record Decodes {T A : Type 0} (view : T → A) (f : Order → Spot → Reading A) (a b : Standing) (result : Result T DecodeFault) : Type 0 where
  pub within : InRegion a b result
  pub later : a.place ≤ b.place
  pub inside : StaysInside a b
  pub cause : HasRisen a b result
  pub told : (xs : List ℕ) → a.ahead ≡ Some xs → Answers view a b xs (f a.order (spot a xs)) result

-- the device failed
pub record Fails (a b : Standing) (d : DecodeFault) : Type 0 where
  pub along : Along a b
  pub later : a.place ≤ b.place
  pub inside : StaysInside a b
  pub fault : d ≡ ReadFault
  pub rose : Rose a.faults b.faults

-- the cursor left its region at the region's end
pub record Left (n : ℕ) (a b : Standing) : Type 0 where
  pub along : Along a b
  pub region_end : b.region_end ≡ n
  pub place : b.place ≡ a.region_end
  pub origin : b.origin ≡ a.origin
  pub order : b.order ≡ a.order
  pub ahead : b.ahead ≡ option_map (drop (room a)) a.ahead
  pub reach : b.reach ≤ max a.reach b.place
