-- Parts that are bounded by regions of their own (this profile's own).
use Rattle.std.specs.Prelude.{◌≡◌, ℕ, ◌≤◌, ◌<◌, ◌⊎◌, Result, Ok, Err}
use Rattle.xt_shapes.specs.declared.leaves.Order.{Order}
use Rattle.xcdr_model.specs.declared.malformed.Why.TheVariants.{LengthRest}
use Rattle.xcdr_model.specs.Reading.{Spot, Reading, ◌>>=◌, dheader, passing, filling}
use Rattle.xt_wire.specs.declared.cursor.cursor.Outer.{Outer}
use Rattle.xt_wire.specs.declared.cursor.faults.DecodeFault.{DecodeFault}
use Rattle.xt_wire.specs.declared.cursor.faults.DecodeFault.TheVariants.{Malformed}
use Rattle.xt_wire.specs.declared.cursor.frames.Framing.{Framing}
use Rattle.xt_wire.specs.declared.cursor.frames.Framing.TheVariants.{Open, Passed, Filled}
use Rattle.xt_wire.specs.cursor.Standing.{Standing, Stands, Entered, room}
use Rattle.xt_wire.specs.cursor.Decoding.{Decodes, Fails, Left}

-- a part in a region of n octets
abbrev pub bounded : {A : Type 0} → Framing → ℕ → (Order → Spot → Reading A) → Order → Spot → Reading A
bounded Open n f o s = f o s
bounded Passed n f o s = passing n (f o) s
bounded Filled n f o s = filling n (f o) s

-- a part behind the count of its octets, where it is framed
abbrev pub framed : {A : Type 0} → Framing → (Order → Spot → Reading A) → Order → Spot → Reading A
framed Open f o s = f o s
framed Passed f o s = dheader o s >>= λ n. passing n.0 (f o) n.1
framed Filled f o s = dheader o s >>= λ n. filling n.0 (f o) n.1

-- the count was read and the region entered
pub record Framed (a b : Standing) (outer : Outer) : Type 0 where
  pub count : ℕ
  pub middle : Standing
  pub read : Decodes {T = ℕ} (λ n. n) dheader a middle (Ok count)
  pub stands : Stands middle
  pub entered : Entered count middle b outer

abbrev pub Opened : Framing → Standing → Standing → Outer → Type 0
Opened Open a b outer = b ≡ a
Opened Passed a b outer = Framed a b outer
Opened Filled a b outer = Framed a b outer

-- the count was not read, or the device failed
abbrev pub Undelimited : Standing → Standing → DecodeFault → Type 0
Undelimited a b e = Decodes {T = ℕ} (λ n. n) dheader a b (Err e)

abbrev pub OpenFails : Framing → Standing → Standing → DecodeFault → Type 0
OpenFails Open a b e = ⊥
OpenFails Passed a b e = Undelimited a b e
OpenFails Filled a b e = Undelimited a b e

pub record MayLeave (outer : Outer) (a : Standing) : Type 0 where
  pub ahead : a.region_end ≤ outer.end
  pub within : outer.end ≤ a.whole

abbrev pub MayClose : Framing → Outer → Standing → Type 0
MayClose Open outer a = Unit {0}
MayClose Passed outer a = MayLeave outer a
MayClose Filled outer a = MayLeave outer a

abbrev pub ClosesPassed : Outer → Standing → Standing → Result (Unit {0}) DecodeFault → Type 0
ClosesPassed outer a b (Ok u) = Left outer.end a b
ClosesPassed outer a b (Err e) = Fails a b e

-- octets are left of the region
pub record HasRest (a b : Standing) (e : DecodeFault) : Type 0 where
  pub same : b ≡ a
  pub some : a.place < a.region_end
  pub fault : e ≡ Malformed a.place LengthRest

abbrev pub ClosesFilled : Outer → Standing → Standing → Result (Unit {0}) DecodeFault → Type 0
ClosesFilled outer a b (Ok u) = (room a ≡ 0) × Left outer.end a b
ClosesFilled outer a b (Err e) = HasRest a b e ⊎ Fails a b e

abbrev pub ClosesOpen : Standing → Standing → Result (Unit {0}) DecodeFault → Type 0
ClosesOpen a b (Ok u) = b ≡ a
ClosesOpen a b (Err e) = ⊥

abbrev pub Closes : Framing → Outer → Standing → Standing → Result (Unit {0}) DecodeFault → Type 0
Closes Open outer a b r = ClosesOpen a b r
Closes Passed outer a b r = ClosesPassed outer a b r
Closes Filled outer a b r = ClosesFilled outer a b r
