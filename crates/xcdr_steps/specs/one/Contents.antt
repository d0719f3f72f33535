-- Contents, which are read from an origin of their own (DDS-XTypes 1.3, 7.4.1.2; how many octets may be left is this profile's own).
use Rattle.std.specs.Prelude.{◌≡◌, ℕ, ◌+◌, ◌≤◌, ◌<◌, ◌⊎◌, Bool, cond, Result, Ok, Err}
use Rattle.xt_shapes.specs.declared.leaves.Order.{Order}
use Rattle.xcdr_model.specs.declared.malformed.Why.TheVariants.{LengthRest}
use Rattle.xcdr_model.specs.Reading.{Spot, Reading, ◌>>=◌, front, step}
use Rattle.xcdr_model.specs.Xcdr1Reading.{content_read}
use Rattle.xt_wire.specs.declared.cursor.faults.DecodeFault.{DecodeFault}
use Rattle.xt_wire.specs.declared.cursor.faults.DecodeFault.TheVariants.{Malformed}
use Rattle.xt_wire.specs.cursor.Standing.{Standing, Along, room}
use Rattle.xt_wire.specs.cursor.Decoding.{Fails, Left}
use Rattle.xcdr_steps.specs.declared.one.contents.Content.{Content}

-- the next n octets are the content, and what is read of it begins at an origin of its own
abbrev pub own_content : {A : Type 0} → ℕ → Bool → (Order → Spot → Reading A) → Order → Spot → Reading A
own_content n closed f o s = content_read closed (f o) (front n s) >>= λ x. Ok (x.0, step n s)

-- how many octets may be left of it
abbrev pub spare : Bool → ℕ
spare closed = cond closed 3 0

-- ---- where a cursor stands in a content

pub record Opened (n : ℕ) (a b : Standing) (x : Content) : Type 0 where
  pub along : Along a b
  pub fits : n ≤ room a
  pub region_end : b.region_end ≡ a.place + n
  pub place : b.place ≡ a.place
  pub ahead : b.ahead ≡ a.ahead
  pub origin : b.origin ≡ a.place
  pub order : b.order ≡ a.order
  pub reach : b.reach ≡ a.reach
  pub outer : x.outer.end ≡ a.region_end
  pub old_origin : x.origin ≡ a.origin

pub record MayClose (x : Content) (a : Standing) : Type 0 where
  pub ahead : a.region_end ≤ x.outer.end
  pub within : x.outer.end ≤ a.whole
  pub origin : x.origin ≤ a.place

-- few octets were left, and the cursor stands behind the content
pub record Closed (k : ℕ) (x : Content) (a b : Standing) : Type 0 where
  pub few : room a ≤ k
  pub middle : Standing
  pub left : Left x.outer.end a middle
  pub along : Along middle b
  pub region_end : b.region_end ≡ middle.region_end
  pub place : b.place ≡ middle.place
  pub ahead : b.ahead ≡ middle.ahead
  pub origin : b.origin ≡ x.origin
  pub order : b.order ≡ middle.order
  pub reach : b.reach ≡ middle.reach

-- too many octets are left
pub record HasRest (k : ℕ) (a b : Standing) (e : DecodeFault) : Type 0 where
  pub same : b ≡ a
  pub many : k < room a
  pub fault : e ≡ Malformed a.place LengthRest

abbrev pub Closes : ℕ → Content → Standing → Standing → Result (Unit {0}) DecodeFault → Type 0
Closes k x a b (Ok u) = Closed k x a b
Closes k x a b (Err e) = HasRest k a b e ⊎ Fails a b e
