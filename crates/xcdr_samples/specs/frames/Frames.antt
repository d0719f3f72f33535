-- A sample in a region: encapsulation, body and counted padding (DDS-XTypes 1.3, 7.6.3.1.2). A sample's places are counted from its first
-- octet, its body's from the octet behind the encapsulation. That regions bound samples is this profile's own.
use Rattle.std.specs.Prelude.{◌≡◌, ℕ, ◌+◌, ◌-◌, ◌≤◌, ◌<◌, ◌⊎◌, max, List, length, take, drop, cond, ◌==◌, Result, Ok, Err}
use Rattle.std.specs.Option.{option_map}
use Rattle.xt_shapes.specs.declared.leaves.Ext.{Ext}
use Rattle.xt_shapes.specs.declared.leaves.Order.{Order}
use Rattle.xt_shapes.specs.declared.leaves.Rep.{Rep}
use Rattle.xcdr_model.specs.declared.malformed.Fault.{Fault}
use Rattle.xcdr_model.specs.declared.malformed.Why.TheVariants.{Trailing}
use Rattle.xcdr_model.specs.Reading.{Spot, Reading, fault_at, ◌>>=◌, step}
use Rattle.xt_outside.specs.Outside.{Rose}
use Rattle.xt_wire.specs.declared.cursor.faults.DecodeFault.{DecodeFault}
use Rattle.xt_wire.specs.declared.cursor.faults.DecodeFault.TheVariants.{Malformed, ReadFault}
use Rattle.xt_wire.specs.cursor.Standing.{Standing, Stands, Along, room}
use Rattle.xt_wire.specs.cursor.Decoding.{Decodes}
use Rattle.xcdr_samples.specs.declared.frames.frames.OpenSample.{OpenSample}
use Rattle.xcdr_samples.specs.declared.frames.heads.Head.{Head}
use Rattle.xcdr_samples.specs.frames.Heads.{Told, head_view, head_at}

-- An answer on all octets of a region, whose places are counted from the region's first octet: where it is Ok they are all read.
abbrev pub over_region : {A : Type 0} → Spot → Result A Fault → Reading A
over_region s (Ok x) = Ok (x, step (length s.rest) s)
over_region s (Err f) = Err (record { at = s.at + f.at; why = f.why })

-- the value is all of its octets
abbrev pub is_whole : {A : Type 0} → A × Spot → Result A Fault
is_whole x = cond (length x.1.rest == 0) (Ok x.0) (fault_at x.1.at Trailing)

unfoldable pub whole_body : {A : Type 0} → (Order → Spot → Reading A) → Order → List ℕ → Result A Fault
whole_body f o b = f o (record { at = 0; rest = b }) >>= λ x. is_whole x

-- a body, and the padding behind it
abbrev pub body_at : {A : Type 0} → (Order → Spot → Reading A) → Told → Spot → Reading A
body_at f h s = over_region s (whole_body f h.0 (take (length s.rest - h.1) s.rest))

-- a sample whose value is read by f
abbrev pub sample_at : {A : Type 0} → Rep → Ext → (Order → Spot → Reading A) → Order → Spot → Reading A
sample_at r e f o s = head_at r e o s >>= λ h. body_at f h.0 h.1

-- ---- where a cursor stands in a sample

-- the body without its padding was entered, with an origin of its own and the order that the head tells
pub record Entered (h : Told) (a b : Standing) (x : OpenSample) : Type 0 where
  pub along : Along a b
  pub fits : h.1 ≤ room a
  pub region_end : b.region_end + h.1 ≡ a.region_end
  pub place : b.place ≡ a.place
  pub ahead : b.ahead ≡ a.ahead
  pub origin : b.origin ≡ a.place
  pub order : b.order ≡ h.0
  pub reach : b.reach ≡ a.reach
  pub outer : x.outer.end ≡ a.region_end
  pub padding : x.padding ≡ h.1
  pub old_origin : x.origin ≡ a.origin
  pub old_order : x.order ≡ a.order

pub record Begun (r : Rep) (e : Ext) (a b : Standing) (x : OpenSample) : Type 0 where
  pub head : Head
  pub middle : Standing
  pub read : Decodes head_view (head_at r e) a middle (Ok head)
  pub stands : Stands middle
  pub entered : Entered (head_view head) middle b x

-- the head was not read, or the device failed
abbrev pub Unbegun : Rep → Ext → Standing → Standing → DecodeFault → Type 0
Unbegun r e a b d = Decodes head_view (head_at r e) a b (Err d)

pub record MayEnd (x : OpenSample) (a : Standing) : Type 0 where
  pub padding : a.region_end + x.padding ≡ x.outer.end
  pub within : x.outer.end ≤ a.whole
  pub origin : x.origin ≤ a.place

-- the sample was read to its end
pub record Ended (x : OpenSample) (a b : Standing) : Type 0 where
  pub along : Along a b
  pub empty : room a ≡ 0
  pub region_end : b.region_end ≡ x.outer.end
  pub place : b.place ≡ x.outer.end
  pub ahead : b.ahead ≡ option_map (drop x.padding) a.ahead
  pub origin : b.origin ≡ x.origin
  pub order : b.order ≡ x.order
  pub reach : b.reach ≤ max a.reach b.place

-- octets of the body are left
pub record Trails (a b : Standing) (d : DecodeFault) : Type 0 where
  pub same : b ≡ a
  pub some : a.place < a.region_end
  pub fault : d ≡ Malformed a.place Trailing

-- the device failed in the padding
pub record Stops (x : OpenSample) (a b : Standing) (d : DecodeFault) : Type 0 where
  pub along : Along a b
  pub later : a.place ≤ b.place
  pub inside : b.place ≤ x.outer.end
  pub fault : d ≡ ReadFault
  pub rose : Rose a.faults b.faults

abbrev pub Ends : OpenSample → Standing → Standing → Result (Unit {0}) DecodeFault → Type 0
Ends x a b (Ok u) = Ended x a b
Ends x a b (Err d) = Trails a b d ⊎ Stops x a b d
