-- Where the octets ahead stand (DDS-XTypes 1.3, 7.4.3.4: the region behind a delimiter header; spots are this profile's own).
use Rattle.std.specs.Prelude.{◌≡◌, ◌≤◌, ℕ, Ok, length}
use Rattle.xt_shapes.specs.declared.leaves.Order.{Order}
use Rattle.xcdr_model.specs.Reading.{Spot, dheader, front, step}
use Rattle.packed_reader.specs.declared.ahead.Ahead.{Ahead}

abbrev pub spot_of : Ahead → Spot
spot_of a = record { at = a.place; rest = a.rest.now }

-- the n octets from here as a region of their own, and what is behind them
pub record IsFront (n : ℕ) (s inside after : Spot) : Type 0 where
  pub fits : n ≤ length s.rest
  pub inside_is : inside ≡ front n s
  pub after_is : after ≡ step n s

-- a region behind the count of its octets
pub record IsRegion (o : Order) (s inside after : Spot) : Type 0 where
  pub count : ℕ
  pub spot : Spot
  pub counted : dheader o s ≡ Ok (count, spot)
  pub front : IsFront count spot inside after
