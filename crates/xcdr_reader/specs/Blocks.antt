-- Numbers that are read many at a time (this profile's own).
use Rattle.std.specs.Prelude.{◌≡◌, ℕ, zero, suc, ◌*◌, ◌<◌, ◌≤◌, min, false, List, take, drop, Ok}
use Rattle.xt_shapes.specs.declared.leaves.Order.{Order}
use Rattle.xt_shapes.specs.declared.leaves.Primitive.{Primitive}
use Rattle.xt_shapes.specs.declared.leaves.Try.{Try}
use Rattle.xt_shapes.specs.Sizes.{size, is_signed, is_boolean}
use Rattle.xt_shapes.specs.Vals.{Val, int}
use Rattle.xcdr_model.specs.Numbers.{number, with_sign}
use Rattle.xcdr_model.specs.Projection.{got, Part}
use Rattle.xcdr_model.specs.Reading.{Spot, Reading, ◌>>=◌, octets_at}
use Rattle.xt_wire.specs.cursor.Standing.{Standing, room, pad_of}
use Rattle.try_construct.specs.Gathering.{Gathered}
use Rattle.try_construct.specs.Items.{and_item}
use Rattle.xcdr_reader.specs.declared.modes.Mode.{Mode}
use Rattle.xcdr_reader.specs.Modes.{most}

-- the number that these octets are
abbrev pub number_part : Order → Primitive → List ℕ → Part
number_part o p ys = (got (int (with_sign (size p) (is_signed p) (number o ys))), false)

-- the items so far, and as many numbers more, whose octets these are
abbrev pub and_numbers : ℕ → Try → Val → Order → Primitive → ℕ → Gathered Val → List ℕ → Gathered Val
and_numbers bound tc d o p zero g ys = g
and_numbers bound tc d o p (suc m) g ys = and_numbers bound tc d o p m (and_item bound tc d g (number_part o p (take (size p) ys))) (drop (size p) ys)

-- m numbers more, whose octets come next
abbrev pub block_read : ℕ → Try → Val → Primitive → ℕ → Gathered Val → Order → Spot → Reading (Gathered Val)
block_read bound tc d p m g o s = octets_at (m * size p) s >>= λ ys. Ok (and_numbers bound tc d o p m g ys.0, ys.1)

-- at most so many numbers, which are all in the region and begin at an aligned place
pub record IsBlock (mode : Mode) (p : Primitive) (limit : ℕ) (a : Standing) (m : ℕ) : Type 0 where
  pub plain : 0 < m → is_boolean p ≡ false
  pub aligned : 0 < m → pad_of (min (size p) (most mode)) a ≡ 0
  pub fits : m * size p ≤ room a
  pub within : m ≤ limit
  pub small : m * size p ≤ 512
