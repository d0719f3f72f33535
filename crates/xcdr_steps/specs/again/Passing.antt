-- What became of a cursor of which octets were only taken or passed over (this profile's own).
use Rattle.std.specs.Prelude.{◌≡◌, ℕ, ◌-◌, ◌≤◌, Bool, false, drop, Result, Ok, Err}
use Rattle.std.specs.Option.{option_map}
use Rattle.xt_wire.specs.cursor.Standing.{Standing, Within, Moved, Stopped}
use Rattle.xt_wire.specs.declared.cursor.cursor.CutFault.{CutFault}
use Rattle.xt_wire.specs.declared.cursor.cursor.CutFault.TheVariants.{Short, Fault}

-- It stands in the same region, not before the place where it began; and unless the device failed, the octets ahead are those that were ahead then.
pub record HasPassed (failed : Bool) (began now : Standing) : Type 0 where
  pub within : Within began now
  pub later : began.place ≤ now.place
  pub told : failed ≡ false → now.ahead ≡ option_map (drop (now.place - began.place)) began.ahead

-- n octets on, unless the device failed among them
abbrev pub Advances : {T : Type 0} → ℕ → Standing → Standing → Result T CutFault → Type 0
Advances n a b (Ok u) = Moved n a b
Advances n a b (Err (Short said)) = ⊥
Advances n a b (Err Fault) = Stopped n a b
