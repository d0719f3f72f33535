-- Where a cursor over octets in memory stands (this profile's own).
use Rattle.std.specs.Prelude.{ℕ, List, [], length, drop, Option, Some, None}
use Rattle.std.proofs.Common.{sym, ap, ◌∙◌, length-drop}
use Rattle.xt_shapes.specs.declared.leaves.Order.TheVariants.{Little}
use Rattle.xt_wire.specs.cursor.Standing.{Standing, Stands}
use Rattle.xt_wire.specs.declared.cursor.slice.SliceCursor.{SliceCursor}

abbrev pub slice_state : SliceCursor → Standing
slice_state c = record { place = c.place; region_end = c.end; whole = length c.octets.now; origin = c.origin; order = c.order; ahead = Some (drop c.place c.octets.now); faults = 0; name = 0; reach = c.place }

abbrev pub at_start : List ℕ → Standing
at_start octets = record { place = 0; region_end = length octets; whole = length octets; origin = 0; order = Little; ahead = Some octets; faults = 0; name = 0; reach = 0 }

octets_in : Option (List ℕ) → List ℕ
octets_in None = []
octets_in (Some xs) = xs

pub slice_stands : (c : SliceCursor) → Stands (slice_state c)
unfolding octets_in
slice_stands c = record {
  in_region = c.in_region;
  in_whole = c.in_whole;
  from_origin = c.from_origin;
  fits = c.fits;
  told = λ xs e. sym (ap (λ o. length (octets_in o)) e) ∙ length-drop c.place c.octets.now;
}
