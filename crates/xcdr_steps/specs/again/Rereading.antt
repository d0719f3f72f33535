-- Where a cursor over another one stands (this profile's own).
use Rattle.std.specs.Prelude.{◌≡◌, ℕ, ◌+◌, ◌-◌, Bool, true, false, List, [], ◌∷◌, ◌++◌, length, take, drop, Option, None, Some}
use Rattle.std.proofs.Common.{refl, ap, arith, length-append, length-drop, length-take}
use Rattle.std.specs.Option.{option_map}
use Rattle.xt_shapes.specs.declared.leaves.Order.{Order}
use Rattle.xt_shapes.specs.declared.leaves.Order.TheVariants.{Big, Little}
use Rattle.xt_wire.specs.cursor.Standing.{Standing, Stands, room}
use Rattle.xt_wire.specs.streams.Marks.{number_of_two, number_of, octets_numbers}
use Rattle.xt_wire.specs.declared.cursor.cursor.Cursor.{Ghosts}
use Rattle.xcdr_steps.specs.declared.again.rereading.Rereading.{Rereading}

-- One number for where a cursor stood. A `Standing` has a number for the name of what a cursor goes over, so a cursor over another one names it
-- by this one.
abbrev pub order_number : Order → ℕ
order_number Big = 0
order_number Little = 1

abbrev pub standing_numbers : Standing → List ℕ
standing_numbers a = a.place ∷ a.region_end ∷ a.whole ∷ a.origin ∷ order_number a.order ∷ a.faults ∷ a.name ∷ a.reach ∷ octets_numbers a.ahead

unfoldable pub standing_number : Standing → ℕ
standing_number a = number_of (standing_numbers a)

-- which cursor it goes over, and where that one stood
abbrev pub name_over : ℕ → Standing → ℕ
name_over name began = number_of_two name (standing_number began)

-- the octets that are held, and those ahead to the end of the other cursor's region
abbrev pub ahead_over : Bool → List ℕ → Standing → Option (List ℕ)
ahead_over true held a = None
ahead_over false held a = option_map (λ xs. held ++ take (room a) xs) a.ahead

-- a cursor of that name over one that stands there
abbrev pub over : ℕ → Bool → List ℕ → ℕ → ℕ → ℕ → Order → Standing → Standing
over name failed held place end origin order now =
    record { place = place; region_end = end; whole = now.region_end; origin = origin; order = order; ahead = ahead_over failed held now; faults = now.faults; name = name; reach = now.place }

abbrev pub rereading_state : {X : Type 0} {G : Ghosts X} → Rereading X G → Standing
rereading_state {X} {G} c = over (name_over c.inner.ghost_name (G.state c.began.value)) c.failed (drop c.from c.next) c.place c.end c.origin c.order (G.state c.inner.now)

-- how many octets are held
abbrev pub held_count : {X : Type 0} {G : Ghosts X} → Rereading X G → ℕ
held_count c = 4 - c.from

-- a cursor of that name that has just begun
abbrev pub again_start : ℕ → Standing → Standing
again_start name a = over (name_over name a) false [] a.place a.region_end a.origin a.order a

over_told : (failed : Bool) (held xs : List ℕ) (now : Standing) (place : ℕ) → Stands now → place + length held ≡ now.place → ahead_over failed held now ≡ Some xs → length xs ≡ now.region_end - place
over_told true held xs now place st reached e = absurd cc
over_told false held xs now place st reached e = by_ahead now.ahead (λ ys is. st.told ys is) e
  where
    by_ahead : (o : Option (List ℕ)) → ((ys : List ℕ) → o ≡ Some ys → length ys ≡ now.whole - now.place) → option_map (λ ys. held ++ take (room now) ys) o ≡ Some xs → length xs ≡ now.region_end - place
    by_ahead None told is = absurd cc
    by_ahead (Some ys) told is =
        let same : held ++ take (room now) ys ≡ xs = cc in
        omega (arith, ap length same, length-append held (take (room now) ys), length-take (room now) ys, told ys refl, st.in_region, st.in_whole, reached)

pub rereading_stands : {X : Type 0} {G : Ghosts X} (c : Rereading X G) → Stands (G.state c.inner.now) → Stands (rereading_state c)
rereading_stands {X} {G} c st = record {
  in_region = c.in_region;
  in_whole = c.in_whole;
  from_origin = c.from_origin;
  fits = omega (arith, st.in_whole, st.fits);
  told = λ xs e. over_told c.failed (drop c.from c.next) xs (G.state c.inner.now) c.place st (omega (arith, c.reached, length-drop c.from c.next, c.sized)) e;
}
