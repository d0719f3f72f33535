-- What is read of a value, by the parts of its type: how its octets are bounded, and what is read inside (DDS-XTypes 1.3, 7.4.1 and 7.4.3).
use Rattle.std.specs.Prelude.{ℕ, ℤ, Bool, true, false, cond, ◌&&◌, List, [], ◌∷◌, Option, Some, None, Ok, length}
use Rattle.xt_shapes.specs.declared.leaves.Order.{Order}
use Rattle.xt_shapes.specs.declared.leaves.Try.{Try}
use Rattle.xt_shapes.specs.Defaults.{default_of}
use Rattle.xt_shapes.specs.Select.{select}
use Rattle.xt_shapes.specs.Shape.{Head, CaseHead, Shape, Members, no_members, member, Cases}
use Rattle.xt_shapes.specs.Vals.{Slot}
use Rattle.xcdr_model.specs.Reading.{Spot, Reading, ◌>>=◌, number_at, each_at}
use Rattle.xcdr_model.specs.Projection.{Part, Body, settled_case, slot_from, whole_items, whole_entries, whole_union, disc_built}
use Rattle.xcdr_model.specs.Xcdr1Reading.{read_case1, case_read}
use Rattle.xcdr_model.specs.Xcdr2Reading.{read_case, done, scalar_at, selected_at, rest_selected}
use Rattle.try_construct.specs.Members.{built_in, unseen_in, and_slot}
use Rattle.xcdr_steps.specs.reading.Counts.{counted}
use Rattle.xcdr_reader.specs.declared.modes.Mode.{Mode}
use Rattle.xcdr_reader.specs.declared.modes.Mode.TheVariants.{Two, Inner, Tail}
use Rattle.xcdr_reader.specs.declared.comings.Coming.{Coming}
use Rattle.xcdr_reader.specs.declared.comings.Coming.TheVariants.{Absent, Here, Content}
use Rattle.xcdr_reader.specs.Modes.{read_in, content_in, inner, most, fills}
use Rattle.xcdr_reader.specs.Comings.{coming_read}

-- ---- collections

abbrev pub items_read : Mode → ℕ → Try → Shape → Option ℕ → Order → Spot → Reading Part
items_read m bound tc t given o s = counted given o s >>= λ n. done (whole_items bound tc (default_of t)) (each_at n.0 (λ s1. read_in m o t s1) n.1)

abbrev pub entry_at : Mode → Shape → Shape → Order → Spot → Reading (Part × Part)
entry_at m k t o s = read_in m o k s >>= λ x. read_in m o t x.1 >>= λ y. Ok ((x.0, y.0), y.1)

abbrev pub entries_read : Mode → ℕ → Try → Shape → Try → Shape → Order → Spot → Reading Part
entries_read m bound kc k vc t o s = number_at 4 o 4 s >>= λ n. done (whole_entries bound kc (default_of k) vc (default_of t)) (each_at n.0 (λ s1. entry_at m k t o s1) n.1)

-- ---- members in order

abbrev pub some_read : Reading Part → Reading (Option Part)
some_read r = r >>= λ x. Ok (Some x.0, x.1)

-- the value of a member, by what comes of it
abbrev pub coming_part : Mode → Shape → Coming → Order → Spot → Reading (Option Part)
coming_part m t Absent o s = Ok (None, s)
coming_part m t Here o s = some_read (read_in (inner m) o t s)
coming_part m t (Content n) o s = some_read (content_in m n t o s)

abbrev pub member_part : Mode → Bool → Head → Shape → Order → Spot → Reading (Option Part)
member_part m cut h t o s = coming_read m cut h.optional h.id o s >>= λ c. coming_part m t c.0 o c.1

unfoldable pub each_member : Mode → Order → Bool → Members → Spot → Reading (List (Option Part))
each_member m o cut no_members s = Ok ([], s)
each_member m o cut (member h t ms) s = member_part m cut h t o s >>= λ x. each_member m o cut ms x.1 >>= λ xs. Ok (x.0 ∷ xs.0, xs.1)

abbrev pub slot_read : Mode → Bool → Head → Shape → Order → Spot → Reading (Option Slot × Bool)
slot_read m cut h t o s = member_part m cut h t o s >>= λ x. Ok ((slot_from h t (built_in x.0), unseen_in x.0), x.1)

-- the slots of the members before, and that of one more
abbrev pub slot_more : Mode → Bool → Head → Shape → Option (List Slot) × Bool → Order → Spot → Reading (Option (List Slot) × Bool)
slot_more m cut h t g o s = slot_read m cut h t o s >>= λ x. Ok (and_slot g x.0, x.1)

-- ---- unions

-- the cases of a union by id; a case is read as its union is
abbrev pub case_named : Mode → Order → Cases → ℕ → Spot → Reading (Body × Bool)
case_named Two o cs i s = read_case o cs i s
case_named Inner o cs i s = read_case1 false o cs i s
case_named Tail o cs i s = read_case1 true o cs i s

-- the case that the number selects, which has the rest of the region where it is `filled`
abbrev pub case_selected : Mode → Bool → Option ℕ → (ℕ → Spot → Reading (Body × Bool)) → Spot → Reading (Body × Bool)
case_selected Two true i f s = rest_selected i f s
case_selected Two false i f s = selected_at i f s
case_selected Inner filled i f s = case_read filled i f s
case_selected Tail filled i f s = case_read filled i f s

abbrev pub case_in : Mode → Bool → Cases → ℤ → Order → Spot → Reading (Body × Bool)
case_in m filled cs d o s = case_selected m filled (select cs d) (λ i s1. case_named m o cs i s1) s

abbrev pub union_read : Mode → Bool → Shape → Cases → Order → Spot → Reading Part
union_read m filled disc cs o s = scalar_at (most m) o disc s >>= λ d. done (λ b. whole_union (disc_built disc d.0) d.0 b) (case_in m filled cs d.0 o d.1)

-- a value that has the rest of the region, where it is `filled`
abbrev pub whole_read : Mode → Bool → Shape → Order → Spot → Reading Part
whole_read m filled t o s = cond (filled && fills m) (content_in m (length s.rest) t o s) (read_in m o t s)

abbrev pub body_read : Mode → Bool → CaseHead → Shape → Order → Spot → Reading (Body × Bool)
body_read m filled h t o s = done (λ x. settled_case h t x) (whole_read m filled t o s)
