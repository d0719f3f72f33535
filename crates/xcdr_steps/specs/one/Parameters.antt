-- What comes next in a parameter list (DDS-XTypes 1.3, 7.4.1.2), told its place: the list's end, an ignored parameter, or a member's header
-- (which fault comes first is this profile's own).
use Rattle.std.specs.Prelude.{ℕ, cond, Ok, length, nat_lt}
use Rattle.xt_shapes.specs.declared.leaves.Order.{Order}
use Rattle.xcdr_model.specs.declared.malformed.Why.TheVariants.{MemberId, MemberSize}
use Rattle.xcdr_model.specs.Reading.{Spot, Reading, fault_at, ◌>>=◌}
use Rattle.xcdr_model.specs.Xcdr1Reading.{Mark, by_mark, is_no_id}
use Rattle.xcdr_steps.specs.reading.Headings.{Told, Next, ended, ignored, told}
use Rattle.xcdr_steps.specs.one.Marks.{marked_at}

abbrev pub told_of : ℕ × Mark → Told
told_of v = record { at = v.0; id = v.1.id; must = v.1.must; size = v.1.length }

-- the content has so many octets of the region
abbrev pub with_content : ℕ × Mark → Next → Spot → Reading Next
with_content v x s = cond (nat_lt (length s.rest) v.1.length) (fault_at v.0 MemberSize) (Ok (x, s))

abbrev pub parameter_of : ℕ × Mark → Order → Spot → Reading Next
parameter_of v o s = by_mark v.1 (Ok (ended, s)) (with_content v (ignored v.1.length) s) (cond (is_no_id v.1) (fault_at v.0 MemberId) (with_content v (told (told_of v)) s))

abbrev pub parameter_at : Order → Spot → Reading Next
parameter_at o s = marked_at o s >>= λ x. parameter_of x.0 o x.1
