-- The header of an optional member: its content's length, or the first fault (DDS-XTypes 1.3, 7.4.1; which fault comes first is this
-- profile's own).
use Rattle.std.specs.Prelude.{ℕ, Bool, cond, not, ◌&&◌, ◌||◌, ◌==◌, Ok, length, nat_lt}
use Rattle.xt_shapes.specs.declared.leaves.Order.{Order}
use Rattle.xcdr_model.specs.declared.malformed.Why.TheVariants.{Parameter, MemberId, MemberSize}
use Rattle.xcdr_model.specs.Reading.{Spot, Reading, fault_at, ◌>>=◌}
use Rattle.xcdr_model.specs.Xcdr1Reading.{Mark, is_end, is_ignored, is_no_id}
use Rattle.xcdr_steps.specs.one.Marks.{marked_at}

abbrev pub named : Mark → ℕ → Bool
named m id = (m.id == id) && not (is_end m || is_ignored m)

abbrev pub own_checked : ℕ → ℕ × Mark → Order → Spot → Reading ℕ
own_checked id v o s = cond (named v.1 id) (cond (is_no_id v.1) (fault_at v.0 MemberId) (cond (nat_lt (length s.rest) v.1.length) (fault_at v.0 MemberSize) (Ok (v.1.length, s)))) (fault_at v.0 Parameter)

abbrev pub own_length : ℕ → Order → Spot → Reading ℕ
own_length id o s = marked_at o s >>= λ x. own_checked id x.0 o x.1
