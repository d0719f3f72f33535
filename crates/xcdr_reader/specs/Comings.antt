-- What comes of a member that stands in declared order: it is there, absent, or a parameter's content (DDS-XTypes 1.3, 7.4.1 and 7.4.3.5).
use Rattle.std.specs.Prelude.{ℕ, Bool, cond, ◌&&◌, ◌==◌, ◌≤◌, Ok, length}
use Rattle.xt_shapes.specs.declared.leaves.Order.{Order}
use Rattle.xcdr_model.specs.Reading.{Spot, Reading, ◌>>=◌}
use Rattle.xcdr_model.specs.Xcdr2Reading.{present_at}
use Rattle.xt_wire.specs.cursor.Standing.{Standing, room}
use Rattle.xcdr_steps.specs.one.Own.{own_length}
use Rattle.xcdr_reader.specs.declared.modes.Mode.{Mode}
use Rattle.xcdr_reader.specs.declared.modes.Mode.TheVariants.{Two, Inner, Tail}
use Rattle.xcdr_reader.specs.declared.comings.Coming.{Coming}
use Rattle.xcdr_reader.specs.declared.comings.Coming.TheVariants.{Absent, Here, Content}

-- in XCDR2 an optional member stands behind its presence octet
abbrev pub by_presence : Bool → Coming
by_presence there = cond there Here Absent

-- in XCDR1 an optional member is one parameter, empty where it is absent
abbrev pub by_length : ℕ → Coming
by_length n = cond (n == 0) Absent (Content n)

abbrev pub presence_read : Order → Spot → Reading Coming
presence_read o s = present_at o s >>= λ b. Ok (by_presence b.0, b.1)

abbrev pub own_read : ℕ → Order → Spot → Reading Coming
own_read id o s = own_length id o s >>= λ n. Ok (by_length n.0, n.1)

abbrev pub optional_read : Mode → ℕ → Order → Spot → Reading Coming
optional_read Two id o s = presence_read o s
optional_read Inner id o s = own_read id o s
optional_read Tail id o s = own_read id o s

abbrev pub here_read : Mode → Bool → ℕ → Order → Spot → Reading Coming
here_read m optional id o s = cond optional (optional_read m id o s) (Ok (Here, s))

-- where the region may end before a member and has ended, it is absent
abbrev pub coming_read : Mode → Bool → Bool → ℕ → Order → Spot → Reading Coming
coming_read m cut optional id o s = cond (cut && (length s.rest == 0)) (Ok (Absent, s)) (here_read m optional id o s)

-- the content is in the region
abbrev pub Fits : Standing → Coming → Type 0
Fits a Absent = Unit {0}
Fits a Here = Unit {0}
Fits a (Content n) = n ≤ room a
