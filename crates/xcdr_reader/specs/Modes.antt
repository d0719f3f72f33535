-- What reading a value means in each mode, and what differs between them (DDS-XTypes 1.3, 7.4.1 and 7.4.3).
use Rattle.std.specs.Prelude.{ℕ, Bool, true, false, not, Ok}
use Rattle.xt_shapes.specs.declared.leaves.Order.{Order}
use Rattle.xt_shapes.specs.declared.leaves.Rep.{Rep}
use Rattle.xt_shapes.specs.declared.leaves.Rep.TheVariants.{Xcdr1, Xcdr2}
use Rattle.xt_shapes.specs.Shape.{Shape}
use Rattle.xcdr_model.specs.Projection.{Part}
use Rattle.xcdr_model.specs.Reading.{Spot, Reading, filling}
use Rattle.xcdr_model.specs.Xcdr1Reading.{read1, is_open, at_end_of}
use Rattle.xcdr_model.specs.Xcdr2Reading.{read}
use Rattle.xt_wire.specs.declared.cursor.frames.Framing.{Framing}
use Rattle.xt_wire.specs.declared.cursor.frames.Framing.TheVariants.{Open}
use Rattle.xcdr_steps.specs.reading.Headings.{Next}
use Rattle.xcdr_steps.specs.one.Contents.{own_content}
use Rattle.xcdr_steps.specs.one.Parameters.{parameter_at}
use Rattle.xcdr_steps.specs.two.Bounds.{framing}
use Rattle.xcdr_steps.specs.two.Headers.{next_at}
use Rattle.xcdr_reader.specs.declared.modes.Mode.{Mode}
use Rattle.xcdr_reader.specs.declared.modes.Mode.TheVariants.{Two, Inner, Tail}

abbrev pub read_in : Mode → Order → Shape → Spot → Reading Part
read_in Two o t s = read o t s
read_in Inner o t s = read1 false o t s
read_in Tail o t s = read1 true o t s

-- a body
abbrev pub mode_of : Rep → Mode
mode_of Xcdr1 = Tail
mode_of Xcdr2 = Two

-- elements, keys, map values and members without a header
abbrev pub inner : Mode → Mode
inner Two = Two
inner Inner = Inner
inner Tail = Inner

-- the greatest alignment
abbrev pub most : Mode → ℕ
most Two = 4
most Inner = 8
most Tail = 8

-- whether the region of an appendable value may end before its last members
abbrev pub may_end : Mode → Bool
may_end Two = true
may_end Inner = false
may_end Tail = true

-- whether a union's case that has the rest of the region must use it up
abbrev pub fills : Mode → Bool
fills Two = true
fills Inner = false
fills Tail = false

abbrev pub framing_in : Mode → Shape → Framing
framing_in Two t = framing t
framing_in Inner t = Open
framing_in Tail t = Open

-- the content of a parameter, which is a tail
abbrev pub parameter_content : ℕ → Shape → Order → Spot → Reading Part
parameter_content n t o s = own_content n (not (is_open t)) (λ o1 s1. read1 true o1 t s1) o s

-- the content of n octets behind a member's header
abbrev pub content_in : Mode → ℕ → Shape → Order → Spot → Reading Part
content_in Two n t o s = filling n (λ s1. read o t s1) s
content_in Inner n t o s = parameter_content n t o s
content_in Tail n t o s = parameter_content n t o s

-- what comes next among the members of a mutable structure
abbrev pub next_in : Mode → Order → Spot → Reading Next
next_in Two o s = next_at o s
next_in Inner o s = parameter_at o s
next_in Tail o s = parameter_at o s

-- XCDR1 passes over what is left of the region; in XCDR2 the count of the region's octets does that
abbrev pub to_end : {A : Type 0} → Mode → A → Spot → Reading A
to_end Two x s = Ok (x, s)
to_end Inner x s = at_end_of x s
to_end Tail x s = at_end_of x s
