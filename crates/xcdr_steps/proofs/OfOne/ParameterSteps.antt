-- A parameter's header, told its place from the same origin.
use Rattle.std.proofs.Common.{◌≡◌, subst, ℕ, ◌-◌, Result}
use Rattle.xt_wire.specs.declared.cursor.faults.DecodeFault.{DecodeFault}
use Rattle.xt_wire.specs.cursor.Standing.{Standing}
use Rattle.xt_wire.specs.cursor.Decoding.{Decodes}
use Rattle.xcdr_steps.specs.declared.reading.headings.Heading.{Heading}
use Rattle.xcdr_steps.specs.reading.Headings.{next_view}
use Rattle.xcdr_steps.specs.declared.one.marks.Marked.{Marked}
use Rattle.xcdr_steps.specs.one.Marks.{mark_view, marked_view}
use Rattle.xcdr_steps.specs.one.Parameters.{parameter_of}

pub same_origin : (a b : Standing) (h : Marked) (r : Result Heading DecodeFault) → b.origin ≡ a.origin → Decodes (next_view b) (parameter_of (marked_view b h)) b b r → Decodes (next_view a) (parameter_of (marked_view a h)) b b r
same_origin a b h r e d = subst (λ (k : ℕ). Decodes (λ x. next_view (record a { origin = k }) x) (parameter_of (h.at - k, mark_view h.mark)) b b r) e d
