-- What stands where the next member of a list may come: the list's end, octets to pass over, or a member's header (this profile's own).
use Rattle.std.specs.Prelude.{ℕ, ◌-◌, ◌≤◌, Bool}
use Rattle.xt_wire.specs.cursor.Standing.{Standing, room}
use Rattle.xcdr_steps.specs.declared.reading.headings.Header.{Header}
use Rattle.xcdr_steps.specs.declared.reading.headings.Heading.{Heading}
use Rattle.xcdr_steps.specs.declared.reading.headings.Heading.TheVariants.{End, Ignored, Member}

-- a header: its place, the id, whether it is marked, and the length of its content
pub record Told : Type 0 where
  pub at : ℕ
  pub id : ℕ
  pub must : Bool
  pub size : ℕ

pub data Next : Type 0 where
  ended : Next
  ignored : ℕ → Next
  told : Told → Next

abbrev pub header_view : Standing → Header → Told
header_view a h = record { at = h.at - a.origin; id = h.id; must = h.must; size = h.length }

abbrev pub next_view : Standing → Heading → Next
next_view a End = ended
next_view a (Ignored n) = ignored n
next_view a (Member h) = told (header_view a h)

-- how many octets it has behind it
abbrev pub content_length : Heading → ℕ
content_length End = 0
content_length (Ignored n) = n
content_length (Member h) = h.length

-- its octets are in the region, and its place is not before the origin
abbrev pub IsHeld : Standing → Heading → Type 0
IsHeld a End = Unit {0}
IsHeld a (Ignored n) = n ≤ room a
IsHeld a (Member h) = (h.length ≤ room a) × (a.origin ≤ h.at)
