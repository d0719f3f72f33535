-- What a reader does: it answers what a format reads from the octets ahead of it, and is then ahead of the rest (this profile's own).
use Rattle.std.specs.Prelude.{Result}
use Rattle.object_formats.specs.declared.faults.ObjectFault.{ObjectFault}
use Rattle.object_formats.specs.Format.{Format, Spot, spot}
use Rattle.object_formats.specs.View.{Gives}
use Rattle.object_reader.specs.declared.reader.Reader.{Reader}

-- the place, and the octets from there to the end of the region
abbrev pub ahead : Reader → Spot
ahead reader = spot reader.at reader.rest.now

abbrev pub Reads : {X Y : Type 0} → (X → Y) → Format Y → Spot → Result X ObjectFault → Spot → Type 0
Reads view format old result new = Gives view result new (format.read old)
