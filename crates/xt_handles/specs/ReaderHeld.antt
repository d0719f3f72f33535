-- What a handle of a reader holds and owns (this profile's own).
use Rattle.std.specs.Prelude.{Option}
use Rattle.std.specs.Coded.{Coded, coded_option}
use base.Fml.{Fml}
use denote.RawPtr.{Ptr}
use Rattle.xt_handles.specs.boxes.Held as boxes
use Rattle.xt_calls.specs.contracts.readers.Reader.{the_row}

abbrev pub Held : Type 0
Held = Option the_row.Denot

abbrev pub held_code : Coded Held
held_code = coded_option the_row.coded

abbrev pub held_owns : Ptr → Held → Fml
held_owns = boxes.held_owns the_row
