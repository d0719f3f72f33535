-- What reading a front answers (this profile's own).
use Rattle.std.specs.Prelude.{◌≡◌, ◌≤◌, [], ◌∷◌, length, List, Option, Some, None, Result, Ok, Err}
use Rattle.xt_io.specs.declared.Item.{Item}
use Rattle.xt_io.specs.Bundles.{Bundle, limit_of}
use Rattle.xt_io.specs.Readers.{Reading}
use Rattle.tool_runs.specs.declared.output.stop.Stop.{Stop}
use Rattle.tool_runs.specs.declared.output.stop.Stop.TheVariants as stops
use Rattle.tool_runs.specs.output.Runs.{coming, refusal}
use Rattle.tool_runs.specs.declared.front.front.Front.{Front as Read}
use Rattle.tool_runs.specs.front.Fronts.{front_of}

-- no payload passes the limit of its kind
abbrev pub AreWithin : List Item → Type 0
AreWithin [] = Unit {0}
AreWithin (item ∷ items) = (length item.payload ≤ limit_of item.kind) × AreWithin items

-- the records that were read, and the body that comes behind them
abbrev pub GivesFront : Bundle → List Item → Option Bundle → Type 0
GivesFront before records None = ⊥
GivesFront before records (Some body) = front_of 0 before ≡ Ok (record { records = records; body = body })

abbrev pub FrontIs : Option Bundle → Result Read Stop → Reading → Type 0
FrontIs None result reader = Unit {0}
FrontIs (Some before) (Ok read) reader = GivesFront before read.records (coming read.next reader)
FrontIs (Some before) (Err (stops.Refused r)) reader = front_of 0 before ≡ Err (refusal r)
FrontIs (Some before) (Err (stops.Halted halt)) reader = Unit {0}
