-- A recording of a stream: its beginning, and then each sample as it is (this profile's own).
use Rattle.std.specs.Prelude.{ℕ, List, [], ◌∷◌, ◌++◌, map}
use Rattle.xt_io.specs.declared.Item.{Item}
use Rattle.xt_io.specs.declared.Kind.TheVariants.{Note, Sample}
use Rattle.xt_io.specs.Bundles.{Bundle}
use Rattle.xt_io.specs.Records.{record_octets}
use Rattle.xt_shapes.specs.declared.leaves.Rep.{Rep}
use Rattle.type_trees.specs.declared.types.HashId.{HashId}
use Rattle.type_object.specs.Pools.{Texts, found}
use Rattle.xt_recorder.specs.Recordings.{object_record, closed}
use Rattle.xt_recorder.specs.Streams.{stream_text}
use Rattle.tool_runs.specs.declared.output.ending.Style.TheVariants.{Records}
use Rattle.tool_runs.specs.output.Outputs.{Output, Turn, goes_on, run, taking, finished}

-- the objects of the type and of all that it refers to, and the Note of the stream
abbrev pub opening_pieces : Texts → HashId → Rep → List (List ℕ)
opening_pieces pool id rep = map (λ i. object_record (found i pool)) (closed pool id) ++ record_octets Note (stream_text id rep) ∷ []

-- a sample as it is
abbrev pub record_turn : ℕ → Item → Unit {0} → Turn (Unit {0})
record_turn k item u = goes_on (record_octets Sample item.payload ∷ []) u

abbrev pub samples_recorded : ℕ → Bundle → Output
samples_recorded k body = run Records (taking Sample record_turn) (λ u. finished) tt k body
