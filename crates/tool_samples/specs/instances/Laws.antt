-- The law of what a body comes to whose records are samples and Notes, where the last values of each key are kept (this profile's own).
use Rattle.std.specs.Prelude.{◌≡◌, ◌≤◌, ℕ, Bool, true, List, [], ◌∷◌, ◌||◌, None, Result, Ok, Err, length, nat_le, if◌then◌else◌}
use Rattle.xt_io.specs.declared.Item.{Item}
use Rattle.xt_io.specs.declared.Kind.TheVariants.{Sample, Note}
use Rattle.xt_shapes.specs.declared.leaves.Rep.{Rep}
use Rattle.xt_shapes.specs.Lists.{all}
use Rattle.type_trees.specs.Trees.{Tree}
use Rattle.type_trees.specs.Bridge.{shape}
use Rattle.xcdr_model.specs.declared.malformed.Fault.{Fault}
use Rattle.xcdr_model.specs.KeyOctets.{key_octets}
use Rattle.xcdr_model.specs.Samples.{Outcome, sample, discarded, must_understand, read_sample}
use Rattle.key_instances.specs.kept.Kept.{Puts, kept, keys_of}
use Rattle.tool_runs.specs.declared.output.ending.Style.TheVariants.{Lines}
use Rattle.tool_runs.specs.output.Outputs.{Output, refused, same_kind}
use Rattle.tool_samples.specs.instances.Instancing.{most_keys, full, instances_end, instances_body}

abbrev pub has_place : Item → Bool
has_place item = same_kind item.kind Sample || same_kind item.kind Note

-- a value of the reader's type under its key, before other puts
abbrev pub before_puts : Tree → Result Outcome Fault → Puts → Puts
before_puts t (Ok (sample v)) ps = (key_octets (shape t) v, v) ∷ ps
before_puts t (Ok discarded) ps = ps
before_puts t (Ok must_understand) ps = ps
before_puts t (Err fault) ps = ps

-- the values that the reader's type makes of samples, in order, each under its key
abbrev pub puts_of : Rep → Tree → List Item → Puts
puts_of rep t [] = []
puts_of rep t (item ∷ items) = if same_kind item.kind Sample then before_puts t (read_sample rep (shape t) item.payload) (puts_of rep t items) else puts_of rep t items

-- the last values of each key, or that there are too many keys
abbrev pub kept_output : ℕ → Tree → Puts → Output
kept_output depth t puts = if nat_le (length (keys_of [] puts)) most_keys then instances_end t (kept depth puts) else refused Lines full

-- A body of samples and Notes that is whole comes to the last values of each key, unless there is a key too many.
abbrev pub KeepsLast : Type 0
KeepsLast = (depth : ℕ) (rep : Rep) (t : Tree) (k : ℕ) (items : List Item) → 1 ≤ depth → all has_place items ≡ true → instances_body depth rep t [] k (record { items = items; end = None }) ≡ kept_output depth t (puts_of rep t items)
