-- What stands for the value of a sample that is kept: the octets of a plain sample, or the value itself (this profile's own).
use Rattle.std.specs.Prelude.{◌≡◌, ℕ, pos, List, Result, Ok, Err}
use Rattle.xt_shapes.specs.declared.leaves.Rep.{Rep}
use Rattle.xt_shapes.specs.Shape.{Shape}
use Rattle.xt_shapes.specs.Vals.{Val, int}
use Rattle.type_trees.specs.Trees.{Tree}
use Rattle.type_trees.specs.Bridge.{shape}
use Rattle.type_trees.specs.View.{tree, val}
use Rattle.xcdr_model.specs.declared.malformed.Fault.{Fault}
use Rattle.xcdr_model.specs.KeyOctets.{key_octets}
use Rattle.xcdr_model.specs.Samples.{Outcome, sample, discarded, must_understand, read_sample}
use Rattle.key_instances.specs.Caches.{CacheOf, entries_as}
use Rattle.key_instances.specs.kept.Kept.{Instances}
use Rattle.tool_samples.specs.declared.instances.held.Held.{Held}
use Rattle.tool_samples.specs.declared.instances.held.Held.TheVariants.{Octets, Value}
use Rattle.tool_samples.specs.declared.instances.held.LastSamples.{LastSamples}

-- the value that a reading gives; 0 where it gives none
abbrev pub value_read : Result Outcome Fault → Val
value_read (Ok (sample v)) = v
value_read (Ok discarded) = int (pos 0)
value_read (Ok must_understand) = int (pos 0)
value_read (Err fault) = int (pos 0)

-- what is kept, as a value
abbrev pub held_val : Rep → Tree → Held → Val
held_val rep t (Octets payload) = value_read (read_sample rep (shape t) payload)
held_val rep t (Value v) = val v

-- the instances of a cache, where what is kept stands for these values
abbrev pub shown_as : (Held → Val) → CacheOf Held → Instances
shown_as f c = entries_as f c.entries

-- the instances that are kept
abbrev pub kept_in : LastSamples → Instances
kept_in s = shown_as (held_val s.rep (tree s.ty)) s.cache

-- A sample has a value, and this is the value's key.
abbrev pub HasKeyRead : Rep → Shape → List ℕ → List ℕ → Type 0
HasKeyRead rep t payload key = (v : Val) × (read_sample rep t payload ≡ Ok (sample v)) × (key ≡ key_octets t v)
