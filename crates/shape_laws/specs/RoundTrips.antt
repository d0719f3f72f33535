-- Laws: what is written (DDS-XTypes 1.3, 7.4) is a spelling, and is read again as what it was (this profile's own).
use Rattle.std.specs.Prelude.{◌≡◌, ℕ, ◌^◌, ◌<◌, false, List, length, Ok, IsTrue}
use Rattle.xt_shapes.specs.declared.leaves.Order.{Order}
use Rattle.xt_shapes.specs.declared.leaves.Rep.{Rep}
use Rattle.xt_shapes.specs.NodeRules.{rules_hold}
use Rattle.xt_shapes.specs.Shape.{Shape}
use Rattle.xt_shapes.specs.Typing.{has_type}
use Rattle.xt_shapes.specs.Vals.{Val}
use Rattle.xcdr_model.specs.FixedSpelling.{fixed_of}
use Rattle.xcdr_model.specs.Projection.{got}
use Rattle.xcdr_model.specs.SampleSpelling.{spells, IsSample, fixed_sample, sample_size}
use Rattle.xcdr_model.specs.Samples.{sample, body_read, read_sample, projection}

-- Under its own type each body that spells a value is read as that value.
abbrev pub SelfRead : Type 0
SelfRead = (r : Rep) (o : Order) (t : Shape) (v : Val) (b : List ℕ) → IsTrue (rules_hold t) → IsTrue (has_type t v) → spells r o t v 0 b → body_read r o t b ≡ Ok (got v, false)

-- A value's projection onto its own type is the value, as a sample.
abbrev pub SelfProjected : Type 0
SelfProjected = (t : Shape) (v : Val) → IsTrue (rules_hold t) → IsTrue (has_type t v) → projection t t v ≡ sample v

-- The fixed spelling is a spelling, at each place, where its octets can be counted.
abbrev pub FixedSpells : Type 0
FixedSpells = (r : Rep) (o : Order) (t : Shape) (v : Val) (p : ℕ) → IsTrue (rules_hold t) → IsTrue (has_type t v) → length (fixed_of r o t v p) < 2 ^ 32 → spells r o t v p (fixed_of r o t v p)

-- The body that is written is read again.
abbrev pub RoundTrip : Type 0
RoundTrip = (r : Rep) (o : Order) (t : Shape) (v : Val) → IsTrue (rules_hold t) → IsTrue (has_type t v) → length (fixed_of r o t v 0) < 2 ^ 32 → body_read r o t (fixed_of r o t v 0) ≡ Ok (got v, false)

-- The sample that is written is a sample of the value, and is read again as it.
abbrev pub SampleWritten : Type 0
SampleWritten = (r : Rep) (o : Order) (t : Shape) (v : Val) → IsTrue (rules_hold t) → IsTrue (has_type t v) → length (fixed_of r o t v 0) < 2 ^ 32 → IsSample r t v (fixed_sample r o t v) × (read_sample r t (fixed_sample r o t v) ≡ Ok (sample v))

-- The length of the fixed spelling is the same in both byte orders.
abbrev pub SizeSame : Type 0
SizeSame = (r : Rep) (o o2 : Order) (t : Shape) (v : Val) (p : ℕ) → length (fixed_of r o t v p) ≡ length (fixed_of r o2 t v p)

-- A written sample has the size of its value, in both byte orders.
abbrev pub SampleSized : Type 0
SampleSized = (r : Rep) (o : Order) (t : Shape) (v : Val) → length (fixed_sample r o t v) ≡ sample_size r t v
