-- The laws with the premises that their proofs ask for, each part by itself.
use Rattle.std.specs.Prelude.{nat_lt, ◌+◌, ◌*◌, ◌≤◌, Bool, ◌++◌, ◌↔◌, Some, None, [], true, length, ◌<◌, ◌^◌, false, ◌≡◌, ℕ, List, Ok, IsTrue, ◌⊎◌}
use Rattle.xt_shapes.specs.declared.leaves.Order.{Order}
use Rattle.xt_shapes.specs.declared.leaves.Rep.{Rep}
use Rattle.xt_shapes.specs.declared.leaves.Rep.TheVariants.{Xcdr1, Xcdr2}
use Rattle.xt_shapes.specs.Lists.{all}
use Rattle.xt_shapes.specs.Nodes.{nodes}
use Rattle.xt_shapes.specs.Shape.{Shape}
use Rattle.xt_shapes.specs.Typing.{has_type}
use Rattle.xt_shapes.specs.Vals.{Val}
use Rattle.xt_shapes.specs.Weight.{weight}
use Rattle.xcdr_model.specs.declared.verdict.Policy.{Policy}
use Rattle.xcdr_model.specs.Assignable.{Assignable, Fits, Strong}
use Rattle.xcdr_model.specs.Failure.{Failure, failure, first_failure}
use Rattle.xcdr_model.specs.FixedSpelling.{fixed_of}
use Rattle.xcdr_model.specs.KeyOctets.{key_octets, short, key_hash}
use Rattle.xcdr_model.specs.Keys.{key}
use Rattle.xcdr_model.specs.Premises.{keys_sound, sound, storable, cases_apart, light, defaults_typed}
use Rattle.xcdr_model.specs.Projection.{Part, projected, got}
use Rattle.xcdr_model.specs.Reading.{Spot, Reading}
use Rattle.xcdr_model.specs.SampleSpelling.{spells, IsSample}
use Rattle.xcdr_model.specs.Samples.{sample, value_read, body_read, body_outcome, projection, read_sample}
use Rattle.xcdr_model.specs.Xcdr1Reading.{read1}
use Rattle.xcdr_model.specs.Xcdr2Reading.{read}

-- Where the reader's type is assignable from the writer's under some policy, or equivalent to it, each body that spells a value of the writer's type is read, by the reader's type alone, as the value's projection.
abbrev pub Cross : Type 0
Cross = (q : Policy) (r : Rep) (o : Order) (t t2 : Shape) (v : Val) (b : List ℕ) → IsTrue (sound t) → IsTrue (sound t2) → (t ≡ t2) ⊎ Assignable q r t t2 → spells r o t2 v 0 b → body_outcome r o t b ≡ Ok (projection t t2 v)

-- The same of whole samples.
abbrev pub CrossSample : Type 0
CrossSample = (q : Policy) (r : Rep) (t t2 : Shape) (v : Val) (s : List ℕ) → IsTrue (sound t) → IsTrue (sound t2) → (t ≡ t2) ⊎ Assignable q r t t2 → IsSample r t2 v s → read_sample r t s ≡ Ok (projection t t2 v)

abbrev pub tail_read : Rep → Order → Shape → Spot → Reading Part
tail_read Xcdr1 o t s = read1 true o t s
tail_read Xcdr2 o t s = read o t s

-- Where the types fit below the top, or are equivalent, and the value has the rest of its region, it is read at any place as the projection, and the region is used up.
abbrev pub CrossTail : Type 0
CrossTail = (q : Policy) (r : Rep) (o : Order) (t t2 : Shape) (v : Val) (p : ℕ) (b : List ℕ) → IsTrue (sound t) → IsTrue (sound t2) → (t ≡ t2) ⊎ Fits q r t t2 → spells r o t2 v p b
    → (e : ℕ) × (tail_read r o t (record { at = p; rest = b }) ≡ Ok (projected t t2 v, record { at = e; rest = [] }))

-- Where the projection is a sample, its key is the writer's.
abbrev pub CrossKey : Type 0
CrossKey = (q : Policy) (r : Rep) (t t2 : Shape) (v w : Val) → IsTrue (sound t) → IsTrue (sound t2) → IsTrue (keys_sound t) → IsTrue (keys_sound t2) → (t ≡ t2) ⊎ Assignable q r t t2 → IsTrue (has_type t2 v) → projection t t2 v ≡ sample w → key t w ≡ key t2 v

-- Under its own type each body that spells a value is read as that value.
abbrev pub SelfRead : Type 0
SelfRead = (r : Rep) (o : Order) (t : Shape) (v : Val) (b : List ℕ) → IsTrue (sound t) → IsTrue (has_type t v) → spells r o t v 0 b → body_read r o t b ≡ Ok (got v, false)

-- The fixed spelling is a spelling, where it can be counted.
abbrev pub FixedSpells : Type 0
FixedSpells = (r : Rep) (o : Order) (t : Shape) (v : Val) (p : ℕ) → IsTrue (sound t) → IsTrue (storable t) → IsTrue (has_type t v) → length (fixed_of r o t v p) < 2 ^ 32 → spells r o t v p (fixed_of r o t v p)

-- What is written is read again.
abbrev pub RoundTrip : Type 0
RoundTrip = (r : Rep) (o : Order) (t : Shape) (v : Val) → IsTrue (sound t) → IsTrue (storable t) → IsTrue (has_type t v) → length (fixed_of r o t v 0) < 2 ^ 32 → body_read r o t (fixed_of r o t v 0) ≡ Ok (got v, false)

abbrev pub inner_read : Rep → Order → Shape → Spot → Reading Part
inner_read Xcdr1 o t s = read1 false o t s
inner_read Xcdr2 o t s = read o t s

-- Where the types are equivalent, or the writer's is delimited and they fit, the same at any place, whatever follows.
abbrev pub CrossInner : Type 0
CrossInner = (q : Policy) (r : Rep) (o : Order) (t t2 : Shape) (v : Val) (p : ℕ) (b rest : List ℕ) → IsTrue (sound t) → IsTrue (sound t2) → Strong r (λ x. Fits q r t x) t t2 → spells r o t2 v p b
    → inner_read r o t (record { at = p; rest = b ++ rest }) ≡ Ok (projected t t2 v, record { at = p + length b; rest = rest })

-- At the top nothing fails exactly where the reader's type is assignable.
abbrev pub Judged : Type 0
Judged = (q : Policy) (r : Rep) (t u : Shape) → IsTrue (cases_apart t) → (first_failure q r t u ≡ None) ↔ Assignable q r t u

-- Exactly one of these is true: assignable, or one rule at one path.
abbrev pub ExactlyOne : Type 0
ExactlyOne = (q : Policy) (r : Rep) (t u : Shape) → IsTrue (cases_apart t) → (Assignable q r t u ⊎ ((f : Failure) × (first_failure q r t u ≡ Some f))) × (Assignable q r t u → (f : Failure) → first_failure q r t u ≡ Some f → ⊥)

-- At a nested pair nothing fails exactly where the types fit.
abbrev pub JudgedNested : Type 0
JudgedNested = (q : Policy) (r : Rep) (t u : Shape) → IsTrue (cases_apart t) → (failure q r false t u ≡ None) ↔ Fits q r t u

-- A value that is read has at most its type's weight and 128 nodes for each octet that was read.
abbrev pub ValueNodesBound : Type 0
ValueNodesBound = (r : Rep) (o : Order) (t : Shape) (s s2 : Spot) (v : Val) (u : Bool) → IsTrue (sound t) → IsTrue (light t) → value_read r o t s ≡ Ok ((got v, u), s2) → nodes v + 128 * length s2.rest ≤ weight t + 128 * length s.rest

-- What is read of a body has at most its type's weight and 128 nodes for each octet.
abbrev pub NodesBound : Type 0
NodesBound = (r : Rep) (o : Order) (t : Shape) (b : List ℕ) (v : Val) (u : Bool) → IsTrue (sound t) → IsTrue (light t) → body_read r o t b ≡ Ok (got v, u) → nodes v ≤ weight t + 128 * length b

-- Values of one type have equal key octets exactly where their keys are equal.
abbrev pub KeyOctets : Type 0
KeyOctets = (t : Shape) (v w : Val) → IsTrue (sound t) → IsTrue (storable t) → IsTrue (keys_sound t) → IsTrue (has_type t v) → IsTrue (has_type t w) → length (key_octets t v) < 2 ^ 32 → length (key_octets t w) < 2 ^ 32 → (key_octets t v ≡ key_octets t w) ↔ (key t v ≡ key t w)

-- Where the projection is a sample, its key octets are the writer's, and so is its hash where both types or neither are short.
abbrev pub KeysCross : Type 0
KeysCross = (q : Policy) (r : Rep) (t t2 : Shape) (v w : Val) → IsTrue (sound t) → IsTrue (sound t2) → IsTrue (storable t) → IsTrue (keys_sound t) → IsTrue (keys_sound t2) → (t ≡ t2) ⊎ Assignable q r t t2 → IsTrue (has_type t2 v) → projection t t2 v ≡ sample w
    → (key_octets t w ≡ key_octets t2 v) × (short t ≡ short t2 → key_hash t w ≡ key_hash t2 v)

-- A projection onto a type that is assignable or equivalent has that type.
abbrev pub ProjectionTyped : Type 0
ProjectionTyped = (q : Policy) (r : Rep) (t t2 : Shape) (v w : Val) → IsTrue (sound t) → IsTrue (sound t2) → IsTrue (defaults_typed t) → (t ≡ t2) ⊎ Assignable q r t t2 → IsTrue (has_type t2 v) → projection t t2 v ≡ sample w → IsTrue (has_type t w)

-- A value that is read of octets has the reader's type.
abbrev pub ValueTyped : Type 0
ValueTyped = (r : Rep) (o : Order) (t : Shape) (s s2 : Spot) (v : Val) (u : Bool) → IsTrue (sound t) → IsTrue (storable t) → IsTrue (defaults_typed t) → IsTrue (all (λ c. nat_lt c 256) s.rest) → value_read r o t s ≡ Ok ((got v, u), s2) → IsTrue (has_type t v)

-- What is read of a body has the reader's type.
abbrev pub ReadTyped : Type 0
ReadTyped = (r : Rep) (o : Order) (t : Shape) (b : List ℕ) (v : Val) (u : Bool) → IsTrue (sound t) → IsTrue (storable t) → IsTrue (defaults_typed t) → IsTrue (all (λ c. nat_lt c 256) b) → body_read r o t b ≡ Ok (got v, u) → IsTrue (has_type t v)

-- The length of the fixed spelling is the same in both byte orders.
abbrev pub SizeSame : Type 0
SizeSame = (r : Rep) (o o2 : Order) (t : Shape) (v : Val) (p : ℕ) → length (fixed_of r o t v p) ≡ length (fixed_of r o2 t v p)
