-- Laws: a Yes of the judge (DDS-XTypes 1.3, 7.2.4) is sound for decoding; the types are valid, and nothing else is asked (this profile's own).
use Rattle.std.specs.Prelude.{◌≡◌, ℕ, ◌+◌, true, false, List, [], ◌++◌, length, Ok, IsTrue, ◌⊎◌}
use Rattle.xt_shapes.specs.declared.leaves.Order.{Order}
use Rattle.xt_shapes.specs.declared.leaves.Rep.{Rep}
use Rattle.xt_shapes.specs.declared.leaves.Rep.TheVariants.{Xcdr1, Xcdr2}
use Rattle.xt_shapes.specs.NodeRules.{rules_hold}
use Rattle.xt_shapes.specs.Shape.{Shape}
use Rattle.xt_shapes.specs.Typing.{has_type}
use Rattle.xt_shapes.specs.Vals.{Val}
use Rattle.xcdr_model.specs.declared.verdict.Policy.{Policy}
use Rattle.xcdr_model.specs.Assignable.{Fits, Strong, Assignable}
use Rattle.xcdr_model.specs.Keys.{key}
use Rattle.xcdr_model.specs.Projection.{Part, projected}
use Rattle.xcdr_model.specs.Reading.{Spot, Reading}
use Rattle.xcdr_model.specs.SampleSpelling.{spells, IsSample}
use Rattle.xcdr_model.specs.Samples.{sample, body_outcome, projection, read_sample}
use Rattle.xcdr_model.specs.Xcdr1Reading.{read1}
use Rattle.xcdr_model.specs.Xcdr2Reading.{read}

-- Where the reader's type is assignable from the writer's under some policy, or equivalent to it, each body that spells a value of the
-- writer's type is read, by the reader's type alone, as the value's projection.
abbrev pub Cross : Type 0
Cross = (q : Policy) (r : Rep) (o : Order) (t t2 : Shape) (v : Val) (b : List ℕ) → IsTrue (rules_hold t) → IsTrue (rules_hold t2) → (t ≡ t2) ⊎ Assignable q r t t2 → spells r o t2 v 0 b → body_outcome r o t b ≡ Ok (projection t t2 v)

-- The same of whole samples.
abbrev pub CrossSample : Type 0
CrossSample = (q : Policy) (r : Rep) (t t2 : Shape) (v : Val) (s : List ℕ) → IsTrue (rules_hold t) → IsTrue (rules_hold t2) → (t ≡ t2) ⊎ Assignable q r t t2 → IsSample r t2 v s → read_sample r t s ≡ Ok (projection t t2 v)

abbrev pub tail_read : Rep → Order → Shape → Spot → Reading Part
tail_read Xcdr1 o t s = read1 true o t s
tail_read Xcdr2 o t s = read o t s

-- Where the types fit below the top, or are equivalent, and the value has the rest of its region, it is read at any place as the
-- projection, and the region is used up.
abbrev pub CrossTail : Type 0
CrossTail = (q : Policy) (r : Rep) (o : Order) (t t2 : Shape) (v : Val) (p : ℕ) (b : List ℕ) → IsTrue (rules_hold t) → IsTrue (rules_hold t2) → (t ≡ t2) ⊎ Fits q r t t2 → spells r o t2 v p b
    → (e : ℕ) × (tail_read r o t (record { at = p; rest = b }) ≡ Ok (projected t t2 v, record { at = e; rest = [] }))

abbrev pub inner_read : Rep → Order → Shape → Spot → Reading Part
inner_read Xcdr1 o t s = read1 false o t s
inner_read Xcdr2 o t s = read o t s

-- Where the types are equivalent, or the writer's is delimited and they fit, the same at any place, using exactly these octets,
-- whatever follows.
abbrev pub CrossInner : Type 0
CrossInner = (q : Policy) (r : Rep) (o : Order) (t t2 : Shape) (v : Val) (p : ℕ) (b rest : List ℕ) → IsTrue (rules_hold t) → IsTrue (rules_hold t2) → Strong r (λ x. Fits q r t x) t t2 → spells r o t2 v p b
    → inner_read r o t (record { at = p; rest = b ++ rest }) ≡ Ok (projected t t2 v, record { at = p + length b; rest = rest })

-- Where the projection is a sample, its key is the writer's.
abbrev pub CrossKey : Type 0
CrossKey = (q : Policy) (r : Rep) (t t2 : Shape) (v w : Val) → IsTrue (rules_hold t) → IsTrue (rules_hold t2) → (t ≡ t2) ⊎ Assignable q r t t2 → IsTrue (has_type t2 v) → projection t t2 v ≡ sample w → key t w ≡ key t2 v

-- A sample that a projection gives has the reader's type.
abbrev pub ProjectionTyped : Type 0
ProjectionTyped = (q : Policy) (r : Rep) (t t2 : Shape) (v w : Val) → IsTrue (rules_hold t) → IsTrue (rules_hold t2) → (t ≡ t2) ⊎ Assignable q r t t2 → IsTrue (has_type t2 v) → projection t t2 v ≡ sample w → IsTrue (has_type t w)
