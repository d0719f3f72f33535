-- How a value inside another is read where its types fit: as its projection (the law of DDS-XTypes 1.3, 7.2.4 and 7.4, is this profile's own).
use Rattle.std.specs.Prelude.{◌≡◌, ℕ, ◌+◌, ◌++◌, List, [], length, Ok}
use Rattle.xt_shapes.specs.declared.leaves.Order.{Order}
use Rattle.xt_shapes.specs.declared.leaves.Rep.{Rep}
use Rattle.xt_shapes.specs.Shape.{Shape}
use Rattle.xt_shapes.specs.Vals.{Val}
use Rattle.xcdr_model.specs.Projection.{projected}
use Rattle.xcdr_model.specs.SampleSpelling.{spells}
use Rattle.shape_laws.specs.Soundness.{tail_read, inner_read}

-- Where the octets are the rest of the region, they are read at any place as the projection, and the region is used up.
abbrev pub ReadsAsTail : Rep → Shape → Shape → Val → List ℕ → Type 0
ReadsAsTail rep t t2 v octets = (o : Order) (p : ℕ) → spells rep o t2 v p octets
    → (e : ℕ) × (tail_read rep o t (record { at = p; rest = octets }) ≡ Ok (projected t t2 v, record { at = e; rest = [] }))

-- Whatever follows them, they are read at any place as the projection, and nothing more is.
abbrev pub ReadsInside : Rep → Shape → Shape → Val → List ℕ → Type 0
ReadsInside rep t t2 v octets = (o : Order) (p : ℕ) (rest : List ℕ) → spells rep o t2 v p octets
    → inner_read rep o t (record { at = p; rest = octets ++ rest }) ≡ Ok (projected t t2 v, record { at = p + length octets; rest = rest })
