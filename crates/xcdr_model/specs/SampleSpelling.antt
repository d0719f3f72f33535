-- Which octets are a sample of a value (DDS-XTypes 1.3, 7.6.3.1.2): its type's identifier for one byte order, two option octets, a spelling
-- and the counted padding. It knows that type alone.
use Rattle.std.specs.Prelude.{◌≡◌, ℕ, ◌+◌, ◌*◌, ◌%◌, List, ◌∷◌, ◌++◌, length, replicate}
use Rattle.xt_shapes.specs.declared.leaves.Order.{Order}
use Rattle.xt_shapes.specs.declared.leaves.Order.TheVariants.{Big, Little}
use Rattle.xt_shapes.specs.declared.leaves.Rep.{Rep}
use Rattle.xt_shapes.specs.declared.leaves.Rep.TheVariants.{Xcdr1, Xcdr2}
use Rattle.xt_shapes.specs.Shape.{Shape}
use Rattle.xt_shapes.specs.Vals.{Val}
use Rattle.xcdr_model.specs.FixedSpelling.{fixed_of}
use Rattle.xcdr_model.specs.Numbers.{padding}
use Rattle.xcdr_model.specs.Samples.{row_of, top_ext}
use Rattle.xcdr_model.specs.Xcdr1Spelling.{writes1}
use Rattle.xcdr_model.specs.Xcdr2Spelling.{writes}

abbrev pub spells : Rep → Order → Shape → Val → ℕ → List ℕ → Type 0
spells Xcdr1 = writes1
spells Xcdr2 = writes

abbrev pub order_bit : Order → ℕ
order_bit Big = 0
order_bit Little = 1

-- all identifiers are below 256
abbrev pub identifier : Rep → Shape → Order → ℕ
identifier r t o = 2 * row_of r (top_ext t) + order_bit o

pub record IsSample (r : Rep) (t : Shape) (v : Val) (s : List ℕ) : Type 0 where
  pub order : Order
  pub body : List ℕ
  pub pad : List ℕ
  pub option : ℕ
  pub counting : ℕ
  pub counts : counting % 4 ≡ length pad
  pub spelled : spells r order t v 0 body
  pub parts : s ≡ 0 ∷ identifier r t order ∷ option ∷ counting ∷ (body ++ pad)

-- ---- the one sample that is written: option octets that only count the padding, which is zeros up to a multiple of 4 (this profile's own)

abbrev pub final_padding : List ℕ → ℕ
final_padding body = padding 4 (length body)

abbrev pub with_head : ℕ → List ℕ → List ℕ
with_head id body = 0 ∷ id ∷ 0 ∷ final_padding body ∷ (body ++ replicate (final_padding body) 0)

abbrev pub fixed_sample : Rep → Order → Shape → Val → List ℕ
fixed_sample r o t v = with_head (identifier r t o) (fixed_of r o t v 0)

-- its octets, which are as many in both byte orders
abbrev pub sample_size : Rep → Shape → Val → ℕ
sample_size r t v = let body = fixed_of r Little t v 0 in 4 + length body + final_padding body
