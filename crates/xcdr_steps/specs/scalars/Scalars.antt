-- The readings of numbers, by the parts of their types that matter to the octets (DDS-XTypes 1.3, 7.4).
use Rattle.std.specs.Prelude.{ℕ, ℤ, []}
use Rattle.xt_shapes.specs.declared.leaves.Order.{Order}
use Rattle.xt_shapes.specs.declared.leaves.Primitive.{Primitive}
use Rattle.xt_shapes.specs.declared.leaves.Ext.TheVariants.{Final}
use Rattle.xt_shapes.specs.Shape.{prim, enumeration, bitmask}
use Rattle.xcdr_model.specs.Reading.{Spot, Reading}
use Rattle.xcdr_model.specs.Xcdr2Reading.{scalar_at}

abbrev pub prim_at : ℕ → Primitive → Order → Spot → Reading ℤ
prim_at most p o = scalar_at most o (prim p)

-- neither the extensibility nor the literals matter to the octets
abbrev pub enum_at : ℕ → ℕ → Order → Spot → Reading ℤ
enum_at most bits o = scalar_at most o (enumeration Final bits [])

abbrev pub mask_at : ℕ → ℕ → Order → Spot → Reading ℤ
mask_at most bits o = scalar_at most o (bitmask bits [])
