-- Numbers by their types, told their places.
use Rattle.std.proofs.Common.{◌≡◌, refl, ℕ, ◌+◌, ◌^◌, ℤ, pos, Bool, true, cond, nat_le, min, ◌==◌, Ok, Result, ap}
use Rattle.xt_shapes.specs.declared.leaves.Order.{Order}
use Rattle.xt_shapes.specs.declared.leaves.Primitive.{Primitive}
use Rattle.xt_shapes.specs.declared.leaves.Primitive.TheVariants.{Boolean, Byte, Int8, Uint8, Int16, Uint16, Int32, Uint32, Int64, Uint64, Float32, Float64, Char8}
use Rattle.xcdr_model.specs.declared.malformed.Why.TheVariants as why
use Rattle.xt_shapes.specs.Sizes.{size, is_boolean, is_signed, enum_size, mask_size}
use Rattle.xcdr_model.specs.Numbers.{padding, with_sign}
use Rattle.xcdr_model.specs.declared.malformed.Fault.{Fault}
use Rattle.xcdr_model.specs.Reading.{Spot, Reading, fault_at, ◌>>=◌}
use Rattle.xt_wire.specs.cursor.Steps.{placed_at}
use Rattle.xt_wire.specs.cursor.Standing.{Standing}
use Rattle.xt_wire.proofs.OfCursor.Ahead.{Ahead, begins, placed_bind}
use Rattle.xcdr_model.specs.Xcdr2Reading.{holder, two_valued, scalar_at, present_at}
use Rattle.xcdr_steps.specs.scalars.Scalars.{prim_at, enum_at, mask_at}

same_place : (most : ℕ) (p : Primitive) (s : Spot) (n : ℕ) → two_valued (is_boolean p) (holder most 1 s) n ≡ two_valued (is_boolean p) (s.at + padding (min (size p) most) s.at) n
same_place most Boolean s n = refl
same_place most Byte s n = refl
same_place most Int8 s n = refl
same_place most Uint8 s n = refl
same_place most Int16 s n = refl
same_place most Uint16 s n = refl
same_place most Int32 s n = refl
same_place most Uint32 s n = refl
same_place most Int64 s n = refl
same_place most Uint64 s n = refl
same_place most Float32 s n = refl
same_place most Float64 s n = refl
same_place most Char8 s n = refl

abbrev pub prim_value : Primitive → ℕ × ℕ → Order → Spot → Reading ℤ
prim_value p v o s = two_valued (is_boolean p) v.0 v.1 >>= λ m. Ok (with_sign (size p) (is_signed p) m, s)

pub prim_starts : (most : ℕ) (p : Primitive) (a : Standing) → Ahead (prim_at most p) (λ o s. placed_at most (size p) o s >>= λ n. prim_value p n.0 o n.1) a a
unfolding scalar_at
prim_starts most p a = begins (prim_at most p) _ a (λ s. placed_bind most (size p) a.order s _ (prim_value p) (λ n. ap (λ (r : Result ℕ Fault). r >>= λ m. Ok (with_sign (size p) (is_signed p) m, n.1)) (same_place most p s n.0)))

abbrev pub enum_value : ℕ → ℕ × ℕ → Order → Spot → Reading ℤ
enum_value bits v o s = Ok (with_sign (enum_size bits) (enum_size bits == 4) v.1, s)

pub enum_starts : (most bits : ℕ) (a : Standing) → Ahead (enum_at most bits) (λ o s. placed_at most (enum_size bits) o s >>= λ n. enum_value bits n.0 o n.1) a a
unfolding scalar_at
enum_starts most bits a = begins (enum_at most bits) _ a (λ s. placed_bind most (enum_size bits) a.order s _ (enum_value bits) (λ n. refl))

abbrev pub mask_value : ℕ → ℕ × ℕ → Order → Spot → Reading ℤ
mask_value bits v o s = cond (nat_le (2 ^ bits) v.1) (fault_at v.0 why.Mask) (Ok (pos v.1, s))

pub mask_starts : (most bits : ℕ) (a : Standing) → Ahead (mask_at most bits) (λ o s. placed_at most (mask_size bits) o s >>= λ n. mask_value bits n.0 o n.1) a a
unfolding scalar_at
mask_starts most bits a = begins (mask_at most bits) _ a (λ s. placed_bind most (mask_size bits) a.order s _ (mask_value bits) (λ n. refl))

abbrev pub presence : ℕ × ℕ → Order → Spot → Reading Bool
presence v o s = two_valued true v.0 v.1 >>= λ m. Ok (m == 1, s)

pub presence_starts : (a : Standing) → Ahead present_at (λ o s. placed_at 4 1 o s >>= λ n. presence n.0 o n.1) a a
presence_starts a = begins present_at _ a (λ s. placed_bind 4 1 a.order s _ presence (λ n. refl))
