-- What has no parts, and discriminators, by the kinds that are numbers.
use Rattle.std.proofs.Common.{◌≡◌, refl, ℕ, ℤ, List, Result, Err, false, cond, arith}
use Rattle.xt_shapes.specs.declared.leaves.Ext.{Ext}
use Rattle.xt_shapes.specs.declared.leaves.Order.{Order}
use Rattle.xt_shapes.specs.Kinds.{is_number}
use Rattle.xt_shapes.specs.Select.{is_literal}
use Rattle.xt_shapes.specs.Vals.{int}
use Rattle.xt_shapes.specs.Shape.{Shape, Literal, Flag, prim, str, enumeration, bitmask, sequence, array, map_of, structure, union}
use Rattle.xcdr_model.specs.declared.malformed.Why.TheVariants.{Short}
use Rattle.xt_wire.specs.declared.cursor.faults.DecodeFault.TheVariants.{Malformed}
use Rattle.xcdr_model.specs.Reading.{Spot, fault_at}
use Rattle.xcdr_model.specs.Projection.{got, failed, gather_text}
use Rattle.xcdr_model.specs.Xcdr1Reading.{read1}
use Rattle.xcdr_model.specs.Xcdr2Reading.{read, done, scalar_at, text_at}
use Rattle.xcdr_reader.specs.declared.modes.Mode.{Mode}
use Rattle.xcdr_reader.specs.declared.modes.Mode.TheVariants.{Two, Inner, Tail}
use Rattle.xcdr_reader.specs.Modes.{read_in, most}
use Rattle.xt_wire.specs.declared.cursor.faults.DecodeFault.{DecodeFault}
use Rattle.xt_wire.specs.cursor.Standing.{Standing, Stands}
use Rattle.xt_wire.specs.cursor.Decoding.{Decodes}
use Rattle.xt_wire.proofs.OfCursor.Ahead.{begins, malformed, decodes_as}
use Rattle.xcdr_steps.specs.scalars.Scalars.{enum_at, mask_at}

-- what has no parts, in each mode
pub enum_read : (m : Mode) (e : Ext) (bits : ℕ) (ls : List Literal) (o : Order) (s : Spot) → read_in m o (enumeration e bits ls) s ≡ done (λ i. (cond (is_literal ls i) (got (int i)) failed, false)) (scalar_at (most m) o (enumeration e bits ls) s)
unfolding read read1
enum_read Two e bits ls o s = refl
enum_read Inner e bits ls o s = refl
enum_read Tail e bits ls o s = refl

pub mask_read : (m : Mode) (bits : ℕ) (fs : List Flag) (o : Order) (s : Spot) → read_in m o (bitmask bits fs) s ≡ done (λ i. (got (int i), false)) (scalar_at (most m) o (bitmask bits fs) s)
unfolding read read1
mask_read Two bits fs o s = refl
mask_read Inner bits fs o s = refl
mask_read Tail bits fs o s = refl

pub text_read : (m : Mode) (bound : ℕ) (o : Order) (s : Spot) → read_in m o (str bound) s ≡ done (λ t. (gather_text bound t, false)) (text_at o s)
unfolding read read1
text_read Two bound o s = refl
text_read Inner bound o s = refl
text_read Tail bound o s = refl

-- ---- discriminators

pub disc_enum : (most : ℕ) (t : Shape) (e : Ext) (bits : ℕ) (ls : List Literal) {a b : Standing} {r : Result ℤ DecodeFault} → t ≡ enumeration e bits ls → Decodes {T = ℤ} (λ i. i) (enum_at most bits) a b r → Decodes {T = ℤ} (λ i. i) (λ o s. scalar_at most o t s) a b r
unfolding scalar_at
disc_enum most t e bits ls {a} is d = decodes_as (λ i. i) (λ o s. scalar_at most o t s) (enum_at most bits) (λ s. rw is refl) d

pub disc_mask : (most : ℕ) (t : Shape) (bits : ℕ) (fs : List Flag) {a b : Standing} {r : Result ℤ DecodeFault} → t ≡ bitmask bits fs → Decodes {T = ℤ} (λ i. i) (mask_at most bits) a b r → Decodes {T = ℤ} (λ i. i) (λ o s. scalar_at most o t s) a b r
unfolding scalar_at
disc_mask most t bits fs {a} is d = decodes_as (λ i. i) (λ o s. scalar_at most o t s) (mask_at most bits) (λ s. rw is refl) d

-- a type that is no number
no_scalar : (most : ℕ) (t : Shape) (o : Order) (s : Spot) → is_number t ≡ false → scalar_at most o t s ≡ fault_at s.at Short
unfolding scalar_at
no_scalar most (prim p) o s e = absurd cc
no_scalar most (str bound) o s e = refl
no_scalar most (enumeration x bits ls) o s e = absurd cc
no_scalar most (bitmask bits fs) o s e = absurd cc
no_scalar most (sequence bound tc t) o s e = refl
no_scalar most (array dims tc t) o s e = refl
no_scalar most (map_of bound kc k vc t) o s e = refl
no_scalar most (structure x ms) o s e = refl
no_scalar most (union x key disc cs) o s e = refl

pub no_number : (most : ℕ) (t : Shape) (at : ℕ) (a : Standing) → Stands a → at ≡ a.place → is_number t ≡ false → Decodes {T = ℤ} (λ i. i) (λ o s. scalar_at most o t s) a a (Err (Malformed at Short))
no_number most t at a st e is = malformed (λ i. i) (λ s. s.at) Short (begins (λ o s. scalar_at most o t s) (λ o s. fault_at s.at Short) a (λ s. no_scalar most t a.order s is)) (λ xs. omega (arith, e, st.from_origin))
