-- A number in place of raw bits can be printed, and so can raw bits in place of a number.
use Rattle.std.proofs.Common.{◌≡◌, ℕ, ◌≤◌, List, [], ◌∷◌, Bool, true, false, Option, Some, None, sym, subst, arith}
use Rattle.std.specs.Prelude.{if◌then◌else◌}
use Rattle.std.specs.Fmt.{digits}
use Rattle.std.specs.Int.{Width, w32, w64}
use Rattle.std.specs.Float.{Float, Format, binary32, binary64, float_is_finite}
use Rattle.std.specs.Str.{IsUtf8}
use Rattle.std.proofs.lemmas.Nat.{pow_pos}
use Rattle.std.proofs.lemmas.Str.{IsUtf8-nil, IsUtf8-from_ascii}
use Rattle.fast_float.specs.Parse.{parse_float}
use Rattle.json.specs.Json as json
use Rattle.json.specs.Json.{Json}
use Rattle.json.specs.Tree.{depth}
use Rattle.json.proofs.Printed.Decimals.{IsNumber-decimal}
use Rattle.json.proofs.Printed.Floats.{IsNumber-plain}
use Rattle.xt_shapes.specs.declared.leaves.Primitive.{Primitive}
use Rattle.json_values.proofs.Utf8.{IsAscii-hex}
use Rattle.dynamic_data.specs.numbers.Floats.{hex_text, float_in, ShowsFloat, ShowsNumber, nearest_bits, float_bits}
use Rattle.dynamic_data.proofs.OfNumbers.Sound.{Fine}
use Rattle.dynamic_data.proofs.OfNumbers.Kept.{Kept, Keeping, same_kept}
use Rattle.dynamic_data.proofs.OfNumbers.Leaves.{Stays}
use Rattle.dynamic_data.proofs.OfNumbers.TwoWalks.{Leaf}

-- ---- numbers

shown_kept : (f : Format) (o : Option Float) (j k : Json) → ShowsFloat f o j k → Kept j k
shown_kept f None j k shows = same_kept j k shows
shown_kept f (Some x) j k shows = subst (Kept j) (sym shows.1) (λ h. IsNumber-plain shows.0 shows.2.plain, omega arith)

pub shows_kept : (p : Primitive) → Keeping (ShowsNumber p)
shows_kept Primitive.Boolean = same_kept
shows_kept Primitive.Byte = same_kept
shows_kept Primitive.Int8 = same_kept
shows_kept Primitive.Uint8 = same_kept
shows_kept Primitive.Int16 = same_kept
shows_kept Primitive.Uint16 = same_kept
shows_kept Primitive.Int32 = same_kept
shows_kept Primitive.Uint32 = same_kept
shows_kept Primitive.Int64 = same_kept
shows_kept Primitive.Uint64 = same_kept
shows_kept Primitive.Float32 = λ j k shows. shown_kept binary32 (float_in w32 4 binary32 j) j k shows
shows_kept Primitive.Float64 = λ j k shows. shown_kept binary64 (float_in w64 8 binary64 j) j k shows
shows_kept Primitive.Char8 = same_kept

pub stays_kept : (p : Primitive) → Keeping (Stays p)
stays_kept p = same_kept

-- ---- raw bits

-- it can be printed, and nests nothing
abbrev pub IsLeaf : Json → Type 0
IsLeaf j = Fine j × (depth j ≤ 0)

leaf_kept : (j k l : Json) → IsLeaf k → l ≡ k → Kept j l
leaf_kept j k l leaf same = subst (Kept j) (sym same) (λ h. leaf.0, omega (arith, leaf.1))

finite_leaf : (x : Json) (s : List ℕ) (b : Bool) → IsLeaf x → IsUtf8 s → IsLeaf (if b then json.string s else x)
finite_leaf x s true leaf text = (text, omega arith)
finite_leaf x s false leaf text = leaf

hex_utf8 : (w : Width) (f : Format) (x : Float) → IsUtf8 (hex_text w f x)
hex_utf8 w f x = IsUtf8-from_ascii (hex_text w f x) (IsAscii-hex _)

nearest_leaf : (x : Json) (w : Width) (f : Format) (o : Option Float) → IsLeaf x → IsLeaf (nearest_bits x w f o)
nearest_leaf x w f None leaf = leaf
nearest_leaf x w f (Some y) leaf = finite_leaf x (hex_text w f y) (float_is_finite y) leaf (hex_utf8 w f y)

float_kept : (x : Json) (w : Width) (f : Format) → IsLeaf x → Keeping (λ j k. k ≡ float_bits x w f j)
float_kept x w f leaf json.null k same = same_kept json.null k same
float_kept x w f leaf (json.boolean b) k same = same_kept (json.boolean b) k same
float_kept x w f leaf (json.number n) k same = leaf_kept (json.number n) (nearest_bits x w f (parse_float f n)) k (nearest_leaf x w f (parse_float f n) leaf) same
float_kept x w f leaf (json.string s) k same = same_kept (json.string s) k same
float_kept x w f leaf (json.array js) k same = same_kept (json.array js) k same
float_kept x w f leaf (json.object ms) k same = same_kept (json.object ms) k same

pub leaf_bits_kept : (x : Json) → IsLeaf x → (p : Primitive) → Keeping (Leaf x p)
leaf_bits_kept x leaf Primitive.Boolean = same_kept
leaf_bits_kept x leaf Primitive.Byte = same_kept
leaf_bits_kept x leaf Primitive.Int8 = same_kept
leaf_bits_kept x leaf Primitive.Uint8 = same_kept
leaf_bits_kept x leaf Primitive.Int16 = same_kept
leaf_bits_kept x leaf Primitive.Uint16 = same_kept
leaf_bits_kept x leaf Primitive.Int32 = same_kept
leaf_bits_kept x leaf Primitive.Uint32 = same_kept
leaf_bits_kept x leaf Primitive.Int64 = same_kept
leaf_bits_kept x leaf Primitive.Uint64 = same_kept
leaf_bits_kept x leaf Primitive.Float32 = float_kept x w32 binary32 leaf
leaf_bits_kept x leaf Primitive.Float64 = float_kept x w64 binary64 leaf
leaf_bits_kept x leaf Primitive.Char8 = same_kept

pub empty_leaf : IsLeaf (json.string [])
empty_leaf = (IsUtf8-nil, omega arith)

pub zero_leaf : IsLeaf (json.number (48 ∷ []))
unfolding digits
zero_leaf = (IsNumber-decimal 0 (pow_pos 64), omega arith)
