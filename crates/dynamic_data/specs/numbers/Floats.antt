-- Floats in the JSON of values, as raw bits and as numbers (this profile's own, over RFC 8259).
use Rattle.std.specs.Prelude.{◌≡◌, ℕ, List, ◌&&◌, Option, Some, None, Result, Ok, Err, bytes_eq, if◌then◌else◌, to_bits, from_bits}
use Rattle.std.specs.Int.{Width, w32, w64, to_be_bytes, from_be_bytes}
use Rattle.std.specs.Float.{Float, Format, binary32, binary64, float_is_finite}
use Rattle.fast_float.specs.Parse.{parse_float}
use Rattle.ryu.specs.Plain.{IsPlainNumber}
use Rattle.hex.specs.Hex.{encode_lower, decode_sized}
use Rattle.hex.specs.declared.error.FromHexError.{FromHexError}
use Rattle.json.specs.Json as json
use Rattle.json.specs.Json.{Json}
use Rattle.xt_shapes.specs.declared.leaves.Primitive.{Primitive}

-- the raw bits of a float in hexadecimal, the highest first
abbrev pub hex_text : Width → Format → Float → List ℕ
hex_text w f x = encode_lower (to_be_bytes w (to_bits f x))

-- ---- from raw bits to numbers

abbrev pub bits_in : Width → Result (List ℕ) FromHexError → ℕ
bits_in w (Ok octets) = from_be_bytes w octets
bits_in w (Err e) = 0

abbrev pub if_written : Width → Format → List ℕ → Float → Option Float
if_written w f s x = if float_is_finite x && bytes_eq (hex_text w f x) s then Some x else None

-- the finite float whose raw bits a text is, as they are written
abbrev pub float_in : Width → ℕ → Format → Json → Option Float
float_in w octets f (json.string s) = if_written w f s (from_bits f (bits_in w (decode_sized s octets)))
float_in w octets f _ = None

-- a number as JSON has it, with a point or an exponent, to which the float is the nearest
pub record IsNumberOf (f : Format) (x : Float) (s : List ℕ) : Type 0 where
  pub plain : IsPlainNumber s
  pub nearest : parse_float f s ≡ Some x

abbrev pub ShowsFloat : Format → Option Float → Json → Json → Type 0
ShowsFloat f None j shown = shown ≡ j
ShowsFloat f (Some x) j shown = (s : List ℕ) × (shown ≡ json.number s) × IsNumberOf f x s

-- what stands in place of a value of that type: a number for a finite float
abbrev pub ShowsNumber : Primitive → Json → Json → Type 0
ShowsNumber Primitive.Float32 j shown = ShowsFloat binary32 (float_in w32 4 binary32 j) j shown
ShowsNumber Primitive.Float64 j shown = ShowsFloat binary64 (float_in w64 8 binary64 j) j shown
ShowsNumber p j shown = shown ≡ j

-- ---- from numbers to raw bits

-- A number to which no finite float is the nearest becomes the one that is given.
abbrev pub nearest_bits : Json → Width → Format → Option Float → Json
nearest_bits too_large w f None = too_large
nearest_bits too_large w f (Some x) = if float_is_finite x then json.string (hex_text w f x) else too_large

abbrev pub float_bits : Json → Width → Format → Json → Json
float_bits too_large w f (json.number s) = nearest_bits too_large w f (parse_float f s)
float_bits too_large w f j = j

abbrev pub leaf_bits : Json → Primitive → Json → Json
leaf_bits too_large Primitive.Float32 j = float_bits too_large w32 binary32 j
leaf_bits too_large Primitive.Float64 j = float_bits too_large w64 binary64 j
leaf_bits too_large p j = j
