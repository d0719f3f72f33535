-- A leaf means the same after a number stood in its place, or where nothing did.
use Rattle.std.proofs.Common.{◌≡◌, refl, ℕ, List, [], ◌∷◌, Bool, true, false, ◌&&◌, Option, Some, None, bytes_eq, option_map, sym, ap, subst, ◌∙◌}
use Rattle.std.specs.Prelude.{if◌then◌else◌, from_bits}
use Rattle.std.specs.Float.{Float, Format, binary32, binary64, float_is_finite}
use Rattle.std.specs.Fmt.{digits}
use Rattle.std.specs.Int.{Width, w32, w64}
use Rattle.std.proofs.lemmas.Bool.{and_parts}
use Rattle.std.proofs.lemmas.Slice.Eq.{bytes_eq-Decides}
use Rattle.fast_float.specs.Parse.{parse_float}
use Rattle.hex.specs.Hex.{decode_sized}
use Rattle.json.specs.Json as json
use Rattle.json.specs.Json.{Json}
use Rattle.serde_json.specs.Data as rows
use Rattle.serde_json.specs.Data.{Data}
use Rattle.serde_json.specs.Read.{of_json, number_of}
use Rattle.std.proofs.lemmas.Nat.{pow_pos}
use Rattle.serde_json.proofs.Numbers.{number_of-decimal}
use Rattle.xt_shapes.specs.declared.leaves.Primitive.{Primitive}
use Rattle.json_values.specs.Read.{prim_of, bits_of}
use Rattle.dynamic_data.specs.numbers.Floats.{hex_text, bits_in, float_in, ShowsFloat, ShowsNumber, nearest_bits, float_bits, leaf_bits}
use Rattle.dynamic_data.specs.numbers.Walks.{Turn}
use Rattle.dynamic_data.proofs.OfNumbers.Onward.{map_some}
use Rattle.dynamic_data.proofs.OfNumbers.Arrays.{Keeps, Turned, unturned}

-- what may stand in place of each leaf means the same
abbrev pub LeavesTurned : Json → (Primitive → Turn) → Type 0
LeavesTurned too_large T = (p : Primitive) → Turned (T p) (leaf_bits too_large p) (prim_of p)

-- nothing else stands in place of a leaf
abbrev pub Stays : Primitive → Turn
Stays p j k = k ≡ j

abbrev pub IsData : Json → Type 0
IsData j = (d : Data) × (of_json j ≡ Some d)

finite_data : (too_large : Json) (s : List ℕ) (b : Bool) → IsData too_large → IsData (if b then json.string s else too_large)
finite_data too_large s true known = (rows.string s, refl)
finite_data too_large s false known = known

nearest_data : (too_large : Json) (w : Width) (f : Format) (o : Option Float) → IsData too_large → IsData (nearest_bits too_large w f o)
nearest_data too_large w f None known = known
nearest_data too_large w f (Some x) known = finite_data too_large (hex_text w f x) (float_is_finite x) known

-- no value is read of a number where raw bits stand
float_stays : (too_large : Json) (w : Width) (octets : ℕ) (f : Format) → IsData too_large → Turned (λ j k. k ≡ j) (float_bits too_large w f) (bits_of w octets)
float_stays too_large w octets f known json.null k d s is turn = unturned (bits_of w octets) (float_bits too_large w f) json.null k d turn refl is
float_stays too_large w octets f known (json.boolean b) k d s is turn = unturned (bits_of w octets) (float_bits too_large w f) (json.boolean b) k d turn refl is
float_stays too_large w octets f known (json.number n) k d s is turn =
    let whole = map_some rows.number (number_of n) d is in
    let found = nearest_data too_large w f (parse_float f n) known in
    (found.0, ap (λ l. of_json (float_bits too_large w f l)) turn ∙ found.1, subst (λ x. Keeps (bits_of w octets) x found.0) (sym whole.2) (λ v e. absurd cc))
float_stays too_large w octets f known (json.string t) k d s is turn = unturned (bits_of w octets) (float_bits too_large w f) (json.string t) k d turn refl is
float_stays too_large w octets f known (json.array js) k d s is turn = unturned (bits_of w octets) (float_bits too_large w f) (json.array js) k d turn refl is
float_stays too_large w octets f known (json.object ms) k d s is turn = unturned (bits_of w octets) (float_bits too_large w f) (json.object ms) k d turn refl is

-- the float is finite, and the text is its raw bits
written : (w : Width) (f : Format) (s : List ℕ) (y x : Float) (b : Bool) → (float_is_finite y && bytes_eq (hex_text w f y) s) ≡ b → (if b then Some y else None) ≡ Some x → (float_is_finite x ≡ true) × (hex_text w f x ≡ s)
written w f s y x true is e =
    let same : y ≡ x = cc in
    let parts = and_parts (float_is_finite y) (bytes_eq (hex_text w f y) s) is in
    subst (λ z. (float_is_finite z ≡ true) × (hex_text w f z ≡ s)) same (parts.0, (bytes_eq-Decides (hex_text w f y) s).0 parts.1)
written w f s y x false is e = absurd cc

nearest_text : (too_large : Json) (w : Width) (f : Format) (x : Float) → float_is_finite x ≡ true → nearest_bits too_large w f (Some x) ≡ json.string (hex_text w f x)
nearest_text too_large w f x finite = rw finite refl

-- the bits of a number that is shown are those that stood there
shown_back : (too_large : Json) (w : Width) (octets : ℕ) (f : Format) (o : Option Float) (s : List ℕ) (k : Json) → float_in w octets f (json.string s) ≡ o → ShowsFloat f o (json.string s) k → float_bits too_large w f k ≡ json.string s
shown_back too_large w octets f None s k is shows = ap (float_bits too_large w f) shows
shown_back too_large w octets f (Some x) s k is shows =
    let y = from_bits f (bits_in w (decode_sized s octets)) in
    let known = written w f s y x (float_is_finite y && bytes_eq (hex_text w f y) s) refl is in
    ap (float_bits too_large w f) shows.1 ∙ ap (nearest_bits too_large w f) shows.2.nearest ∙ nearest_text too_large w f x known.0 ∙ ap json.string known.1

float_shown : (too_large : Json) (w : Width) (octets : ℕ) (f : Format) → IsData too_large → Turned (λ j k. ShowsFloat f (float_in w octets f j) j k) (float_bits too_large w f) (bits_of w octets)
float_shown too_large w octets f known json.null k d s is turn = float_stays too_large w octets f known json.null k d s is turn
float_shown too_large w octets f known (json.boolean b) k d s is turn = float_stays too_large w octets f known (json.boolean b) k d s is turn
float_shown too_large w octets f known (json.number n) k d s is turn = float_stays too_large w octets f known (json.number n) k d s is turn
float_shown too_large w octets f known (json.string t) k d s is turn =
    (d, ap of_json (shown_back too_large w octets f (float_in w octets f (json.string t)) t k refl turn) ∙ is, λ v e. e)
float_shown too_large w octets f known (json.array js) k d s is turn = float_stays too_large w octets f known (json.array js) k d s is turn
float_shown too_large w octets f known (json.object ms) k d s is turn = float_stays too_large w octets f known (json.object ms) k d s is turn

stays : (p : Primitive) → Turned (λ j k. k ≡ j) (λ j. j) (prim_of p)
stays p j k d s is turn = unturned (prim_of p) (λ l. l) j k d turn refl is

pub leaves_stay : (too_large : Json) → IsData too_large → LeavesTurned too_large Stays
leaves_stay too_large known Primitive.Boolean = stays Primitive.Boolean
leaves_stay too_large known Primitive.Byte = stays Primitive.Byte
leaves_stay too_large known Primitive.Int8 = stays Primitive.Int8
leaves_stay too_large known Primitive.Uint8 = stays Primitive.Uint8
leaves_stay too_large known Primitive.Int16 = stays Primitive.Int16
leaves_stay too_large known Primitive.Uint16 = stays Primitive.Uint16
leaves_stay too_large known Primitive.Int32 = stays Primitive.Int32
leaves_stay too_large known Primitive.Uint32 = stays Primitive.Uint32
leaves_stay too_large known Primitive.Int64 = stays Primitive.Int64
leaves_stay too_large known Primitive.Uint64 = stays Primitive.Uint64
leaves_stay too_large known Primitive.Float32 = float_stays too_large w32 4 binary32 known
leaves_stay too_large known Primitive.Float64 = float_stays too_large w64 8 binary64 known
leaves_stay too_large known Primitive.Char8 = stays Primitive.Char8

pub leaves_shown : (too_large : Json) → IsData too_large → LeavesTurned too_large ShowsNumber
leaves_shown too_large known Primitive.Boolean = stays Primitive.Boolean
leaves_shown too_large known Primitive.Byte = stays Primitive.Byte
leaves_shown too_large known Primitive.Int8 = stays Primitive.Int8
leaves_shown too_large known Primitive.Uint8 = stays Primitive.Uint8
leaves_shown too_large known Primitive.Int16 = stays Primitive.Int16
leaves_shown too_large known Primitive.Uint16 = stays Primitive.Uint16
leaves_shown too_large known Primitive.Int32 = stays Primitive.Int32
leaves_shown too_large known Primitive.Uint32 = stays Primitive.Uint32
leaves_shown too_large known Primitive.Int64 = stays Primitive.Int64
leaves_shown too_large known Primitive.Uint64 = stays Primitive.Uint64
leaves_shown too_large known Primitive.Float32 = float_shown too_large w32 4 binary32 known
leaves_shown too_large known Primitive.Float64 = float_shown too_large w64 8 binary64 known
leaves_shown too_large known Primitive.Char8 = stays Primitive.Char8

-- ---- what stands for a number that is too large

pub empty_text : IsData (json.string [])
empty_text = (rows.string [], refl)

pub zero_number : IsData (json.number (48 ∷ []))
unfolding digits
zero_number = (rows.number (rows.unsigned 0), ap (option_map rows.number) (number_of-decimal 0 (pow_pos 64)))
