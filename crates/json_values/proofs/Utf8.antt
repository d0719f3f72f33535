-- Octets as texts.
use Rattle.std.proofs.lemmas.Bool.{and_parts}
use Rattle.std.proofs.Common.{[], ◌∷◌, ◌&&◌, nat_lt, ◌≡◌, refl, ℕ, List, Bool, true, false, cond, Some, None, IsAscii}
use borrow.Author.Tests.{ltb-true}
use Rattle.std.proofs.lemmas.Str.Ascii.{IsAscii-nil, IsAscii-cons}
use Rattle.std.specs.Str.{IsUtf8, is_utf8}
use Rattle.std.proofs.lemmas.Str.{IsUtf8-from_is_utf8, is_utf8-from_IsUtf8, IsUtf8-from_ascii}
use Rattle.hex.specs.Hex.{encode_lower, lower_digits}
use Rattle.hex.proofs.HexLemmas.{IsAscii-encode_with}
use Rattle.serde_json.specs.Data as json
use Rattle.serde_json.specs.Data.{Data}
use Rattle.serde_json.specs.Read.{read}
use Rattle.json_values.specs.Read.{json_of}
use Rattle.json_values.specs.Written.{text_data, hex_key}

pub reads_some : (s : List ℕ) (d : Data) → IsUtf8 s → read s ≡ Some d → json_of s ≡ Some d
reads_some s d utf8 e = rw (is_utf8-from_IsUtf8 s utf8) e

reads_none_at : (s : List ℕ) (b : Bool) → is_utf8 s ≡ b → (IsUtf8 s → read s ≡ None) → cond b (read s) None ≡ None
reads_none_at s true is e = e (IsUtf8-from_is_utf8 s is)
reads_none_at s false is e = refl

pub reads_none : (s : List ℕ) → (IsUtf8 s → read s ≡ None) → json_of s ≡ None
reads_none s e = reads_none_at s (is_utf8 s) refl e

pub text_is : (s : List ℕ) → IsUtf8 s → text_data s ≡ json.string s
text_is s utf8 = rw (is_utf8-from_IsUtf8 s utf8) refl

hex_is_at : (s : List ℕ) (b : Bool) → is_utf8 s ≡ b → (IsUtf8 s → ⊥) → (x y : Data) → cond b x y ≡ y
hex_is_at s true is not x y = absurd (not (IsUtf8-from_is_utf8 s is))
hex_is_at s false is not x y = refl

pub hex_is : (s : List ℕ) → (IsUtf8 s → ⊥) → text_data s ≡ json.object (json.member hex_key (json.string (encode_lower s)) json.no_members)
hex_is s not = hex_is_at s (is_utf8 s) refl not _ _

-- ---- hexadecimal is text

abbrev pub all_low : List ℕ → Bool
all_low [] = true
all_low (c ∷ rest) = nat_lt c 128 && all_low rest

pub IsAscii-low : (cs : List ℕ) → all_low cs ≡ true → IsAscii cs
IsAscii-low [] h = IsAscii-nil
IsAscii-low (c ∷ rest) h =
    let parts = and_parts (nat_lt c 128) (all_low rest) h in
    IsAscii-cons c rest (ltb-true c 128 parts.0) (IsAscii-low rest parts.1)

IsAscii-digits : IsAscii lower_digits
IsAscii-digits = IsAscii-low lower_digits refl

pub IsAscii-hex : (s : List ℕ) → IsAscii (encode_lower s)
IsAscii-hex s = IsAscii-encode_with lower_digits s IsAscii-digits

pub hex_is_text : (s : List ℕ) → is_utf8 (encode_lower s) ≡ true
hex_is_text s = is_utf8-from_IsUtf8 (encode_lower s) (IsUtf8-from_ascii (encode_lower s) (IsAscii-hex s))
