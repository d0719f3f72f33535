-- A value without parts that is read has its type.
use Rattle.std.proofs.Common.{◌≡◌, refl, ℕ, ◌<◌, ℤ, pos, Bool, true, false, not, ◌&&◌, ◌||◌, cond, bytes_eq, List, [], ◌∷◌, length, map, Option, Some, None, Result, Ok, Err, sym, ◌∙◌, arith}
use Rattle.std.specs.Int.{w32, w64, from_be_bytes}
use Rattle.std.specs.Ordering.{int_eq}
use Rattle.std.proofs.lemmas.Bool.{lt-ltb}
use Rattle.std.proofs.lemmas.Bool.Decides.{Decides-int_eq}
use Rattle.hex.specs.Hex.{IsBytes, decode_of, decode_sized}
use Rattle.hex.specs.declared.error.FromHexError.{FromHexError}
use Rattle.hex.proofs.HexLemmas.{decode_of-ok, decode_sized-ok, decode_sized-twice}
use Rattle.serde_json.specs.Data as json
use Rattle.serde_json.specs.Data.{Data}
use Rattle.serde_json.specs.Find.{as_integer, get_member}
use Rattle.xt_shapes.specs.declared.leaves.Primitive.{Primitive}
use Rattle.xt_shapes.specs.Select.{is_literal}
use Rattle.xt_shapes.specs.Typing.{on_int, on_text, of_prim, in_range, is_below, is_past, is_text_within}
use Rattle.xt_shapes.specs.Vals.{Val, int, text, listed, mapped as map_val, struct_of, union_of}
use Rattle.type_trees.specs.declared.types.Literal.{Literal}
use Rattle.type_trees.specs.Bridge.{literal_shape}
use Rattle.json_values.specs.declared.faults.JsonRule.{JsonRule}
use Rattle.json_values.specs.Names.{name_text}
use Rattle.json_values.specs.Read as spec
use Rattle.json_values.specs.Read.{whole_of, boolean_of, bits_of, bits_in, prim_of, literal_named, literal_of, text_of, octets_of, decoded, hex_of, has_other}
use Rattle.json_values.specs.Written.{hex_key}
use Rattle.dynamic_data.proofs.Yields.{Yields, unless, provided, either, weaker}

abbrev pub OfInt : (ℤ → Bool) → Val → Type 0
OfInt p v = on_int v p ≡ true

abbrev pub OfText : ℕ → Val → Type 0
OfText bound v = on_text v (is_text_within bound) ≡ true

-- ---- numbers

whole_at : (fits : ℤ → Bool) (o : Option ℤ) → Yields (OfInt fits) (spec.in_range fits o)
whole_at fits None = tt
whole_at fits (Some n) = provided (OfInt fits) (fits n) JsonRule.Range (Ok (int n)) (λ h. h)

pub whole_typed : (fits : ℤ → Bool) (d : Data) → Yields (OfInt fits) (whole_of fits d)
whole_typed fits json.null = tt
whole_typed fits (json.boolean b) = tt
whole_typed fits (json.number n) = whole_at fits (as_integer n)
whole_typed fits (json.string s) = tt
whole_typed fits (json.array ds) = tt
whole_typed fits (json.object ms) = tt

boolean_at : (b : Bool) → is_below 2 (cond b (pos 1) (pos 0)) ≡ true
boolean_at true = refl
boolean_at false = refl

boolean_typed : (d : Data) → Yields (OfInt (is_below 2)) (boolean_of d)
boolean_typed json.null = tt
boolean_typed (json.boolean b) = boolean_at b
boolean_typed (json.number n) = tt
boolean_typed (json.string s) = tt
boolean_typed (json.array ds) = tt
boolean_typed (json.object ms) = tt

sized_bytes : (s : List ℕ) (n : ℕ) (bytes : List ℕ) → decode_sized s n ≡ Ok bytes → IsBytes bytes
sized_bytes s n bytes e =
    let twice = decode_sized-twice s n (decode_sized-ok s n bytes e) in
    (decode_of-ok s bytes (sym twice ∙ e)).3

bits32_at : (s : List ℕ) (r : Result (List ℕ) FromHexError) → decode_sized s 4 ≡ r → Yields (OfInt (in_range 4 false)) (bits_in w32 r)
bits32_at s (Err e) is = tt
bits32_at s (Ok bytes) is =
    let low = sized_bytes s 4 bytes is in
    let small : from_be_bytes w32 bytes < 4294967296 = omega (arith, low 0, low 1, low 2, low 3) in
    lt-ltb (from_be_bytes w32 bytes) 4294967296 small

bits64_at : (s : List ℕ) (r : Result (List ℕ) FromHexError) → decode_sized s 8 ≡ r → Yields (OfInt (in_range 8 false)) (bits_in w64 r)
bits64_at s (Err e) is = tt
bits64_at s (Ok bytes) is =
    let low = sized_bytes s 8 bytes is in
    let small : from_be_bytes w64 bytes < 18446744073709551616 = omega (arith, low 0, low 1, low 2, low 3, low 4, low 5, low 6, low 7) in
    lt-ltb (from_be_bytes w64 bytes) 18446744073709551616 small

bits32_typed : (d : Data) → Yields (OfInt (in_range 4 false)) (bits_of w32 4 d)
bits32_typed json.null = tt
bits32_typed (json.boolean b) = tt
bits32_typed (json.number n) = tt
bits32_typed (json.string s) = bits32_at s (decode_sized s 4) refl
bits32_typed (json.array ds) = tt
bits32_typed (json.object ms) = tt

bits64_typed : (d : Data) → Yields (OfInt (in_range 8 false)) (bits_of w64 8 d)
bits64_typed json.null = tt
bits64_typed (json.boolean b) = tt
bits64_typed (json.number n) = tt
bits64_typed (json.string s) = bits64_at s (decode_sized s 8) refl
bits64_typed (json.array ds) = tt
bits64_typed (json.object ms) = tt

pub prim_typed : (p : Primitive) (d : Data) → Yields (OfInt (of_prim p)) (prim_of p d)
prim_typed Primitive.Boolean d = boolean_typed d
prim_typed Primitive.Byte d = whole_typed (of_prim Primitive.Byte) d
prim_typed Primitive.Int8 d = whole_typed (of_prim Primitive.Int8) d
prim_typed Primitive.Uint8 d = whole_typed (of_prim Primitive.Uint8) d
prim_typed Primitive.Int16 d = whole_typed (of_prim Primitive.Int16) d
prim_typed Primitive.Uint16 d = whole_typed (of_prim Primitive.Uint16) d
prim_typed Primitive.Int32 d = whole_typed (of_prim Primitive.Int32) d
prim_typed Primitive.Uint32 d = whole_typed (of_prim Primitive.Uint32) d
prim_typed Primitive.Int64 d = whole_typed (of_prim Primitive.Int64) d
prim_typed Primitive.Uint64 d = whole_typed (of_prim Primitive.Uint64) d
prim_typed Primitive.Float32 d = bits32_typed d
prim_typed Primitive.Float64 d = bits64_typed d
prim_typed Primitive.Char8 d = whole_typed (of_prim Primitive.Char8) d

-- ---- literals

or_left : (b c : Bool) → b ≡ true → (b || c) ≡ true
or_left b c h = rw h refl

or_right : (b c : Bool) → c ≡ true → (b || c) ≡ true
or_right true c h = refl
or_right false c h = h

later_int : (p q : ℤ → Bool) → ((n : ℤ) → p n ≡ true → q n ≡ true) → (v : Val) → OfInt p v → OfInt q v
later_int p q f (int n) h = f n h
later_int p q f (text s) h = h
later_int p q f (listed vs) h = h
later_int p q f (map_val ps) h = h
later_int p q f (struct_of ss) h = h
later_int p q f (union_of d b) h = h

named_typed : (ls : List Literal) (s : List ℕ) → Yields (OfInt (is_literal (map literal_shape ls))) (literal_named ls s)
named_typed [] s = tt
named_typed (l ∷ ls) s =
    let P = OfInt (is_literal (map literal_shape ls)) in
    let Q = OfInt (is_literal (map literal_shape (l ∷ ls))) in
    either Q (bytes_eq (name_text l.name) s) (Ok (int l.value)) (literal_named ls s)
    (λ h. or_left (int_eq l.value l.value) _ ((Decides-int_eq l.value l.value).1 refl))
    (λ h. weaker P Q (literal_named ls s) (named_typed ls s) (later_int _ _ (λ n has. or_right (int_eq l.value n) _ has)))

pub literal_typed : (ls : List Literal) (d : Data) → Yields (OfInt (is_literal (map literal_shape ls))) (literal_of ls d)
literal_typed ls json.null = tt
literal_typed ls (json.boolean b) = tt
literal_typed ls (json.number n) = tt
literal_typed ls (json.string s) = named_typed ls s
literal_typed ls (json.array ds) = tt
literal_typed ls (json.object ms) = tt

-- ---- strings

within_both : (past free : Bool) → past ≡ false → free ≡ true → (not past && free) ≡ true
within_both past free hp hf = rw (hp, hf) refl

octets_typed : (bound : ℕ) (s : List ℕ) → Yields (OfText bound) (octets_of bound s)
octets_typed bound s =
    provided (OfText bound) (is_text_within 0 s) JsonRule.Text _
    (λ free. unless (OfText bound) (is_past bound (length s)) JsonRule.Bound (Ok (text s)) (λ within. within_both (is_past bound (length s)) (is_text_within 0 s) within free))

decoded_typed : (bound : ℕ) (r : Result (List ℕ) FromHexError) → Yields (OfText bound) (decoded bound r)
decoded_typed bound (Ok octets) = octets_typed bound octets
decoded_typed bound (Err e) = tt

hex_typed : (bound : ℕ) (o : Option Data) → Yields (OfText bound) (hex_of bound o)
hex_typed bound None = tt
hex_typed bound (Some json.null) = tt
hex_typed bound (Some (json.boolean b)) = tt
hex_typed bound (Some (json.number n)) = tt
hex_typed bound (Some (json.string s)) = decoded_typed bound (decode_of s)
hex_typed bound (Some (json.array ds)) = tt
hex_typed bound (Some (json.object ms)) = tt

pub text_typed : (bound : ℕ) (d : Data) → Yields (OfText bound) (text_of bound d)
text_typed bound json.null = tt
text_typed bound (json.boolean b) = tt
text_typed bound (json.number n) = tt
text_typed bound (json.string s) = octets_typed bound s
text_typed bound (json.array ds) = tt
text_typed bound (json.object ms) = unless (OfText bound) (has_other (hex_key ∷ []) ms) JsonRule.Unknown _ (λ _. hex_typed bound (get_member hex_key ms))
