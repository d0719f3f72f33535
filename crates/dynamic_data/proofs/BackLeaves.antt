-- A value without parts is read from its JSON as it was.
use Rattle.std.proofs.Common.{◌≡◌, refl, ℕ, zero, suc, ◌^◌, ◌<◌, ◌≤◌, ℤ, pos, negsuc, List, [], ◌∷◌, length, Bool, true, false, not, ◌&&◌, ◌||◌, cond, Ok, bytes_eq, nat_lt, nat_le, true≢false, sym, ap, subst, ◌∙◌, arith, map}
use Rattle.std.specs.Int.{w32, w64, to_be_bytes, bytes_high_first, byte_at}
use borrow.Author.Tests.{leb-true, ltb-true}
use Rattle.std.specs.Ordering.{int_eq}
use Rattle.std.specs.Str.{is_utf8}
use Rattle.std.proofs.Math.Nat.{pow-le-pow_right}
use Rattle.std.proofs.lemmas.Bool.{and_parts, lt-ltb}
use Rattle.std.proofs.lemmas.Bool.Decides.{Decides-int_eq}
use Rattle.std.proofs.lemmas.Nat.{from_be_bytes-to_be_bytes_4, from_be_bytes-to_be_bytes_8}
use Rattle.std.proofs.lemmas.Slice.Eq.{bytes_eq-Decides}
use Rattle.hex.specs.Hex.{IsBytes}
use Rattle.hex.proofs.HexLemmas.{decode_of-encode_lower, decode_sized-encode_lower}
use Rattle.serde_json.specs.Data as json
use Rattle.xt_shapes.specs.declared.leaves.Primitive.{Primitive}
use Rattle.type_trees.specs.declared.types.Literal.{Literal}
use Rattle.xt_shapes.specs.Vals.{int, text}
use Rattle.xt_shapes.specs.Lists.{has, all}
use Rattle.xt_shapes.specs.Select.{is_literal}
use Rattle.xt_shapes.specs.Typing.{of_prim, in_range, is_below, is_past, is_text_within}
use Rattle.type_trees.specs.Bridge.{literal_shape}
use Rattle.dynamic_data.specs.Faithful.{are_apart}
use Rattle.json_values.specs.Names.{name_text, is_among, literal_names}
use Rattle.json_values.specs.Read.{whole_of, boolean_of, bits_of, bits_in, prim_of, literal_named, literal_of, text_of, octets_of, decoded}
use Rattle.json_values.specs.Written.{whole, bits_text, prim_data, mask_data, literal_data, text_data}

pub at_true : {A : Type 0} (b : Bool) (x y : A) → b ≡ true → cond b x y ≡ x
at_true b x y h = rw h refl

pub at_false : {A : Type 0} (b : Bool) (x y : A) → b ≡ false → cond b x y ≡ y
at_false b x y h = rw h refl

pub back_whole : (fits : ℤ → Bool) (n : ℤ) → fits n ≡ true → whole_of fits (whole n) ≡ Ok (int n)
back_whole fits (pos k) h = at_true (fits (pos k)) _ _ h
back_whole fits (negsuc k) h = at_true (fits (negsuc k)) _ _ h

-- a number below a limit is a natural number
below_limit : (limit : ℕ) (n : ℤ) → is_below limit n ≡ true → (k : ℕ) × (n ≡ pos k) × (k < limit)
below_limit limit (pos k) h = (k, refl, ltb-true k limit h)
below_limit limit (negsuc k) h = cc h

unsigned : (size : ℕ) (n : ℤ) → in_range size false n ≡ true → (k : ℕ) × (n ≡ pos k) × (k < 256 ^ size)
unsigned size (pos k) h = (k, refl, ltb-true k (256 ^ size) h)
unsigned size (negsuc k) h = cc h

back_boolean_at : (k : ℕ) → k < 2 → boolean_of (json.boolean (int_eq (pos k) (pos 1))) ≡ Ok (int (pos k))
back_boolean_at zero low = refl
back_boolean_at (suc zero) low = refl
back_boolean_at (suc (suc k)) low = absurd (omega arith)

back_boolean : (n : ℤ) → is_below 2 n ≡ true → boolean_of (json.boolean (int_eq n (pos 1))) ≡ Ok (int n)
back_boolean n h =
    let k = below_limit 2 n h in
    rw k.1 (back_boolean_at k.0 k.2)

pub IsBytes-cons : (b : ℕ) (bs : List ℕ) → b < 256 → IsBytes bs → IsBytes (b ∷ bs)
IsBytes-cons b bs low more zero = low
IsBytes-cons b bs low more (suc i) = more i

pub byte_small : (i n : ℕ) → byte_at i n < 256
byte_small zero n = omega arith
byte_small (suc i) n = omega arith

IsBytes-big_endian : (m n : ℕ) → IsBytes (bytes_high_first m n)
IsBytes-big_endian zero n = λ i. omega arith
IsBytes-big_endian (suc m) n = IsBytes-cons (byte_at m n) (bytes_high_first m n) (byte_small m n) (IsBytes-big_endian m n)

back_bits32 : (n : ℤ) → in_range 4 false n ≡ true → bits_of w32 4 (bits_text w32 n) ≡ Ok (int n)
back_bits32 n h =
    let k = unsigned 4 n h in
    let octets = to_be_bytes w32 k.0 in
    let digits = decode_sized-encode_lower octets 4 refl (IsBytes-big_endian 4 k.0) in
    rw k.1 (ap (bits_in w32) digits ∙ ap (λ (m : ℕ). Ok (int (pos m))) (from_be_bytes-to_be_bytes_4 k.0 (omega (arith, k.2))))

back_bits64 : (n : ℤ) → in_range 8 false n ≡ true → bits_of w64 8 (bits_text w64 n) ≡ Ok (int n)
back_bits64 n h =
    let k = unsigned 8 n h in
    let octets = to_be_bytes w64 k.0 in
    let digits = decode_sized-encode_lower octets 8 refl (IsBytes-big_endian 8 k.0) in
    rw k.1 (ap (bits_in w64) digits ∙ ap (λ (m : ℕ). Ok (int (pos m))) (from_be_bytes-to_be_bytes_8 k.0 (omega (arith, k.2))))

pub back_prim : (p : Primitive) (n : ℤ) → of_prim p n ≡ true → prim_of p (prim_data p n) ≡ Ok (int n)
back_prim Primitive.Boolean n h = ap boolean_of (at_true _ _ _ h) ∙ back_boolean n h
back_prim Primitive.Byte n h = ap (whole_of (of_prim Primitive.Byte)) (at_true _ _ _ h) ∙ back_whole _ n h
back_prim Primitive.Int8 n h = ap (whole_of (of_prim Primitive.Int8)) (at_true _ _ _ h) ∙ back_whole _ n h
back_prim Primitive.Uint8 n h = ap (whole_of (of_prim Primitive.Uint8)) (at_true _ _ _ h) ∙ back_whole _ n h
back_prim Primitive.Int16 n h = ap (whole_of (of_prim Primitive.Int16)) (at_true _ _ _ h) ∙ back_whole _ n h
back_prim Primitive.Uint16 n h = ap (whole_of (of_prim Primitive.Uint16)) (at_true _ _ _ h) ∙ back_whole _ n h
back_prim Primitive.Int32 n h = ap (whole_of (of_prim Primitive.Int32)) (at_true _ _ _ h) ∙ back_whole _ n h
back_prim Primitive.Uint32 n h = ap (whole_of (of_prim Primitive.Uint32)) (at_true _ _ _ h) ∙ back_whole _ n h
back_prim Primitive.Int64 n h = ap (whole_of (of_prim Primitive.Int64)) (at_true _ _ _ h) ∙ back_whole _ n h
back_prim Primitive.Uint64 n h = ap (whole_of (of_prim Primitive.Uint64)) (at_true _ _ _ h) ∙ back_whole _ n h
back_prim Primitive.Float32 n h = ap (bits_of w32 4) (at_true _ _ _ h) ∙ back_bits32 n h
back_prim Primitive.Float64 n h = ap (bits_of w64 8) (at_true _ _ _ h) ∙ back_bits64 n h
back_prim Primitive.Char8 n h = ap (whole_of (of_prim Primitive.Char8)) (at_true _ _ _ h) ∙ back_whole _ n h

pub both_true : (b c : Bool) → b ≡ true → c ≡ true → (b && c) ≡ true
both_true b c hb hc = rw hb hc

mask_fits : (bits : ℕ) (n : ℤ) → nat_le bits 64 ≡ true → is_below (2 ^ bits) n ≡ true → of_prim Primitive.Uint64 n ≡ true
mask_fits bits (pos k) few h =
    let below : k < 2 ^ bits = ltb-true k (2 ^ bits) h in
    let most : 2 ^ bits ≤ 2 ^ 64 = pow-le-pow_right (omega arith) (leb-true bits 64 few) in
    lt-ltb k 18446744073709551616 (omega arith)
mask_fits bits (negsuc k) few h = cc h

pub back_mask : (bits : ℕ) (n : ℤ) → nat_le bits 64 ≡ true → is_below (2 ^ bits) n ≡ true → whole_of (is_below (2 ^ bits)) (mask_data n) ≡ Ok (int n)
back_mask bits n few h = ap (whole_of (is_below (2 ^ bits))) (at_true _ _ _ (mask_fits bits n few h)) ∙ back_whole (is_below (2 ^ bits)) n h

-- ---- literals

pub bytes_same : (s : List ℕ) → bytes_eq s s ≡ true
bytes_same s = (bytes_eq-Decides s s).1 refl

pub bytes_equal : (s t : List ℕ) → bytes_eq s t ≡ true → s ≡ t
bytes_equal s t h = (bytes_eq-Decides s t).0 h

pub not_true : (b : Bool) → not b ≡ true → b ≡ false
not_true true h = cc h
not_true false h = refl

-- the literal's name, that it is one of the names, and what it is read as
abbrev Told : List Literal → ℤ → Type 0
Told ls n = (s : List ℕ) × (literal_data ls n ≡ json.string s) × (is_among s (literal_names ls) ≡ true) × (literal_named ls s ≡ Ok (int n))

or_true : (b c : Bool) → c ≡ true → (b || c) ≡ true
or_true true c h = refl
or_true false c h = h

-- a name among the later ones is not the first
other_name : (a s : List ℕ) (names : List (List ℕ)) → is_among a names ≡ false → is_among s names ≡ true → (b : Bool) → bytes_eq a s ≡ b → b ≡ false
other_name a s names apart among true same = absurd (true≢false (sym among ∙ subst (λ t. is_among t names ≡ false) (bytes_equal a s same) apart))
other_name a s names apart among false same = refl

told_first : (l : Literal) (ls : List Literal) (n : ℤ) → int_eq l.value n ≡ true → Told (l ∷ ls) n
told_first l ls n same =
    let value : l.value ≡ n = (Decides-int_eq l.value n).0 same in (
      name_text l.name,
      at_true (int_eq l.value n) _ _ same,
      rw (bytes_same (name_text l.name)) refl,
      at_true (bytes_eq (name_text l.name) (name_text l.name)) _ _ (bytes_same (name_text l.name)) ∙ ap (λ (m : ℤ). Ok (int m)) value,
    )

told_later : (l : Literal) (ls : List Literal) (n : ℤ) → int_eq l.value n ≡ false → is_among (name_text l.name) (literal_names ls) ≡ false → Told ls n → Told (l ∷ ls) n
told_later l ls n other apart told = (
  told.0,
  at_false (int_eq l.value n) _ _ other ∙ told.1,
  or_true (bytes_eq (name_text l.name) told.0) _ told.2,
  at_false (bytes_eq (name_text l.name) told.0) _ _ (other_name (name_text l.name) told.0 (literal_names ls) apart told.2 _ refl) ∙ told.3,
)

told_at : (b : Bool) (l : Literal) (ls : List Literal) (n : ℤ) → int_eq l.value n ≡ b → (b || is_literal (map literal_shape ls) n) ≡ true → is_among (name_text l.name) (literal_names ls) ≡ false
    → (is_literal (map literal_shape ls) n ≡ true → Told ls n) → Told (l ∷ ls) n
told_at true l ls n same has apart later = told_first l ls n same
told_at false l ls n same has apart later = told_later l ls n same apart (later has)

told : (ls : List Literal) (n : ℤ) → are_apart (literal_names ls) ≡ true → is_literal (map literal_shape ls) n ≡ true → Told ls n
told [] n apart has = cc has
told (l ∷ ls) n apart has =
    let parts = and_parts (not (is_among (name_text l.name) (literal_names ls))) _ apart in
    told_at (int_eq l.value n) l ls n refl has (not_true _ parts.0) (told ls n parts.1)

pub back_literal : (ls : List Literal) (n : ℤ) → are_apart (literal_names ls) ≡ true → is_literal (map literal_shape ls) n ≡ true → literal_of ls (literal_data ls n) ≡ Ok (int n)
back_literal ls n apart has =
    let t = told ls n apart has in
    ap (literal_of ls) t.1 ∙ t.3

-- ---- texts

back_octets : (bound : ℕ) (s : List ℕ) → is_past bound (length s) ≡ false → is_text_within 0 s ≡ true → octets_of bound s ≡ Ok (text s)
back_octets bound s within free = at_true (is_text_within 0 s) _ _ free ∙ at_false (is_past bound (length s)) _ _ within

IsBytes-all : (s : List ℕ) → all (λ b. nat_lt b 256) s ≡ true → IsBytes s
IsBytes-all [] h = λ i. omega arith
IsBytes-all (o ∷ os) h =
    let parts = and_parts (nat_lt o 256) (all (λ b. nat_lt b 256) os) h in
    IsBytes-cons o os (ltb-true o 256 parts.0) (IsBytes-all os parts.1)

back_text_at : (b : Bool) (bound : ℕ) (s : List ℕ) → is_utf8 s ≡ b → is_past bound (length s) ≡ false → is_text_within 0 s ≡ true → IsBytes s → text_of bound (text_data s) ≡ Ok (text s)
back_text_at true bound s is within free bytes = ap (text_of bound) (at_true (is_utf8 s) _ _ is) ∙ back_octets bound s within free
back_text_at false bound s is within free bytes =
    ap (text_of bound) (at_false (is_utf8 s) _ _ is) ∙ ap (decoded bound) (decode_of-encode_lower s bytes) ∙ back_octets bound s within free

pub back_text : (bound : ℕ) (s : List ℕ) → is_text_within bound s ≡ true → text_of bound (text_data s) ≡ Ok (text s)
back_text bound s h =
    let parts = and_parts (not (is_past bound (length s))) _ h in
    let octets = and_parts (all (λ b. nat_lt b 256) s) _ parts.1 in
    back_text_at (is_utf8 s) bound s refl (not_true _ parts.0) parts.1 (IsBytes-all s octets.0)
