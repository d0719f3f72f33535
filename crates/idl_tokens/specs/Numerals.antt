-- Numerals: decimal, octal behind `0`, hexadecimal behind `0x`, each with `-` before it or not (OMG IDL 4.2, 7.2.6.1; the sign is this
-- profile's own).
use Rattle.std.specs.Prelude.{ℕ, ◌+◌, ◌-◌, ◌*◌, ℤ, pos, neg_ℤ, Bool, not, ◌&&◌, ◌||◌, if◌then◌else◌, ◌==◌, nat_le, drop, fold, length, slice_index, Option, Some, None}
use Rattle.idl_tokens.specs.declared.classes.Class.TheVariants as class
use Rattle.idl_tokens.specs.Classes.{Text, is_all}

-- `0x` and hexadecimal digits, `0` and octal digits, or decimal digits
abbrev pub is_plain_numeral : Text → Bool
is_plain_numeral text =
    if slice_index text 0 == 48 then (if slice_index text 1 == 120 then is_all class.Hex text 2 && not (length text == 2) else is_all class.Octal text 1)
    else is_all class.Decimal text 0

-- without the sign
abbrev pub unsigned : Text → Text
unsigned text = if slice_index text 0 == 45 then drop 1 text else text

unfoldable pub is_numeral : Text → Bool
is_numeral text = is_plain_numeral (unsigned text)

abbrev pub digit : ℕ → ℕ
digit b = if nat_le b 57 then b - 48 else (if nat_le b 70 then b - 55 else b - 87)

abbrev pub in_base : ℕ → Text → ℕ
in_base base = fold (λ n b. base * n + digit b) 0

abbrev pub plain_value : Text → ℕ
plain_value text = if slice_index text 0 == 48 then (if slice_index text 1 == 120 then in_base 16 (drop 2 text) else in_base 8 (drop 1 text)) else in_base 10 text

-- a numeral's number without its sign
unfoldable pub magnitude : Text → ℕ
magnitude text = plain_value (unsigned text)

abbrev pub is_negative : Text → Bool
is_negative text = slice_index text 0 == 45

-- a numeral's number, where it is in a range
unfoldable pub unsigned_in : ℕ → ℕ → Text → Option ℕ
unsigned_in low high s = let n = magnitude s in if (not (is_negative s) || n == 0) && nat_le low n && nat_le n high then Some n else None

-- a numeral's number, where it has 32 bits with a sign
unfoldable pub signed_32 : Text → Option ℤ
signed_32 s =
    let n = magnitude s in
    if is_negative s then (if nat_le n 2147483648 then Some (neg_ℤ (pos n)) else None)
    else (if nat_le n 2147483647 then Some (pos n) else None)
