-- Kinds of octets in an IDL text (OMG IDL 4.2, 7.2).
use Rattle.std.specs.Prelude.{ℕ, ◌+◌, Bool, not, ◌&&◌, ◌||◌, ◌==◌, nat_le, List, drop, length}
use Rattle.std.specs.Char.{is_ascii_digit, is_ascii_hexdigit, is_ascii_alphanumeric}
use Rattle.std.specs.List.{prefix_len}
use Rattle.idl_tokens.specs.declared.classes.Class.{Class}
use Rattle.idl_tokens.specs.declared.classes.Class.TheVariants as class

abbrev pub Text : Type 0
Text = List ℕ

-- printable ASCII
abbrev pub is_printable : ℕ → Bool
is_printable b = nat_le 32 b && nat_le b 126

abbrev pub is_in : Class → ℕ → Bool
is_in class.Blank b = b == 32 || b == 9 || b == 10 || b == 13
is_in class.Run b = is_ascii_alphanumeric b || b == 95
is_in class.Decimal b = is_ascii_digit b
is_in class.Octal b = nat_le 48 b && nat_le b 55
is_in class.Hex b = is_ascii_hexdigit b
is_in class.Line b = not (b == 10)
is_in class.Inside b = is_printable b && not (b == 34) && not (b == 92)

-- how many octets of the class stand from a place on
abbrev pub past : Class → Text → ℕ → ℕ
past c text at = at + prefix_len (is_in c) (drop at text)

-- whether all octets from a place on are of the class, and there is one
abbrev pub is_all : Class → Text → ℕ → Bool
is_all c text at = past c text at == length text
