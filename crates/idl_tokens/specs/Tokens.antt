-- The token at the front of an IDL text, and what stands between tokens (OMG IDL 4.2, 7.2).
use Rattle.std.specs.Prelude.{ℕ, zero, suc, ◌+◌, ◌-◌, Bool, true, false, not, ◌&&◌, ◌||◌, if◌then◌else◌, ◌==◌, [], ◌∷◌, take, drop, length, slice_index}
use Rattle.std.specs.Char.{is_ascii_alphabetic, is_ascii_digit}
use Rattle.std.specs.Str.{bytes_eq}
use Rattle.idl_tokens.specs.declared.classes.Class.TheVariants as class
use Rattle.idl_tokens.specs.declared.tokens.TokenKind.{TokenKind}
use Rattle.idl_tokens.specs.declared.tokens.TokenKind.TheVariants.{Word, Number, Character, Quoted, Mark, End, Bad}
use Rattle.idl_tokens.specs.declared.tokens.Token.{Token}
use Rattle.idl_tokens.specs.Classes.{Text, is_printable, is_in, past}
use Rattle.idl_tokens.specs.Numerals.{is_numeral}

abbrev pub a_token : TokenKind → ℕ → Token
a_token kind len = record { kind = kind; len = len }

abbrev pub is_mark : ℕ → Bool
is_mark b =
    b == 123 || b == 125 || b == 59 || b == 40 || b == 41 || b == 44 || b == 60 || b == 62 || b == 91 || b == 93 || b == 58 || b == 64

-- a number, or letters and digits that are none
abbrev pub numeral : Text → Token
numeral text = let end = past class.Run text 1 in a_token (if is_numeral (take end text) then Number else Bad) end

abbrev pub begins_numeral : Text → Bool
begins_numeral text = is_ascii_digit (slice_index text 0) || (slice_index text 0 == 45 && is_ascii_digit (slice_index text 1))

-- a printable character between single quotes
abbrev pub character : Text → Token
character text =
    let b = slice_index text 1 in
    if slice_index text 2 == 39 && is_printable b && not (b == 39) && not (b == 92) then a_token Character 3 else a_token Bad 1

-- printable characters between double quotes
abbrev pub quoted : Text → Token
quoted text = let end = past class.Inside text 1 in if slice_index text end == 34 then a_token Quoted (end + 1) else a_token Bad 1

-- `::` is one mark
abbrev pub mark : Text → Token
mark text = if slice_index text 0 == 58 && slice_index text 1 == 58 then a_token Mark 2 else (if is_mark (slice_index text 0) then a_token Mark 1 else a_token Bad 1)

unfoldable pub token : Text → Token
token text =
    if length text == 0 then a_token End 0
    else (if is_ascii_alphabetic (slice_index text 0) then a_token Word (past class.Run text 1)
    else (if begins_numeral text then numeral text
    else (if slice_index text 0 == 39 then character text
    else (if slice_index text 0 == 34 then quoted text else mark text))))

-- ---- what stands between tokens

-- the length up to and with `*/`, or 0 where there is none
abbrev pub closing : Text → ℕ → ℕ
closing [] at = 0
closing (b ∷ text) at = if b == 42 && slice_index text 0 == 47 then at + 2 else closing text (at + 1)

-- the length of the blank or comment at the front, or 0. A comment of `//` ends before the line feed.
unfoldable pub blank : Text → ℕ
blank text =
    if is_in class.Blank (slice_index text 0) then 1
    else (if slice_index text 0 == 47 && slice_index text 1 == 47 then past class.Line text 2
    else (if slice_index text 0 == 47 && slice_index text 1 == 42 then closing (drop 2 text) 2 else 0))

-- The text from its first token on. The number counts the octets that are left of a blank or comment.
abbrev pub skip_from : ℕ → Text → Text
skip_from left [] = []
skip_from (suc left) (b ∷ text) = skip_from left text
skip_from zero (b ∷ text) = let n = blank (b ∷ text) in if n == 0 then b ∷ text else skip_from (n - 1) text

unfoldable pub skip : Text → Text
skip = skip_from 0

-- ---- the token at the front, past blanks and comments

abbrev pub kind_at : Text → TokenKind
kind_at text = (token (skip text)).kind

abbrev pub spelling_at : Text → Text
spelling_at text = take (token (skip text)).len (skip text)

abbrev pub after : Text → Text
after text = drop (token (skip text)).len (skip text)

abbrev pub is_word : TokenKind → Bool
is_word TokenKind.Word = true
is_word _ = false

abbrev pub is_number : TokenKind → Bool
is_number TokenKind.Number = true
is_number _ = false

abbrev pub is_quoted : TokenKind → Bool
is_quoted TokenKind.Quoted = true
is_quoted _ = false

abbrev pub is_word_or_mark : TokenKind → Bool
is_word_or_mark TokenKind.Word = true
is_word_or_mark TokenKind.Mark = true
is_word_or_mark _ = false

-- the next token is this word or mark
unfoldable pub sees : Text → Text → Bool
sees spelling text = is_word_or_mark (kind_at text) && bytes_eq (spelling_at text) spelling
