-- Worked examples of tokens, by computation (OMG IDL 4.2, 7.2).
use Rattle.std.specs.Prelude.{◌≡◌, negsuc, Some, None, codes, refl, []}
use Rattle.idl_tokens.specs.declared.tokens.TokenKind.TheVariants.{Word, Number, Character, Mark, End, Bad}
use Rattle.idl_tokens.specs.Numerals.{is_numeral, magnitude, unsigned_in, signed_32}
use Rattle.idl_tokens.specs.Tokens.{a_token, token, blank, skip, kind_at, spelling_at}

-- ---- the token at the front

pub word : token (codes "Pose_2 {") ≡ a_token Word 6
unfolding token
word = refl

pub hexadecimal : token (codes "0x1F;") ≡ a_token Number 4
unfolding token is_numeral
hexadecimal = refl

pub negative : token (codes "-12]") ≡ a_token Number 3
unfolding token is_numeral
negative = refl

pub octal_eight : token (codes "08 ") ≡ a_token Bad 2
unfolding token is_numeral
octal_eight = refl

pub letters_behind : token (codes "5x ") ≡ a_token Bad 2
unfolding token is_numeral
letters_behind = refl

pub sign_alone : token (codes "- 1") ≡ a_token Bad 1
unfolding token is_numeral
sign_alone = refl

pub space_as_character : token (codes "' ':") ≡ a_token Character 3
unfolding token
space_as_character = refl

pub quote_as_character : token (codes "''':") ≡ a_token Bad 1
unfolding token
quote_as_character = refl

pub scope_mark : token (codes ":::") ≡ a_token Mark 2
unfolding token
scope_mark = refl

pub underscore : token (codes "_a") ≡ a_token Bad 1
unfolding token
underscore = refl

pub at_the_end : token (codes "") ≡ a_token End 0
unfolding token
at_the_end = refl

-- ---- past blanks and comments

pub past_comments : spelling_at (codes "/* a */ // b") ≡ []
unfolding skip blank token
past_comments = refl

pub past_a_line : spelling_at (codes "// a\n struct") ≡ codes "struct"
unfolding skip blank token
past_a_line = refl

pub open_comment : kind_at (codes " /*/ a") ≡ Bad
unfolding skip blank token
open_comment = refl

-- ---- numbers

pub octal : magnitude (codes "017") ≡ 15
unfolding magnitude
octal = refl

pub largest_bound : unsigned_in 1 4294967295 (codes "0xffffffff") ≡ Some 4294967295
unfolding unsigned_in magnitude
largest_bound = refl

pub no_bound : unsigned_in 1 4294967295 (codes "0") ≡ None
unfolding unsigned_in magnitude
no_bound = refl

pub least_number : signed_32 (codes "-2147483648") ≡ Some (negsuc 2147483647)
unfolding signed_32 magnitude
least_number = refl
