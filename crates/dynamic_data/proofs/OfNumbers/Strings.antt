-- The strings and keys among the tokens of a text that is UTF-8 are UTF-8.
use Rattle.std.proofs.Common.{◌≡◌, ℕ, zero, suc, ◌+◌, ◌*◌, ◌<◌, ◌≤◌, Bool, true, false, cond, ◌&&◌, ◌||◌, ◌==◌, nat_lt, List, [], ◌∷◌, ◌++◌, length, get_or, Option, Some, None, option_and_then, IsUtf8, inl, inr, refl, sym, ap, subst, ◌∙◌, arith, tests, append_assoc, append-nil, length-append}
use Rattle.std.specs.Prelude.{⊤}
use Rattle.std.specs.Char.{digit_value, is_digit, encode_utf8}
use Rattle.std.proofs.Math.Utf8.{scalar, scalars, encode, encodes, low_scalar}
use Rattle.std.proofs.lemmas.Bool.{and_parts, cases_lt, eqb-true}
use Rattle.std.proofs.lemmas.Str.{IsUtf8-append, IsUtf8-nil, IsUtf8-encode, encode_ascii, inside_one, cons_from_encodes}
use Rattle.json.specs.Token.{Token, begin_object, end_object, begin_array, end_array, key, string, number, boolean, null, bad}
use Rattle.json.specs.Text.{code_unit, short_escape, is_high_surrogate, is_low_surrogate, surrogate_pair, plain, after_backslash, after_u, after_high, prepend, content}
use Rattle.json.specs.Word.{head, ends_word, after_number, number_before, word}
use Rattle.json.specs.Lex.{Lexeme, token, comma, colon, Class, quote, backslash, operator, space, other, class, operator_lexeme, string_token, Mode, between, in_word, in_string, in_escape, lex_byte, lex}
use Rattle.json.specs.Lex.{Place, fresh, after_value, after_comma, after_key, begins_colon, may_begin, may_close, if_allowed, place_token, punctuate, tokens}

-- ---- the parts of a text

pub one_byte : (x : ℕ) → x < 128 → IsUtf8 (x ∷ [])
one_byte x low = subst IsUtf8 (encode_ascii x low) (IsUtf8-encode x (low_scalar x (omega arith)))

tail_text : (x : ℕ) (xs : List ℕ) → x < 128 → IsUtf8 (x ∷ xs) → IsUtf8 xs
tail_text x xs low u =
    let cut = cons_from_encodes u.0 xs x (u.1.1 ∙ ap (λ l. l ++ xs) (sym (encode_ascii x low))) in
    let fine : scalars (x ∷ cut.0) ≡ true = subst (λ l. scalars l ≡ true) cut.1 u.1.0 in
    (cut.0, ((and_parts (scalar x) (scalars cut.0) fine).1, cut.2))

some_bytes : (p q r : Bool) (a b c d e f g h i j : ℕ) → 0 < length (cond p (a ∷ []) (cond q (b ∷ c ∷ []) (cond r (d ∷ e ∷ f ∷ []) (g ∷ h ∷ i ∷ j ∷ []))))
some_bytes true q r a b c d e f g h i j = omega arith
some_bytes false true r a b c d e f g h i j = omega arith
some_bytes false false true a b c d e f g h i j = omega arith
some_bytes false false false a b c d e f g h i j = omega arith

encode_long : (c : ℕ) → 0 < length (encode c)
unfolding encode
encode_long c = search some_bytes

abbrev AllHigh : List ℕ → Type 0
AllHigh xs = (k : ℕ) → k < length xs → 128 ≤ get_or xs k 0

high_bytes : (c : ℕ) → 128 ≤ c → AllHigh (encode c)
high_bytes c big k below = elim (cases_lt (get_or (encode c) k 0) 128) [
  | inl low ↦ absurd (omega (arith, inside_one c [] (encode c) k (sym (append-nil (encode c))) below low))
  | inr h ↦ h
]

-- a text that begins with a high byte begins with a character of high bytes
record Begins (xs : List ℕ) : Type 0 where
  char : ℕ
  rest : List ℕ
  scalar_is : scalar char ≡ true
  high : AllHigh (encode char)
  split : encode char ++ rest ≡ xs
  text : IsUtf8 rest
  shorter : length rest < length xs

begins_at : (x : ℕ) (xs : List ℕ) → 128 ≤ x → (cs : List ℕ) → scalars cs ≡ true → encodes cs ≡ x ∷ xs → Begins (x ∷ xs)
begins_at x xs high [] fine e = absurd cc
begins_at x xs high (c ∷ cs) fine e =
    let parts = and_parts (scalar c) (scalars cs) fine in
    let big : 128 ≤ c = elim (cases_lt c 128) [
      | inl low ↦ absurd (let same : c ∷ encodes cs ≡ x ∷ xs = ap (λ l. l ++ encodes cs) (sym (encode_ascii c low)) ∙ e in let equal : c ≡ x = ap (λ l. get_or l 0 0) same in omega arith)
      | inr h ↦ h
    ] in
    record { char = c; rest = encodes cs; scalar_is = parts.0; high = high_bytes c big; split = e; text = (cs, (parts.1, refl)); shorter = omega (arith, ap length e, length-append (encode c) (encodes cs), encode_long c) }

begins : (x : ℕ) (xs : List ℕ) → 128 ≤ x → IsUtf8 (x ∷ xs) → Begins (x ∷ xs)
begins x xs high u = begins_at x xs high u.0 u.1.0 u.1.1

-- ---- the content of a string

prepend_again : (a b : List ℕ) (o : Option (List ℕ)) → prepend a (prepend b o) ≡ prepend (a ++ b) o
prepend_again a b None = refl
prepend_again a b (Some s) = ap Some (sym (append_assoc a b s))

prepend_none : (o : Option (List ℕ)) → prepend [] o ≡ o
prepend_none None = refl
prepend_none (Some s) = refl

abbrev IfText : Option (List ℕ) → Type 0
IfText None = ⊤
IfText (Some s) = IsUtf8 s

prepend_text : (bs : List ℕ) (o : Option (List ℕ)) → IsUtf8 bs → IfText o → IfText (prepend bs o)
prepend_text bs None u h = tt
prepend_text bs (Some s) u h = IsUtf8-append bs s u h

either_text : (b : Bool) (x y : Option (List ℕ)) → (b ≡ true → IfText x) → (b ≡ false → IfText y) → IfText (cond b x y)
either_text true x y p q = p refl
either_text false x y p q = q refl

then_text : (f : ℕ → Option (List ℕ)) (o : Option ℕ) → ((u : ℕ) → o ≡ Some u → IfText (f u)) → IfText (option_and_then f o)
then_text f None h = tt
then_text f (Some u) h = h u refl

-- an escaped byte and what it stands for are ASCII
abbrev IfLow : ℕ → Option ℕ → Type 0
IfLow x None = ⊤
IfLow x (Some c) = (x < 128) × (c < 128)

either_low : (x : ℕ) (b : Bool) (o q : Option ℕ) → (b ≡ true → IfLow x o) → IfLow x q → IfLow x (cond b o q)
either_low x true o q p h = p refl
either_low x false o q p h = h

one_of_three : (x : ℕ) → ((x == 34) || (x == 92) || (x == 47)) ≡ true → x < 128
one_of_three x h = grind (arith, tests)

low_escape : (x : ℕ) → IfLow x (short_escape x)
unfolding short_escape
low_escape x =
    let at : (n c : ℕ) → n < 128 → c < 128 → (x == n) ≡ true → (x < 128) × (c < 128) = λ n c p q e. let same = eqb-true x n e in (omega arith, q) in
    either_low x _ (Some x) _ (λ e. (one_of_three x e, one_of_three x e))
    (either_low x _ (Some 8) _ (at 98 8 (omega arith) (omega arith)) (either_low x _ (Some 12) _ (at 102 12 (omega arith) (omega arith))
    (either_low x _ (Some 10) _ (at 110 10 (omega arith) (omega arith)) (either_low x _ (Some 13) _ (at 114 13 (omega arith) (omega arith)) (either_low x _ (Some 9) None (at 116 9 (omega arith) (omega arith)) tt)))))

escape_is : (x c : ℕ) → short_escape x ≡ Some c → (x < 128) × (c < 128)
escape_is x c e = subst (IfLow x) e (low_escape x)

low_digit : (a : ℕ) → is_digit a 16 ≡ true → (a < 128) × (digit_value a < 16)
low_digit a h = grind (arith, tests)

record IsUnit (a b c d u : ℕ) : Type 0 where
  first : a < 128
  second : b < 128
  third : c < 128
  fourth : d < 128
  small : u < 65536

unit_at : (a b c d u : ℕ) (t : Bool) → (is_digit a 16 && is_digit b 16 && is_digit c 16 && is_digit d 16) ≡ t
    → cond t (Some (digit_value a * 4096 + digit_value b * 256 + digit_value c * 16 + digit_value d)) None ≡ Some u → IsUnit a b c d u
unit_at a b c d u true t e =
    let p = and_parts (is_digit a 16 && is_digit b 16 && is_digit c 16) (is_digit d 16) t in
    let q = and_parts (is_digit a 16 && is_digit b 16) (is_digit c 16) p.0 in
    let r = and_parts (is_digit a 16) (is_digit b 16) q.0 in
    let x = low_digit a r.0 in
    let y = low_digit b r.1 in
    let z = low_digit c q.1 in
    let w = low_digit d p.1 in
    let is : digit_value a * 4096 + digit_value b * 256 + digit_value c * 16 + digit_value d ≡ u = cc in
    record { first = x.0; second = y.0; third = z.0; fourth = w.0; small = omega (arith, is, x.1, y.1, z.1, w.1) }
unit_at a b c d u false t e = absurd cc

unit_is : (a b c d u : ℕ) → code_unit a b c d ≡ Some u → IsUnit a b c d u
unfolding code_unit
unit_is a b c d u e = unit_at a b c d u _ refl e

module _ (a b c d u : ℕ) (xs : List ℕ) (is : IsUnit a b c d u) (text : IsUtf8 (a ∷ b ∷ c ∷ d ∷ xs)) where
  after_unit : IsUtf8 xs
  after_unit = tail_text d xs is.fourth (tail_text c (d ∷ xs) is.third (tail_text b (c ∷ d ∷ xs) is.second (tail_text a (b ∷ c ∷ d ∷ xs) is.first text)))

scalar_high : (c : ℕ) → 57344 ≤ c → c < 1114112 → scalar c ≡ true
scalar_high c low high = grind (arith, tests)

scalar_unit : (u : ℕ) → u < 65536 → is_high_surrogate u ≡ false → is_low_surrogate u ≡ false → scalar u ≡ true
scalar_unit u small p q = grind (arith, tests)

scalar_pair : (h l : ℕ) → is_high_surrogate h ≡ true → is_low_surrogate l ≡ true → scalar (surrogate_pair h l) ≡ true
scalar_pair h l p q =
    let first : (55296 ≤ h) × (h < 56320) = grind (arith, tests) in
    let second : (56320 ≤ l) × (l < 57344) = grind (arith, tests) in
    scalar_high (surrogate_pair h l) (omega (arith, first.0, first.1, second.0, second.1)) (omega (arith, first.0, first.1, second.0, second.1))

-- the content of a text no longer than n is a text
abbrev Contents : ℕ → Type 0
Contents n = (xs : List ℕ) → length xs ≤ n → IsUtf8 xs → IfText (content plain xs)

module _ (n : ℕ) (shorter : Contents n) where
  high_unit : (h : ℕ) → is_high_surrogate h ≡ true → (xs : List ℕ) → length xs ≤ n → IsUtf8 xs → IfText (content (after_high h) xs)
  unfolding content
  high_unit h is [] size u = tt
  high_unit h is (s ∷ []) size u = tt
  high_unit h is (s ∷ r ∷ []) size u = tt
  high_unit h is (s ∷ r ∷ a ∷ []) size u = tt
  high_unit h is (s ∷ r ∷ a ∷ b ∷ []) size u = tt
  high_unit h is (s ∷ r ∷ a ∷ b ∷ c ∷ []) size u = tt
  high_unit h is (s ∷ r ∷ a ∷ b ∷ c ∷ d ∷ xs) size u =
      either_text ((s == 92) && (r == 117)) _ None
      (λ e.
      let parts = and_parts (s == 92) (r == 117) e in
      let first = eqb-true s 92 parts.0 in
      let second = eqb-true r 117 parts.1 in
      let rest = tail_text r (a ∷ b ∷ c ∷ d ∷ xs) (omega arith) (tail_text s (r ∷ a ∷ b ∷ c ∷ d ∷ xs) (omega arith) u) in
      then_text (λ l. cond (is_low_surrogate l) (prepend (encode_utf8 (surrogate_pair h l)) (content plain xs)) None) (code_unit a b c d)
      (λ l found. either_text (is_low_surrogate l) _ None
      (λ low. prepend_text (encode_utf8 (surrogate_pair h l)) (content plain xs) (IsUtf8-encode (surrogate_pair h l) (scalar_pair h l is low))
      (shorter xs (omega arith) (after_unit a b c d l xs (unit_is a b c d l found) rest)))
      (λ other. tt)))
      (λ e. tt)

  one_unit : (xs : List ℕ) → length xs ≤ n → IsUtf8 xs → IfText (content after_u xs)
  unfolding content
  one_unit [] size u = tt
  one_unit (a ∷ []) size u = tt
  one_unit (a ∷ b ∷ []) size u = tt
  one_unit (a ∷ b ∷ c ∷ []) size u = tt
  one_unit (a ∷ b ∷ c ∷ d ∷ xs) size text =
      then_text (λ u. cond (is_high_surrogate u) (content (after_high u) xs) (cond (is_low_surrogate u) None (prepend (encode_utf8 u) (content plain xs)))) (code_unit a b c d)
      (λ u found.
      let is = unit_is a b c d u found in
      let rest = after_unit a b c d u xs is text in
      either_text (is_high_surrogate u) _ _ (λ high. high_unit u high xs (omega arith) rest)
      (λ high. either_text (is_low_surrogate u) None _ (λ low. tt)
      (λ low. prepend_text (encode_utf8 u) (content plain xs) (IsUtf8-encode u (scalar_unit u is.small high low)) (shorter xs (omega arith) rest))))

  one_escape : (xs : List ℕ) → length xs ≤ n → IsUtf8 xs → IfText (content after_backslash xs)
  unfolding content
  one_escape [] size u = tt
  one_escape (x ∷ xs) size u =
      either_text (x == 117) _ _ (λ e. let same = eqb-true x 117 e in one_unit xs (omega arith) (tail_text x xs (omega arith) u))
      (λ e. then_text (λ c. prepend (c ∷ []) (content plain xs)) (short_escape x)
      (λ c found.
      let low = escape_is x c found in
      prepend_text (c ∷ []) (content plain xs) (one_byte c low.1) (shorter xs (omega arith) (tail_text x xs low.0 u))))

high_test : (x n : ℕ) → 128 ≤ x → n < 128 → (x == n) ≡ false
high_test x n high low = grind (arith, tests)

high_below : (x : ℕ) → 128 ≤ x → nat_lt x 32 ≡ false
high_below x high = grind (arith, tests)

content_byte : (x : ℕ) (xs : List ℕ) → 128 ≤ x → content plain (x ∷ xs) ≡ prepend (x ∷ []) (content plain xs)
unfolding content
content_byte x xs high = rw (high_test x 34 high (omega arith), high_test x 92 high (omega arith), high_below x high) refl

later_high : (x : ℕ) (xs : List ℕ) → AllHigh (x ∷ xs) → AllHigh xs
later_high x xs h k below = h (suc k) (omega arith)

content_high : (hs rest : List ℕ) → AllHigh hs → content plain (hs ++ rest) ≡ prepend hs (content plain rest)
content_high [] rest h = sym (prepend_none (content plain rest))
content_high (x ∷ hs) rest h =
    content_byte x (hs ++ rest) (h 0 (omega arith)) ∙ ap (prepend (x ∷ [])) (content_high hs rest (later_high x hs h)) ∙ prepend_again (x ∷ []) hs (content plain rest)

content_at : (n : ℕ) → Contents n → (x : ℕ) (xs : List ℕ) → length xs ≤ n → IsUtf8 (x ∷ xs) → IfText (content plain (x ∷ xs))
unfolding content
content_at n shorter x xs size u = elim (cases_lt x 128) [
  | inl low ↦
      let rest = tail_text x xs low u in
      either_text (x == 34) (Some []) _ (λ e. IsUtf8-nil)
      (λ e. either_text (x == 92) _ _ (λ f. one_escape n shorter xs size rest) (λ f. either_text (nat_lt x 32) None _ (λ g. tt) (λ g. prepend_text (x ∷ []) (content plain xs) (one_byte x low) (shorter xs size rest))))
  | inr high ↦
      let c = begins x xs high u in
      subst (λ l. IfText (content plain l)) c.split
      (subst IfText (sym (content_high (encode c.char) c.rest c.high)) (prepend_text (encode c.char) (content plain c.rest) (IsUtf8-encode c.char c.scalar_is) (shorter c.rest (omega (arith, c.shorter)) c.text)))
]

contents : (n : ℕ) → Contents n
unfolding content
contents n [] size u = tt
contents zero (x ∷ xs) size u = absurd (omega arith)
contents (suc n) (x ∷ xs) size u = content_at n (contents n) x xs (omega arith) u

content_text : (xs : List ℕ) → IsUtf8 xs → IfText (content plain xs)
content_text xs u = contents (length xs) xs (omega arith) u

-- ---- tokens

abbrev pub IsText : Token → Type 0
IsText begin_object = ⊤
IsText end_object = ⊤
IsText begin_array = ⊤
IsText end_array = ⊤
IsText (key s) = IsUtf8 s
IsText (string s) = IsUtf8 s
IsText (number s) = ⊤
IsText (boolean b) = ⊤
IsText null = ⊤
IsText bad = ⊤

abbrev pub AreTexts : List Token → Type 0
AreTexts [] = ⊤
AreTexts (t ∷ ts) = IsText t × AreTexts ts

abbrev TextLexeme : Lexeme → Type 0
TextLexeme (token t) = IsText t
TextLexeme comma = ⊤
TextLexeme colon = ⊤

abbrev Lexemes : List Lexeme → Type 0
Lexemes [] = ⊤
Lexemes (l ∷ ls) = TextLexeme l × Lexemes ls

either_token : (b : Bool) (x y : Token) → IsText x → IsText y → IsText (cond b x y)
either_token true x y p q = p
either_token false x y p q = q

number_text : (t : List ℕ) (o : Option (List ℕ)) → IsText (number_before t o)
number_text t None = tt
number_text t (Some r) = either_token (ends_word r) _ bad tt tt

word_text : (t : List ℕ) → IsText (word t)
unfolding word
word_text t =
    either_token (head t == 116) _ _ (either_token _ (boolean true) bad tt tt) (either_token (head t == 102) _ _ (either_token _ (boolean false) bad tt tt)
    (either_token (head t == 110) _ _ (either_token _ null bad tt tt) (number_text t (after_number t))))

mark : (b : Bool) (x y : Lexeme) → TextLexeme x → TextLexeme y → TextLexeme (cond b x y)
mark true x y p q = p
mark false x y p q = q

marks : (x : ℕ) → TextLexeme (operator_lexeme x)
marks x =
    mark (x == 123) (token begin_object) _ tt (mark (x == 125) (token end_object) _ tt (mark (x == 91) (token begin_array) _ tt (mark (x == 93) (token end_array) _ tt (mark (x == 44) comma colon tt tt))))

told : (o : Option (List ℕ)) → IfText o → IsText (string_token o)
told None h = tt
told (Some s) h = h

byte : (m : Mode) (c : Class) (x : ℕ) (xs : List ℕ) (k : Mode → List Lexeme) → IfText (content plain xs) → ((n : Mode) → Lexemes (k n)) → Lexemes (lex_byte m c x xs k)
byte between quote x xs k s h = (told (content plain xs) s, h in_string)
byte between backslash x xs k s h = (tt, h in_word)
byte between operator x xs k s h = (marks x, h between)
byte between space x xs k s h = h between
byte between other x xs k s h = (word_text (x ∷ xs), h in_word)
byte in_word quote x xs k s h = h in_word
byte in_word backslash x xs k s h = h in_word
byte in_word operator x xs k s h = (marks x, h between)
byte in_word space x xs k s h = h between
byte in_word other x xs k s h = h in_word
byte in_string quote x xs k s h = h between
byte in_string backslash x xs k s h = h in_escape
byte in_string operator x xs k s h = h in_string
byte in_string space x xs k s h = h in_string
byte in_string other x xs k s h = h in_string
byte in_escape c x xs k s h = h in_string

high_byte : (m : Mode) (x : ℕ) (xs : List ℕ) (k : Mode → List Lexeme) → ((n : Mode) → Lexemes (k n)) → Lexemes (lex_byte m other x xs k)
high_byte between x xs k h = (word_text (x ∷ xs), h in_word)
high_byte in_word x xs k h = h in_word
high_byte in_string x xs k h = h in_string
high_byte in_escape x xs k h = h in_string

class_high : (x : ℕ) → 128 ≤ x → class x ≡ other
class_high x high =
    let no : (n : ℕ) → n < 128 → (x == n) ≡ false = λ n low. high_test x n high low in
    rw (no 34 (omega arith), no 92 (omega arith), no 123 (omega arith), no 125 (omega arith), no 91 (omega arith), no 93 (omega arith), no 58 (omega arith), no 44 (omega arith), no 32 (omega arith), no 9 (omega arith), no 10 (omega arith), no 13 (omega arith)) refl

lex_high : (hs rest : List ℕ) → AllHigh hs → ((m : Mode) → Lexemes (lex m rest)) → (m : Mode) → Lexemes (lex m (hs ++ rest))
unfolding lex
lex_high [] rest high h m = h m
lex_high (x ∷ hs) rest high h m =
    subst (λ c. Lexemes (lex_byte m c x (hs ++ rest) (λ next. lex next (hs ++ rest)))) (sym (class_high x (high 0 (omega arith))))
    (high_byte m x (hs ++ rest) (λ next. lex next (hs ++ rest)) (lex_high hs rest (later_high x hs high) h))

lex_texts : (n : ℕ) (xs : List ℕ) → length xs ≤ n → IsUtf8 xs → (m : Mode) → Lexemes (lex m xs)
unfolding lex
lex_texts n [] size u m = tt
lex_texts zero (x ∷ xs) size u m = absurd (omega arith)
lex_texts (suc n) (x ∷ xs) size u m = elim (cases_lt x 128) [
  | inl low ↦
      let rest = tail_text x xs low u in
      byte m (class x) x xs (λ next. lex next xs) (content_text xs rest) (lex_texts n xs (omega arith) rest)
  | inr high ↦
      let c = begins x xs high u in
      subst (λ l. Lexemes (lex m l)) c.split (lex_high (encode c.char) c.rest c.high (lex_texts n c.rest (omega (arith, c.shorter)) c.text) m)
]

allowed : (b : Bool) (t : Token) (k : Place → List Token) (next : Place) → IsText t → AreTexts (k next) → AreTexts (if_allowed b t k next)
allowed true t k next p q = (p, q)
allowed false t k next p q = (tt, tt)

placed : (p : Place) (t : Token) (b : Bool) (k : Place → List Token) → IsText t → ((n : Place) → AreTexts (k n)) → AreTexts (place_token p t b k)
placed p begin_object b k q h = allowed (may_begin p) begin_object k fresh tt (h fresh)
placed p end_object b k q h = allowed (may_close p) end_object k after_value tt (h after_value)
placed p begin_array b k q h = allowed (may_begin p) begin_array k fresh tt (h fresh)
placed p end_array b k q h = allowed (may_close p) end_array k after_value tt (h after_value)
placed p (key s) b k q h = (tt, tt)
placed p (string s) true k q h = allowed (may_begin p) (key s) k after_key q (h after_key)
placed p (string s) false k q h = allowed (may_begin p) (string s) k after_value q (h after_value)
placed p (number s) b k q h = allowed (may_begin p) (number s) k after_value tt (h after_value)
placed p (boolean v) b k q h = allowed (may_begin p) (boolean v) k after_value tt (h after_value)
placed p null b k q h = allowed (may_begin p) null k after_value tt (h after_value)
placed p bad b k q h = (tt, tt)

punctuated : (ls : List Lexeme) → Lexemes ls → (p : Place) → AreTexts (punctuate p ls)
unfolding punctuate
punctuated [] h fresh = tt
punctuated [] h after_value = tt
punctuated [] h after_comma = (tt, tt)
punctuated [] h after_key = (tt, tt)
punctuated (token t ∷ ls) h p = placed p t (begins_colon ls) (λ n. punctuate n ls) h.0 (punctuated ls h.1)
punctuated (comma ∷ ls) h fresh = (tt, tt)
punctuated (comma ∷ ls) h after_value = punctuated ls h.1 after_comma
punctuated (comma ∷ ls) h after_comma = (tt, tt)
punctuated (comma ∷ ls) h after_key = (tt, tt)
punctuated (colon ∷ ls) h fresh = (tt, tt)
punctuated (colon ∷ ls) h after_value = (tt, tt)
punctuated (colon ∷ ls) h after_comma = (tt, tt)
punctuated (colon ∷ ls) h after_key = punctuated ls h.1 fresh

pub tokens_are_texts : (text : List ℕ) → IsUtf8 text → AreTexts (tokens text)
tokens_are_texts text u = punctuated (lex between text) (lex_texts (length text) text (omega arith) u between) fresh
