-- The token at the front of a text: what is read, and what is left.
use Rattle.std.proofs.Common.{◌≡◌, ℕ, zero, suc, ◌+◌, ◌-◌, ◌≤◌, Bool, true, false, not, ◌&&◌, ◌||◌, eqb, leb, length, List, [], ◌∷◌, ◌++◌, refl, ⊎_elim, sym, ap, subst, ◌∙◌, arith}
use Rattle.std.proofs.Math.Seq.{take-append_seam, drop-append_seam}
use Rattle.std.proofs.lemmas.Bool.{not-true, false≢true, cond_both, eqb-true, or_cases, and_parts, and_from}
use Rattle.std.proofs.lemmas.Bool.Decides.{nat_tests}
use Rattle.std.specs.Char.{is_ascii_alphanumeric, is_ascii_alphabetic, is_ascii_digit}
use Rattle.std.specs.List.{prefix_len}
use Rattle.xt_shapes.specs.Lists.{all}
use Rattle.node_rules.specs.Names.{is_identifier, is_word as is_name_octet}
use Rattle.idl_tokens.specs.declared.tokens.TokenKind.{TokenKind}
use Rattle.idl_tokens.specs.declared.tokens.TokenKind.TheVariants.{Word, Character, Mark, End}
use Rattle.idl_tokens.specs.declared.tokens.Token.{Token}
use Rattle.idl_tokens.specs.Classes.{Text, is_printable}
use Rattle.idl_tokens.specs.Tokens.{a_token, blank, skip_from, skip, token, kind_at, spelling_at, after, is_mark}
use Rattle.idl_tokens.proofs.Blanks.{skip_stops}

-- a token of that kind and spelling stands first, behind blanks, and this text follows it
pub record Front (kind : TokenKind) (s text rest : Text) : Type 0 where
  pub at : skip text ≡ s ++ rest
  pub read : token (s ++ rest) ≡ a_token kind (length s)

-- ---- what a front shows

pub front_kind : {kind : TokenKind} {s text rest : Text} → Front kind s text rest → kind_at text ≡ kind
front_kind f = ap (λ (t : Text). (token t).kind) f.at ∙ ap (λ (t : Token). t.kind) f.read

pub front_spelling : {kind : TokenKind} {s text rest : Text} → Front kind s text rest → spelling_at text ≡ s
front_spelling {kind} {s} {text} {rest} f = rw (f.at, f.read) (take-append_seam s rest)

pub front_after : {kind : TokenKind} {s text rest : Text} → Front kind s text rest → after text ≡ rest
front_after {kind} {s} {text} {rest} f = rw (f.at, f.read) (drop-append_seam s rest)

-- a front is seen wherever the same text follows the blanks
pub front_at : {kind : TokenKind} {s piece rest : Text} (text : Text) → skip text ≡ skip piece → Front kind s piece rest → Front kind s text rest
front_at text same f = record { at = same ∙ f.at; read = f.read }

-- ---- blanks

skip_from_short : (n : ℕ) (text : Text) → length (skip_from n text) ≤ length text
skip_from_short n [] = omega arith
skip_from_short (suc n) (b ∷ text) = omega (arith, skip_from_short n text)
skip_from_short zero (b ∷ text) =
    cond_both (eqb (blank (b ∷ text)) 0) (b ∷ text) (skip_from (blank (b ∷ text) - 1) text) (λ t. length t ≤ suc (length text)) (λ _. omega arith) (λ _. omega (arith, skip_from_short (blank (b ∷ text) - 1) text))

pub skip_short : (text : Text) → length (skip text) ≤ length text
unfolding skip
skip_short text = skip_from_short 0 text

pub skip_blank : (text : Text) → skip (32 ∷ text) ≡ skip text
unfolding skip blank
skip_blank text = refl

pub skip_line : (text : Text) → skip (10 ∷ text) ≡ skip text
unfolding skip blank
skip_line text = refl

-- what begins with a token is not passed over
pub skip_none : {kind : TokenKind} {s rest : Text} → Front kind s (s ++ rest) rest → skip (s ++ rest) ≡ s ++ rest
skip_none f = f.at

-- ---- tokens

-- a letter, a digit or `_`
abbrev pub is_run : ℕ → Bool
is_run b = is_ascii_alphanumeric b || eqb b 95

-- a word or number ends before this text
abbrev pub ends : Text → Bool
ends [] = true
ends (b ∷ z) = not (is_run b)

pub some_octet : (n : ℕ) → eqb (suc n) 0 ≡ false
some_octet n = grind (arith, nat_tests)

-- an octet that begins no blank and no comment
abbrev pub is_solid : ℕ → Bool
is_solid b = not (eqb b 32 || eqb b 9 || eqb b 10 || eqb b 13) && not (eqb b 47)

blank_none : (b : ℕ) (z : Text) (x y : Bool) → (eqb b 32 || eqb b 9 || eqb b 10 || eqb b 13) ≡ x → eqb b 47 ≡ y → (not x && not y) ≡ true → eqb (blank (b ∷ z)) 0 ≡ true
unfolding blank
blank_none b z true y ex ey h = absurd (false≢true h)
blank_none b z false true ex ey h = absurd (false≢true h)
blank_none b z false false ex ey h = rw (ex, ey) refl

pub skip_solid : (b : ℕ) (z : Text) → is_solid b ≡ true → skip (b ∷ z) ≡ b ∷ z
skip_solid b z h = skip_stops (b ∷ z) (blank_none b z _ _ refl refl h)

-- ---- words

run_from : (d l u c : Bool) → (((l || u) || d) || c) ≡ true → (((d || l) || u) || c) ≡ true
run_from true l u c h = refl
run_from false true u c h = refl
run_from false false true c h = refl
run_from false false false c h = h

run_of : (o : ℕ) → is_name_octet o ≡ true → is_run o ≡ true
run_of o h = run_from (leb 48 o && leb o 57) (leb 65 o && leb o 90) (leb 97 o && leb o 122) (eqb o 95) h

all_run : (w : Text) → all is_name_octet w ≡ true → all is_run w ≡ true
all_run [] h = refl
all_run (o ∷ w) h =
    let both = and_parts (is_name_octet o) (all is_name_octet w) h in
    and_from (is_run o) (all is_run w) (run_of o both.0) (all_run w both.1)

pub run_len : (w rest : Text) → all is_run w ≡ true → ends rest ≡ true → prefix_len is_run (w ++ rest) ≡ length w
run_len [] [] h over = refl
run_len [] (b ∷ z) h over = rw (not-true _ over) refl
run_len (o ∷ w) rest h over =
    let both = and_parts (is_run o) (all is_run w) h in
    rw (both.0, run_len w rest both.1 over) (omega arith)

word_token : (b : ℕ) (z : Text) → is_ascii_alphabetic b ≡ true → token (b ∷ z) ≡ a_token Word (1 + prefix_len is_run z)
unfolding token
word_token b z letter = rw (some_octet (length z), letter) refl

letter_solid : (b : ℕ) → is_ascii_alphabetic b ≡ true → is_solid b ≡ true
letter_solid b letter = grind (arith, nat_tests)

pub word_front : (w rest : Text) → is_identifier w ≡ true → ends rest ≡ true → Front Word w (w ++ rest) rest
word_front [] rest is_word over = absurd (false≢true is_word)
word_front (b ∷ w) rest is_word over =
    let both = and_parts (is_ascii_alphabetic b) (all is_name_octet w) is_word in
    let len : 1 + prefix_len is_run (w ++ rest) ≡ suc (length w) = rw (run_len w rest (all_run w both.1) over) (omega arith) in
    record { at = skip_solid b (w ++ rest) (letter_solid b both.0); read = word_token b (w ++ rest) both.0 ∙ ap (a_token Word) len }

-- ---- marks

abbrev is_one_of : List ℕ → ℕ → Bool
is_one_of [] b = false
is_one_of (k ∷ ks) b = is_one_of ks b || eqb b k

abbrev Each : (ℕ → Type 0) → List ℕ → Type 0
Each P [] = Unit {0}
Each P (k ∷ ks) = P k × Each P ks

one_of : (P : ℕ → Type 0) (ks : List ℕ) (b : ℕ) → Each P ks → is_one_of ks b ≡ true → P b
one_of P [] b each h = absurd (false≢true h)
one_of P (k ∷ ks) b each h = ⊎_elim (one_of P ks b each.1) (λ e. subst P (sym (eqb-true b k e)) each.0) (or_cases (is_one_of ks b) (eqb b k) h)

-- an octet that only the test for a mark takes
abbrev is_plain : ℕ → Bool
is_plain b = (is_solid b && (not (is_ascii_alphabetic b) && not (is_ascii_digit b))) && ((not (eqb b 45) && not (eqb b 39)) && ((not (eqb b 34) && not (eqb b 58)) && is_mark b))

abbrev IsPlain : ℕ → Type 0
IsPlain b = not (eqb b 58) ≡ true → is_plain b ≡ true

plain : true ≡ true → true ≡ true
plain e = refl

mark_plain : (b : ℕ) → (is_mark b && not (eqb b 58)) ≡ true → is_plain b ≡ true
mark_plain b h =
    let both = and_parts (is_mark b) (not (eqb b 58)) h in
    one_of IsPlain (64 ∷ 58 ∷ 93 ∷ 91 ∷ 62 ∷ 60 ∷ 44 ∷ 41 ∷ 40 ∷ 59 ∷ 125 ∷ 123 ∷ []) b
    (plain, ((λ e. absurd (false≢true e)), (plain, (plain, (plain, (plain, (plain, (plain, (plain, (plain, (plain, (plain, tt)))))))))))) both.0 both.1

-- a mark other than a colon
pub mark_front : (b : ℕ) (rest : Text) → (is_mark b && not (eqb b 58)) ≡ true → Front Mark (b ∷ []) (b ∷ rest) rest
unfolding token
mark_front b rest is =
    let p = mark_plain b is in
    let one = and_parts (is_solid b && (not (is_ascii_alphabetic b) && not (is_ascii_digit b))) ((not (eqb b 45) && not (eqb b 39)) && ((not (eqb b 34) && not (eqb b 58)) && is_mark b)) p in
    let solid = and_parts (is_solid b) (not (is_ascii_alphabetic b) && not (is_ascii_digit b)) one.0 in
    let word = and_parts (not (is_ascii_alphabetic b)) (not (is_ascii_digit b)) solid.1 in
    let two = and_parts (not (eqb b 45) && not (eqb b 39)) ((not (eqb b 34) && not (eqb b 58)) && is_mark b) one.1 in
    let sign = and_parts (not (eqb b 45)) (not (eqb b 39)) two.0 in
    let three = and_parts (not (eqb b 34) && not (eqb b 58)) (is_mark b) two.1 in
    let quote = and_parts (not (eqb b 34)) (not (eqb b 58)) three.0 in
    record { at = skip_solid b rest solid.0; read = rw (some_octet (length rest), not-true _ word.0, not-true _ word.1, not-true _ sign.0, not-true _ sign.1, not-true _ quote.0, three.1, not-true _ quote.1) refl }

abbrev pub begins_colon : Text → Bool
begins_colon [] = false
begins_colon (b ∷ z) = eqb b 58

pub colon_front : (rest : Text) → begins_colon rest ≡ false → Front Mark (58 ∷ []) (58 ∷ rest) rest
unfolding token
colon_front [] one = record { at = skip_solid 58 [] refl; read = refl }
colon_front (b ∷ z) one = record { at = skip_solid 58 (b ∷ z) refl; read = rw (some_octet (suc (length z)), one) refl }

pub colons_front : (rest : Text) → Front Mark (58 ∷ 58 ∷ []) (58 ∷ 58 ∷ rest) rest
unfolding token
colons_front rest = record { at = skip_solid 58 (58 ∷ rest) refl; read = rw (some_octet (suc (length rest))) refl }

regroup : (x y z : Bool) → (x && (y && z)) ≡ true → ((x && y) && z) ≡ true
regroup true y z h = h
regroup false y z h = h

pub character_front : (b : ℕ) (rest : Text) → (is_printable b && (not (eqb b 39) && not (eqb b 92))) ≡ true → Front Character (39 ∷ b ∷ 39 ∷ []) (39 ∷ b ∷ 39 ∷ rest) rest
unfolding token
character_front b rest is = record { at = skip_solid 39 (b ∷ 39 ∷ rest) refl; read = rw (some_octet (suc (suc (length rest))), regroup (is_printable b) (not (eqb b 39)) (not (eqb b 92)) is) refl }

pub end_front : (text : Text) → skip text ≡ [] → Front End [] text []
unfolding token
end_front text over = record { at = over; read = refl }
