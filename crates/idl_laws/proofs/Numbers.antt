-- Decimal numerals, as they are printed and read.
use Rattle.std.proofs.Common.{◌≡◌, ℕ, suc, ◌+◌, ◌*◌, ◌^◌, ◌/◌, ◌%◌, ◌≤◌, ◌<◌, true, false, cond, eqb, ltb, ◌⊎◌, inl, inr, ⊎_elim, length, [], ◌∷◌, ◌++◌, take, Some, refl, sym, ap, subst, ◌∙◌, arith}
use Rattle.std.specs.Prelude.{ℤ, pos, negsuc, decimal}
use Rattle.std.specs.Fmt.{signed_decimal}
use Rattle.std.specs.Char.{is_ascii_alphabetic, is_ascii_digit}
use Rattle.std.specs.List.{prefix_len, fold}
use Rattle.std.proofs.Math.Seq.{take-append_seam}
use Rattle.std.proofs.lemmas.Bool.{eq-eqb, ne_eqb, le-leb, ltb-true, and_parts, and_from, cases_eq}
use Rattle.std.proofs.lemmas.Bool.Decides.{nat_tests}
use Rattle.std.proofs.lemmas.Fmt.{decimal_by_steps}
use Rattle.xt_shapes.specs.Lists.{all}
use Rattle.xt_shapes.specs.Typing.{in_range}
use Rattle.idl_tokens.specs.declared.tokens.TokenKind.TheVariants.{Number, Bad}
use Rattle.idl_tokens.specs.Classes.{Text}
use Rattle.idl_tokens.specs.Tokens.{a_token, token}
use Rattle.idl_tokens.specs.Numerals.{is_plain_numeral, is_numeral, digit, in_base, plain_value, magnitude, is_negative, unsigned_in, signed_32}
use Rattle.idl_laws.proofs.Fronts.{Front, ends, is_run, is_solid, skip_solid, some_octet, run_len}

-- ---- what a numeral's octets are

-- digits of a number, of which only zero's begin with `0`
record Digits (n : ℕ) (ds : Text) : Type 0 where
  first : ℕ
  others : Text
  are : ds ≡ first ∷ others
  begins : is_ascii_digit first ≡ true
  go_on : all is_ascii_digit others ≡ true
  worth : in_base 10 (first ∷ others) ≡ n
  lead : (eqb first 48 ≡ false) ⊎ ((first ∷ others ≡ 48 ∷ []) × (n ≡ 0))

a_digit : (n : ℕ) → n < 10 → is_ascii_digit (48 + n) ≡ true
a_digit n h = grind (arith, nat_tests)

digit_worth : (n : ℕ) → n < 10 → digit (48 + n) ≡ n
digit_worth n h = rw (le-leb (48 + n) 57 (omega arith)) (omega arith)

one_digit : (n : ℕ) → n < 10 → Digits n ((48 + n) ∷ [])
one_digit n h = record {
  first = 48 + n;
  others = [];
  are = refl;
  begins = a_digit n h;
  go_on = refl;
  worth = rw (digit_worth n h) (omega arith);
  lead = ⊎_elim (λ e. inr (rw e refl, e)) (λ e. inl (ne_eqb (48 + n) 48 (λ f. e (omega arith)))) (cases_eq n 0);
}

in_base_more : (ds : Text) (a b : ℕ) → fold (λ n c. 10 * n + digit c) a (ds ++ b ∷ []) ≡ 10 * fold (λ n c. 10 * n + digit c) a ds + digit b
in_base_more [] a b = refl
in_base_more (d ∷ ds) a b = in_base_more ds (10 * a + digit d) b

all_more : (ds : Text) (b : ℕ) → all is_ascii_digit ds ≡ true → is_ascii_digit b ≡ true → all is_ascii_digit (ds ++ b ∷ []) ≡ true
all_more [] b h e = rw e refl
all_more (d ∷ ds) b h e =
    let both = and_parts (is_ascii_digit d) (all is_ascii_digit ds) h in
    and_from (is_ascii_digit d) (all is_ascii_digit (ds ++ b ∷ [])) both.0 (all_more ds b both.1 e)

more_digits : (n : ℕ) (ds : Text) → 10 ≤ n → Digits (n / 10) ds → Digits n (ds ++ (48 + n % 10) ∷ [])
more_digits n ds some h =
    let small : n % 10 < 10 = omega arith in
    record {
      first = h.first;
      others = h.others ++ (48 + n % 10) ∷ [];
      are = ap (λ (t : Text). t ++ (48 + n % 10) ∷ []) h.are;
      begins = h.begins;
      go_on = all_more h.others (48 + n % 10) h.go_on (a_digit (n % 10) small);
      worth = in_base_more (h.first ∷ h.others) 0 (48 + n % 10) ∙ rw (h.worth, digit_worth (n % 10) small) (omega arith);
      lead = ⊎_elim inl (λ e. absurd (omega (arith, e.1))) h.lead;
    }

decimal_digits : (n : ℕ) → n < 2 ^ 64 → Digits n (decimal n)
decimal_digits = decimal_by_steps Digits one_digit more_digits

-- ---- a numeral as a token

run_of_digit : (b : ℕ) → is_ascii_digit b ≡ true → is_run b ≡ true
run_of_digit b h = rw h refl

all_run_of_digits : (ds : Text) → all is_ascii_digit ds ≡ true → all is_run ds ≡ true
all_run_of_digits [] h = refl
all_run_of_digits (d ∷ ds) h =
    let both = and_parts (is_ascii_digit d) (all is_ascii_digit ds) h in
    and_from (is_run d) (all is_run ds) (run_of_digit d both.0) (all_run_of_digits ds both.1)

digits_len : (ds : Text) → all is_ascii_digit ds ≡ true → prefix_len is_ascii_digit ds ≡ length ds
digits_len [] h = refl
digits_len (d ∷ ds) h =
    let both = and_parts (is_ascii_digit d) (all is_ascii_digit ds) h in
    rw (both.0, digits_len ds both.1) (omega arith)

is_plain : (d : ℕ) (ds : Text) → is_ascii_digit d ≡ true → all is_ascii_digit ds ≡ true → eqb d 48 ≡ false → is_plain_numeral (d ∷ ds) ≡ true
is_plain d ds first others lead =
    let len : 0 + (1 + prefix_len is_ascii_digit ds) ≡ suc (length ds) = rw (digits_len ds others) (omega arith) in
    rw (lead, first) (eq-eqb _ _ len)

plain_worth : (d : ℕ) (ds : Text) → eqb d 48 ≡ false → plain_value (d ∷ ds) ≡ in_base 10 (d ∷ ds)
plain_worth d ds lead = rw lead refl

plain_digits : {n : ℕ} {ds : Text} (h : Digits n ds) → is_plain_numeral (h.first ∷ h.others) ≡ true
plain_digits h = ⊎_elim (λ e. is_plain h.first h.others h.begins h.go_on e) (λ e. subst (λ (t : Text). is_plain_numeral t ≡ true) (sym e.0) refl) h.lead

worth_digits : {n : ℕ} {ds : Text} (h : Digits n ds) → plain_value (h.first ∷ h.others) ≡ n
worth_digits h = ⊎_elim (λ e. plain_worth h.first h.others e ∙ h.worth) (λ e. subst (λ (t : Text). plain_value t ≡ 0) (sym e.0) refl ∙ sym e.1) h.lead

not_letter : (d : ℕ) → is_ascii_digit d ≡ true → is_ascii_alphabetic d ≡ false
not_letter d h = grind (arith, nat_tests)

not_sign : (d : ℕ) → is_ascii_digit d ≡ true → eqb d 45 ≡ false
not_sign d h = grind (arith, nat_tests)

solid_digit : (d : ℕ) → is_ascii_digit d ≡ true → is_solid d ≡ true
solid_digit d h = grind (arith, nat_tests)

digits_token : (d : ℕ) (z : Text) → is_ascii_digit d ≡ true → token (d ∷ z) ≡ a_token (cond (is_numeral (take (1 + prefix_len is_run z) (d ∷ z))) Number Bad) (1 + prefix_len is_run z)
unfolding token
digits_token d z h = rw (some_octet (length z), not_letter d h, h) refl

signed_token : (d : ℕ) (z : Text) → is_ascii_digit d ≡ true → token (45 ∷ d ∷ z) ≡ a_token (cond (is_numeral (take (1 + prefix_len is_run (d ∷ z)) (45 ∷ d ∷ z))) Number Bad) (1 + prefix_len is_run (d ∷ z))
unfolding token
signed_token d z h = rw (some_octet (suc (length z)), h) refl

plain_is : (d : ℕ) (ds : Text) → is_ascii_digit d ≡ true → is_numeral (d ∷ ds) ≡ is_plain_numeral (d ∷ ds)
unfolding is_numeral
plain_is d ds h = rw (not_sign d h) refl

signed_is : (d : ℕ) (ds : Text) → is_numeral (45 ∷ d ∷ ds) ≡ is_plain_numeral (d ∷ ds)
unfolding is_numeral
signed_is d ds = refl

-- the octets up to the end of a run
run_taken : (b : ℕ) (ds rest : Text) → all is_run ds ≡ true → ends rest ≡ true → take (1 + prefix_len is_run (ds ++ rest)) (b ∷ ds ++ rest) ≡ b ∷ ds
run_taken b ds rest h over =
    let e : 1 + prefix_len is_run (ds ++ rest) ≡ suc (length ds) = rw (run_len ds rest h over) (omega arith) in
    rw e (ap (λ (t : Text). b ∷ t) (take-append_seam ds rest))

run_counted : (ds rest : Text) → all is_run ds ≡ true → ends rest ≡ true → 1 + prefix_len is_run (ds ++ rest) ≡ suc (length ds)
run_counted ds rest h over = rw (run_len ds rest h over) (omega arith)

unsigned_front : {n : ℕ} {ds : Text} (h : Digits n ds) (rest : Text) → ends rest ≡ true → Front Number (h.first ∷ h.others) (h.first ∷ h.others ++ rest) rest
unsigned_front h rest over =
    let run = all_run_of_digits h.others h.go_on in
    let read : token (h.first ∷ h.others ++ rest) ≡ a_token Number (suc (length h.others)) =
    digits_token h.first (h.others ++ rest) h.begins ∙ rw (run_taken h.first h.others rest run over, plain_is h.first h.others h.begins, plain_digits h, run_counted h.others rest run over) refl in
    record { at = skip_solid h.first (h.others ++ rest) (solid_digit h.first h.begins); read = read }

negative_front : {n : ℕ} {ds : Text} (h : Digits n ds) (rest : Text) → ends rest ≡ true → Front Number (45 ∷ h.first ∷ h.others) (45 ∷ h.first ∷ h.others ++ rest) rest
negative_front h rest over =
    let run = and_from (is_run h.first) (all is_run h.others) (run_of_digit h.first h.begins) (all_run_of_digits h.others h.go_on) in
    let read : token (45 ∷ h.first ∷ h.others ++ rest) ≡ a_token Number (suc (suc (length h.others))) =
    signed_token h.first (h.others ++ rest) h.begins ∙ rw (run_taken 45 (h.first ∷ h.others) rest run over, signed_is h.first h.others, plain_digits h, run_counted (h.first ∷ h.others) rest run over) refl in
    record { at = skip_solid 45 (h.first ∷ h.others ++ rest) refl; read = read }

pub number_front : (n : ℕ) (rest : Text) → n < 2 ^ 64 → ends rest ≡ true → Front Number (decimal n) (decimal n ++ rest) rest
number_front n rest small over =
    let h = decimal_digits n small in
    subst (λ (t : Text). Front Number t (t ++ rest) rest) (sym h.are) (unsigned_front h rest over)

below_64 : (n : ℕ) → n < 2147483648 → n < 2 ^ 64
below_64 n h = omega arith

fits_32 : (n : ℕ) → ltb n 2147483648 ≡ true → n < 2147483648
fits_32 n h = ltb-true n 2147483648 h

pub signed_front : (n : ℤ) (rest : Text) → in_range 4 true n ≡ true → ends rest ≡ true → Front Number (signed_decimal n) (signed_decimal n ++ rest) rest
signed_front (pos n) rest fits over = number_front n rest (below_64 n (fits_32 n fits)) over
signed_front (negsuc n) rest fits over =
    let below = fits_32 n fits in
    let small : suc n < 2 ^ 64 = omega arith in
    let h = decimal_digits (suc n) small in
    subst (λ (t : Text). Front Number (45 ∷ t) (45 ∷ t ++ rest) rest) (sym h.are) (negative_front h rest over)

-- ---- a numeral's number

positive : {n : ℕ} {ds : Text} (h : Digits n ds) → is_negative (h.first ∷ h.others) ≡ false
positive h = not_sign h.first h.begins

magnitude_plain : {n : ℕ} {ds : Text} (h : Digits n ds) → magnitude (h.first ∷ h.others) ≡ n
unfolding magnitude
magnitude_plain h = rw (not_sign h.first h.begins) (worth_digits h)

magnitude_signed : {n : ℕ} {ds : Text} (h : Digits n ds) → magnitude (45 ∷ h.first ∷ h.others) ≡ n
unfolding magnitude
magnitude_signed h = worth_digits h

magnitude_decimal : (n : ℕ) → n < 2 ^ 64 → magnitude (decimal n) ≡ n
magnitude_decimal n small = let h = decimal_digits n small in rw h.are (magnitude_plain h)

magnitude_negative : (n : ℕ) → n < 2 ^ 64 → magnitude (45 ∷ decimal n) ≡ n
magnitude_negative n small = let h = decimal_digits n small in rw h.are (magnitude_signed h)

decimal_positive : (n : ℕ) → n < 2 ^ 64 → is_negative (decimal n) ≡ false
decimal_positive n small = let h = decimal_digits n small in rw h.are (positive h)

pub unsigned_of_decimal : (low high n : ℕ) → n < 2 ^ 64 → low ≤ n → n ≤ high → unsigned_in low high (decimal n) ≡ Some n
unfolding unsigned_in
unsigned_of_decimal low high n small above below =
    rw (decimal_positive n small, magnitude_decimal n small, le-leb low n above, le-leb n high below) refl

pub signed_of_decimal : (n : ℤ) → in_range 4 true n ≡ true → signed_32 (signed_decimal n) ≡ Some n
unfolding signed_32
signed_of_decimal (pos n) fits =
    let below = fits_32 n fits in
    rw (decimal_positive n (below_64 n below), magnitude_decimal n (below_64 n below), le-leb n 2147483647 (omega arith)) refl
signed_of_decimal (negsuc n) fits =
    let below = fits_32 n fits in
    rw (magnitude_negative (suc n) (omega arith), le-leb (suc n) 2147483648 (omega arith)) refl
