-- The digits of small numbers.
use Rattle.std.proofs.Common.{◌≡◌, true, ℕ, ◌+◌, ◌/◌, ◌%◌, ◌<◌, ◌≤◌, List, [], ◌∷◌, ◌++◌, sym, ap, subst, ◌∙◌, arith}
use Rattle.std.proofs.lemmas.Fmt.{decimal_digit, decimal_step, IsAscii-decimal}
use Rattle.std.proofs.lemmas.Str.{is_utf8-from_IsUtf8, IsUtf8-from_ascii}
use Rattle.std.specs.Fmt.{decimal}
use Rattle.std.specs.Str.{is_utf8}
use Rattle.json.specs.Print.{IsNumber}
use Rattle.json.proofs.Printed.Decimals.{IsNumber-decimal}

pub one_digit : (n : ℕ) → n < 10 → (48 + n % 10) ∷ [] ≡ decimal n
one_digit n small =
    let same : n % 10 ≡ n = omega arith in
    rw same (sym (decimal_digit n small))

pub two_digits : (n : ℕ) → 10 ≤ n → n < 100 → (48 + n / 10 % 10) ∷ (48 + n % 10) ∷ [] ≡ decimal n
two_digits n large small =
    sym (decimal_step n large (omega arith) ∙ ap (λ ds. ds ++ ((48 + n % 10) ∷ [])) (sym (one_digit (n / 10) (omega arith))))

pub three_digits : (n : ℕ) → 100 ≤ n → n < 256 → (48 + n / 100) ∷ (48 + n / 10 % 10) ∷ (48 + n % 10) ∷ [] ≡ decimal n
three_digits n large small =
    let first : n / 10 / 10 % 10 ≡ n / 100 = omega arith in
    let front : (48 + n / 100) ∷ (48 + n / 10 % 10) ∷ [] ≡ decimal (n / 10) = rw (← first) (two_digits (n / 10) (omega arith) (omega arith)) in
    sym (decimal_step n (omega arith) (omega arith) ∙ ap (λ ds. ds ++ ((48 + n % 10) ∷ [])) (sym front))

pub decimal_is_text : (s : List ℕ) (n : ℕ) → n < 256 → s ≡ decimal n → is_utf8 s ≡ true
decimal_is_text s n small is = rw is (is_utf8-from_IsUtf8 (decimal n) (IsUtf8-from_ascii (decimal n) (IsAscii-decimal n (omega arith))))

pub decimal_is_number : (s : List ℕ) (n : ℕ) → n < 256 → s ≡ decimal n → IsNumber s
decimal_is_number s n small is = subst IsNumber (sym is) (IsNumber-decimal n (omega arith))
