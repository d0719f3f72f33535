-- The text of a number is UTF-8.
use Rattle.std.proofs.Common.{◌≡◌, ℕ, suc, ◌+◌, ◌<◌, Bool, true, false, cond, ◌||◌, ◌==◌, List, [], ◌∷◌, drop, Option, Some, None, option_and_then, IsUtf8, inl, inr, refl, subst, arith, tests}
use Rattle.std.specs.Prelude.{⊤}
use Rattle.std.specs.List.{prefix_len}
use Rattle.std.specs.Char.{is_ascii_digit}
use Rattle.std.proofs.lemmas.Bool.{eqb-true, or_cases}
use Rattle.std.proofs.lemmas.Str.{IsUtf8-append, IsUtf8-nil}
use Rattle.json.specs.Word.{head, after_digits, after_minus, after_sign, after_whole, after_fraction, after_exponent, after_number}
use Rattle.json.specs.Print.{IsNumber}
use Rattle.dynamic_data.proofs.OfNumbers.Strings.{one_byte}

-- where what is left is a text, so is the whole
abbrev Back : List ℕ → Option (List ℕ) → Type 0
Back t None = ⊤
Back t (Some r) = IsUtf8 r → IsUtf8 t

further : (t u : List ℕ) (o : Option (List ℕ)) → (IsUtf8 u → IsUtf8 t) → Back u o → Back t o
further t u None f h = tt
further t u (Some r) f h = λ r_is. f (h r_is)

either : (t : List ℕ) (b : Bool) (x y : Option (List ℕ)) → (b ≡ true → Back t x) → Back t y → Back t (cond b x y)
either t true x y p q = p refl
either t false x y p q = q

then : (t : List ℕ) (f : List ℕ → Option (List ℕ)) → ((u : List ℕ) → Back u (f u)) → (o : Option (List ℕ)) → Back t o → Back t (option_and_then f o)
then t f g None h = tt
then t f g (Some r) h = further t r (f r) h (g r)

with_byte : (x : ℕ) (xs : List ℕ) → x < 128 → IsUtf8 xs → IsUtf8 (x ∷ xs)
with_byte x xs low u = IsUtf8-append (x ∷ []) xs (one_byte x low) u

first : (n : ℕ) (t : List ℕ) → n < 128 → (head t == n) ≡ true → IsUtf8 (drop 1 t) → IsUtf8 t
first n [] low e u = IsUtf8-nil
first n (x ∷ xs) low e u = let same : x ≡ n = eqb-true x n e in with_byte x xs (omega arith) u

either_first : (n m : ℕ) (t : List ℕ) → n < 128 → m < 128 → ((head t == n) || (head t == m)) ≡ true → IsUtf8 (drop 1 t) → IsUtf8 t
either_first n m t p q e u = elim (or_cases (head t == n) (head t == m) e) [ inl a ↦ first n t p a u | inr b ↦ first m t q b u ]

optional : (b : Bool) (t : List ℕ) → (b ≡ true → IsUtf8 (drop 1 t) → IsUtf8 t) → IsUtf8 (cond b (drop 1 t) t) → IsUtf8 t
optional true t f u = f refl u
optional false t f u = u

low_digit : (x : ℕ) → is_ascii_digit x ≡ true → x < 128
low_digit x h = grind (arith, tests)

run_at : (b : Bool) (x n m : ℕ) (xs : List ℕ) → m ≡ suc n → (b ≡ true → x < 128) → (IsUtf8 (drop n xs) → IsUtf8 xs) → IsUtf8 (drop (cond b m 0) (x ∷ xs)) → IsUtf8 (x ∷ xs)
run_at true x n m xs is low f u = with_byte x xs (low refl) (f (subst (λ k. IsUtf8 (drop k (x ∷ xs))) is u))
run_at false x n m xs is low f u = u

run : (t : List ℕ) → IsUtf8 (drop (prefix_len is_ascii_digit t) t) → IsUtf8 t
run [] u = u
run (x ∷ xs) u = run_at (is_ascii_digit x) x (prefix_len is_ascii_digit xs) (1 + prefix_len is_ascii_digit xs) xs (omega arith) (low_digit x) (run xs) u

digits : (t : List ℕ) → Back t (after_digits t)
digits t = either t (prefix_len is_ascii_digit t == 0) None _ (λ e. tt) (run t)

minus : (t : List ℕ) → IsUtf8 (after_minus t) → IsUtf8 t
minus t = optional (head t == 45) t (first 45 t (omega arith))

sign : (t : List ℕ) → IsUtf8 (after_sign t) → IsUtf8 t
sign t = optional _ t (either_first 45 43 t (omega arith) (omega arith))

whole : (t : List ℕ) → Back t (after_whole t)
whole t = either t (head t == 48) (Some (drop 1 t)) _ (first 48 t (omega arith)) (digits t)

fraction : (t : List ℕ) → Back t (after_fraction t)
fraction t = either t (head t == 46) _ (Some t) (λ e. further t (drop 1 t) _ (first 46 t (omega arith) e) (digits (drop 1 t))) (λ u. u)

exponent : (t : List ℕ) → Back t (after_exponent t)
exponent t =
    let u = drop 1 t in
    either t _ _ (Some t) (λ e. further t u _ (either_first 101 69 t (omega arith) (omega arith) e) (further u (after_sign u) _ (sign u) (digits (after_sign u)))) (λ u. u)

number_back : (t : List ℕ) → Back t (after_number t)
unfolding after_number
number_back t = then t after_exponent exponent _ (then t after_fraction fraction _ (further t (after_minus t) _ (minus t) (whole (after_minus t))))

pub number_utf8 : (s : List ℕ) → IsNumber s → IsUtf8 s
number_utf8 s is = subst (Back s) is (number_back s) IsUtf8-nil
