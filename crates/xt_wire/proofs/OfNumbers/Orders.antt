-- The numbers of octets, by byteorder's words and by those of the definitions.
use Rattle.std.proofs.Common.{◌≡◌, refl, sym, ap, ◌∙◌, ℕ, zero, suc, ◌+◌, ◌*◌, ◌^◌, List, [], ◌∷◌, ◌++◌, length, drop, get_or, reverse, arith, drop-cons, length-drop}
use Rattle.std.proofs.lemmas.List.{length-reverse, reverse-append}
use Rattle.std.proofs.Math.Nat.{pow-suc}
use Rattle.byteorder.specs.Endian.{big_from, little_from, big_number, little_number}
use Rattle.xcdr_model.specs.Numbers.{low_number}

none_left : (n : ℕ) (xs : List ℕ) → n ≡ length xs → drop n xs ≡ []
none_left zero [] e = refl
none_left zero (x ∷ xs) e = absurd (omega arith)
none_left (suc n) [] e = absurd (omega arith)
none_left (suc n) (x ∷ xs) e = none_left n xs (omega arith)

low_from : (n i : ℕ) (xs : List ℕ) → i + n ≡ length xs → little_from i n xs ≡ low_number (drop i xs)
low_from zero i xs e = rw (none_left i xs (omega arith)) refl
low_from (suc n) i xs e = rw (drop-cons xs i 0 (omega arith)) (ap (λ (k : ℕ). get_or xs i 0 + 256 * k) (low_from n (suc i) xs (omega arith)))

shifted : (x n : ℕ) → x * 256 ^ suc n ≡ 256 * (x * 256 ^ n)
shifted x n = rw (pow-suc 256 n) (grind arith)

-- one octet more at the high end
low_more : (ys : List ℕ) (x : ℕ) → low_number (ys ++ x ∷ []) ≡ x * 256 ^ length ys + low_number ys
low_more [] x = omega arith
low_more (y ∷ ys) x = omega (arith, low_more ys x, shifted x (length ys))

high_from : (n i : ℕ) (xs : List ℕ) → i + n ≡ length xs → big_from i n xs ≡ low_number (reverse (drop i xs))
high_from zero i xs e = rw (none_left i xs (omega arith)) refl
high_from (suc n) i xs e =
    let rest = drop (suc i) xs in
    let len : length (reverse rest) ≡ n = omega (arith, length-reverse rest, length-drop (suc i) xs) in
    rw (drop-cons xs i 0 (omega arith)) (
    ap (λ (k : ℕ). get_or xs i 0 * 256 ^ n + k) (high_from n (suc i) xs (omega arith))
    ∙ ap (λ (m : ℕ). get_or xs i 0 * 256 ^ m + low_number (reverse rest)) (sym len)
    ∙ sym (low_more (reverse rest) (get_or xs i 0))
    ∙ ap low_number (sym (reverse-append (get_or xs i 0 ∷ []) rest)))

pub low_is : (n : ℕ) (xs : List ℕ) → n ≡ length xs → little_number n xs ≡ low_number xs
low_is n xs e = low_from n 0 xs (omega arith)

pub high_is : (n : ℕ) (xs : List ℕ) → n ≡ length xs → big_number n xs ≡ low_number (reverse xs)
high_is n xs e = high_from n 0 xs (omega arith)

pub ruleset order_rules = (low_is, high_is)
