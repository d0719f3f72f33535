-- Passing over blanks and comments, one after another.
use Rattle.std.proofs.Common.{◌≡◌, ℕ, zero, suc, ◌-◌, ◌≤◌, true, false, cond, eqb, length, [], ◌∷◌, drop, refl, ap, arith}
use Rattle.idl_tokens.specs.Classes.{Text}
use Rattle.idl_tokens.specs.Tokens.{blank, skip_from, skip}

skip_from-drop : (n : ℕ) (text : Text) → skip_from n text ≡ skip_from 0 (drop n text)
skip_from-drop zero text = refl
skip_from-drop (suc n) [] = refl
skip_from-drop (suc n) (b ∷ text) = skip_from-drop n text

drop-cons : (n b : ℕ) (text : Text) → 1 ≤ n → drop (n - 1) text ≡ drop n (b ∷ text)
drop-cons zero b text h = absurd (omega arith)
drop-cons (suc n) b text h = let e : suc n - 1 ≡ n = omega arith in ap (λ k. drop k text) e

pub skip_stops : (text : Text) → eqb (blank text) 0 ≡ true → skip text ≡ text
unfolding skip
skip_stops [] h = refl
skip_stops (b ∷ text) h = ap (λ t. cond t (b ∷ text) (skip_from (blank (b ∷ text) - 1) text)) h

pub skip_goes : (text : Text) → eqb (blank text) 0 ≡ false → 1 ≤ blank text → 1 ≤ length text → skip (drop (blank text) text) ≡ skip text
unfolding skip
skip_goes [] h moves some = absurd (omega arith)
skip_goes (b ∷ text) h moves some = rw (h, skip_from-drop (blank (b ∷ text) - 1) text, drop-cons (blank (b ∷ text)) b text moves) refl
