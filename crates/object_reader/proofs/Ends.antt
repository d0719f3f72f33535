-- Octets that end with no NUL, or have one before.
use Rattle.std.proofs.Common.{◌≡◌, ℕ, zero, suc, true, List, [], ◌∷◌, ◌++◌, length, None, refl, ap, arith}
use Rattle.object_formats.specs.Format.{has_nul, led_by, ended}

pub ended_nul : (t : List ℕ) (b : ℕ) → has_nul t ≡ true → ended (t ++ b ∷ []) ≡ None
unfolding ended
ended_nul [] b e = absurd cc
ended_nul (zero ∷ []) b e = refl
ended_nul (zero ∷ a ∷ t) b e = refl
ended_nul (suc a ∷ t) b e = ap (led_by (suc a)) (ended_nul t b e)

pub ended_open : (t : List ℕ) (b : ℕ) → (b ≡ 0 → ⊥) → ended (t ++ b ∷ []) ≡ None
unfolding ended
ended_open [] zero e = absurd (e refl)
ended_open [] (suc b) e = refl
ended_open (zero ∷ []) b e = refl
ended_open (zero ∷ a ∷ t) b e = refl
ended_open (suc a ∷ t) b e = ap (led_by (suc a)) (ended_open t b e)

pub ended_none : (t : List ℕ) → length t ≡ 0 → ended t ≡ None
unfolding ended
ended_none [] e = refl
ended_none (b ∷ t) e = absurd (omega arith)
