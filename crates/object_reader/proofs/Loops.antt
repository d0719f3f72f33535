-- Reading one after another, as a loop does.
use Rattle.std.proofs.Common.{◌≡◌, ℕ, zero, suc, ◌+◌, ◌-◌, ◌<◌, List, [], ◌∷◌, ◌++◌, Result, Ok, Err, refl, sym, ap, ◌∙◌, append_assoc, arith}
use Rattle.std.proofs.lemmas.List.{append-nil}
use Rattle.object_formats.specs.declared.faults.Fault.{Fault}
use Rattle.object_formats.specs.declared.faults.ObjectFault.{ObjectFault}
use Rattle.object_formats.specs.declared.faults.ObjectFault.TheVariants as faults
use Rattle.object_formats.specs.View.{Fails}
use Rattle.object_formats.specs.Format.{Format, Spot, ◌>>=◌, each_at}

-- what was read before, and what is still read
abbrev pub with_front : {A : Type 0} → List A → Result (List A × Spot) Fault → Result (List A × Spot) Fault
with_front front read = read >>= λ x. Ok (front ++ x.0, x.1)

regroup : {A : Type 0} (front : List A) (x : A) (read : Result (List A × Spot) Fault) → with_front front (read >>= λ xs. Ok (x ∷ xs.0, xs.1)) ≡ with_front (front ++ x ∷ []) read
regroup {A} front x (Ok xs) = ap (λ (ys : List A). Ok (ys, xs.1)) (simp append_assoc)
regroup front x (Err f) = refl

none_before : {A : Type 0} (read : Result (List A × Spot) Fault) → with_front [] read ≡ read
none_before (Ok x) = refl
none_before (Err f) = refl

module _ {A : Type 0} (f : Format A) where
  -- a loop's first turn
  pub starts : (front : List A) (n : ℕ) (s : Spot) → front ≡ [] → with_front front (each_at f (n - 0) s) ≡ each_at f n s
  starts front n s e = ap (λ (before : List A). with_front before (each_at f (n - 0) s)) e ∙ none_before (each_at f (n - 0) s) ∙ ap (λ (m : ℕ). each_at f m s) (omega arith)

  front_step : (front : List A) (n m : ℕ) (s : Spot) (x : A) (t : Spot) → n ≡ suc m → f.read s ≡ Ok (x, t) → with_front (front ++ x ∷ []) (each_at f m t) ≡ with_front front (each_at f n s)
  unfolding each_at
  front_step front n m s x t e r = rw (e, r) (sym (regroup front x (each_at f m t)))

  front_fails : (front : List A) (n : ℕ) (s : Spot) (d : Fault) → 0 < n → f.read s ≡ Err d → with_front front (each_at f n s) ≡ Err d
  unfolding each_at
  front_fails front zero s d h r = absurd (omega arith)
  front_fails front (suc n) s d h r = rw r refl

  -- a loop's end
  pub front_done : (front : List A) (n : ℕ) (s : Spot) → n ≡ 0 → with_front front (each_at f n s) ≡ Ok (front, s)
  unfolding each_at
  front_done front n s e = rw e (ap (λ (ys : List A). Ok (ys, s)) (append-nil front))

  -- a loop's exit by a fault
  pub stops : (front : List A) (n : ℕ) (s : Spot) (whole : Result (List A × Spot) Fault) (e : ObjectFault) → 0 < n → Fails e (f.read s) → with_front front (each_at f n s) ≡ whole → Fails e whole
  stops front n s whole (faults.Not at rule) h r inv = sym inv ∙ front_fails front n s (record { at = at; rule = rule }) h r
  stops front n s whole faults.OutOfMemory h r inv = tt

  -- a loop's turn
  pub goes_on : (front after : List A) (x : A) (n k : ℕ) (s t : Spot) (whole : Result (List A × Spot) Fault) → k < n → after ≡ front ++ x ∷ [] → f.read s ≡ Ok (x, t) → with_front front (each_at f (n - k) s) ≡ whole → with_front after (each_at f (n - (k + 1)) t) ≡ whole
  goes_on front after x n k s t whole lt e r inv = rw e (front_step front (n - k) (n - (k + 1)) s x t (omega arith) r ∙ inv)
