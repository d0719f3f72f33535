-- One part after another, as a loop does.
use Rattle.std.proofs.Common.{◌≡◌, ℕ, ◌+◌, ◌<◌, List, [], ◌∷◌, ◌++◌, map, drop, length, get_or, refl, sym, ap, ◌∙◌, append_assoc}
use Rattle.std.proofs.lemmas.List.{append-nil, drop_more}
use Rattle.std.specs.Prelude.{Ok, Err}
use Rattle.object_walks.specs.declared.stops.Stop.{Stop as Code}
use Rattle.object_walks.specs.Resolving.{Got, ◌>>=◌, each, behind}
use Rattle.object_walks.specs.Walking.{Ends}
use Rattle.object_walks.proofs.Ended.{ends_then, ends_same}

regroup : {X : Type 0} (before : List X) (x : X) (r : Got (List X)) → behind before (r >>= λ xs. Ok (x ∷ xs.0, xs.1)) ≡ behind (before ++ x ∷ []) r
regroup {X} before x (Ok xs) = ap (λ (ys : List X). Ok (ys, xs.1)) (sym (append_assoc before (x ∷ []) xs.0))
regroup before x (Err e) = refl

module _ {C P X : Type 0} (view : C → P) (one : P → ℕ → Got X) where
  -- the walk through the parts from the i-th on
  abbrev pub rest : List C → ℕ → ℕ → Got (List X)
  rest cs i n = each one (map view (drop i cs)) n

  split : (cs : List C) (i : ℕ) (c : C) (n : ℕ) → i < length cs → c ≡ get_or cs i c → rest cs i n ≡ each one (view c ∷ map view (drop (i + 1) cs)) n
  split cs i c n lt is = ap (λ ds. each one (map view ds) n) (drop_more cs i c lt ∙ ap (λ b. b ∷ drop (i + 1) cs) (sym is))

  -- the loop goes on
  pub goes_on : (cs : List C) (i : ℕ) (c : C) (before after : List X) (x : X) (n m : ℕ) (whole : Got (List X)) → i < length cs → c ≡ get_or cs i c → one (view c) n ≡ Ok (x, m) → after ≡ before ++ x ∷ [] → behind before (rest cs i n) ≡ whole → behind after (rest cs (i + 1) m) ≡ whole
  goes_on cs i c before after x n m whole lt is found more inv =
      ap (λ b. behind b (rest cs (i + 1) m)) more ∙ sym (regroup before x (rest cs (i + 1) m)) ∙ ap (λ r. behind before (r >>= λ y. each one (map view (drop (i + 1) cs)) y.1 >>= λ ys. Ok (y.0 ∷ ys.0, ys.1))) (sym found) ∙ ap (behind before) (sym (split cs i c n lt is)) ∙ inv

  -- the loop ends where the walk does
  pub ends : (stop : Code) (cs : List C) (i : ℕ) (c : C) (before : List X) (n : ℕ) (whole : Got (List X)) → i < length cs → c ≡ get_or cs i c → Ends stop (one (view c) n) → behind before (rest cs i n) ≡ whole → Ends stop whole
  ends stop cs i c before n whole lt is e inv =
      ends_same stop (behind before (rest cs i n)) whole (ends_then stop (rest cs i n) _ (ends_same stop (each one (view c ∷ map view (drop (i + 1) cs)) n) (rest cs i n) (ends_then stop (one (view c) n) _ e) (sym (split cs i c n lt is)))) inv

  -- the loop is over
  pub done : (cs : List C) (i : ℕ) (before : List X) (n : ℕ) (whole : Got (List X)) → drop i cs ≡ [] → behind before (rest cs i n) ≡ whole → whole ≡ Ok (before, n)
  done cs i before n whole none inv = sym inv ∙ ap (λ ds. behind before (each one (map view ds) n)) none ∙ ap (λ b. Ok (b, n)) (append-nil before)

pub ruleset loop_rules = (goes_on, ends, done)
