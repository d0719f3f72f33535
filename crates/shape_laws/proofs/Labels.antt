-- Going over the labels and the defaults finds what holds for each number that selects a case on both sides.
use Rattle.std.proofs.Common.{◌≡◌, ℕ, suc, ◌<◌, max, ℤ, pos, nat_abs, Bool, true, false, cond, ◌||◌, List, [], ◌∷◌, ◌++◌, Option, Some, None, refl, sym, ap, ap₂, ◌∙◌, arith, inl, inr}
use Rattle.std.proofs.lemmas.Bool.{cases_Bool, or_cases, or_from, or_parts, false_from_ne_true}
use Rattle.std.proofs.lemmas.Bool.Decides.{Decides-int_eq}
use Rattle.std.specs.Ordering.{int_eq}
use Rattle.xt_shapes.specs.Lists.{or_else, has}
use Rattle.xt_shapes.specs.Select.{select, labelled, default_case, case_at}
use Rattle.xt_shapes.specs.Shape.{Shape, Cases, no_cases, one_case}
use Rattle.xcdr_model.specs.Failure.{First, and_then, if_some, first_of, all_labels, case_pair, case_pairs}
use Rattle.xcdr_model.specs.Rules.{has_label}

abbrev pub none : First
none = None

then_none : (a b : First) → and_then a b ≡ none → (a ≡ none) × (b ≡ none)
unfolding and_then
then_none None b e = (refl, e)
then_none (Some f) b e = absurd cc

none_then : (a b : First) → a ≡ none → b ≡ none → and_then a b ≡ none
unfolding and_then
none_then a b e f = ap (λ (x : First). and_then x b) e ∙ f

each_none : (g : ℤ → First) (ls : List ℤ) (d : ℤ) → first_of g ls ≡ none → has (int_eq d) ls ≡ true → g d ≡ none
unfolding first_of
each_none g [] d e h = absurd cc
each_none g (l ∷ ls) d e h =
    let p = then_none (g l) (first_of g ls) e in
    elim (or_cases (int_eq d l) (has (int_eq d) ls) h) [ inl y ↦ ap g ((Decides-int_eq d l).0 y) ∙ p.0 | inr n ↦ each_none g ls d p.1 n ]

none_each : (g : ℤ → First) (ls : List ℤ) → ((d : ℤ) → g d ≡ none) → first_of g ls ≡ none
unfolding first_of
none_each g [] f = refl
none_each g (l ∷ ls) f = none_then (g l) (first_of g ls) (f l) (none_each g ls f)

has-append : (p : ℤ → Bool) (xs ys : List ℤ) → has p (xs ++ ys) ≡ (has p xs || has p ys)
has-append p [] ys = refl
has-append p (x ∷ xs) ys = ap (λ (c : Bool). p x || c) (has-append p xs ys) ∙ join (p x) (has p xs) (has p ys)
  where
    join : (a b c : Bool) → (a || (b || c)) ≡ ((a || b) || c)
    join true b c = refl
    join false b c = refl

label_in : (cs : Cases) (d : ℤ) → has (int_eq d) (all_labels cs) ≡ has_label cs d
label_in no_cases d = refl
label_in (one_case h t cs) d = has-append (int_eq d) h.labels (all_labels cs) ∙ ap (λ (c : Bool). has (int_eq d) h.labels || c) (label_in cs d)

no_label : (cs : Cases) (d : ℤ) → has_label cs d ≡ false → labelled cs d ≡ None
no_label no_cases d e = refl
no_label (one_case h t cs) d e =
    let p = or_parts (has (int_eq d) h.labels) (has_label cs d) e in
    ap (λ (c : Bool). cond c (Some h.id) (labelled cs d)) p.0 ∙ no_label cs d p.1

by_default : (cs : Cases) (d : ℤ) → has_label cs d ≡ false → select cs d ≡ default_case cs
by_default cs d e = ap (λ (x : Option ℕ). or_else x (default_case cs)) (no_label cs d e)

-- a number beyond all labels
abbrev bound_of : List ℤ → ℕ
bound_of [] = 0
bound_of (l ∷ ls) = max (nat_abs l) (bound_of ls)

beyond : (ls : List ℤ) (n : ℕ) → bound_of ls < n → has (int_eq (pos n)) ls ≡ false
beyond [] n lt = refl
beyond (l ∷ ls) n lt = or_from (int_eq (pos n) l) (has (int_eq (pos n)) ls)
    (false_from_ne_true (int_eq (pos n) l) (λ z. omega (arith, ap nat_abs ((Decides-int_eq (pos n) l).0 z)))) (beyond ls n (omega arith))

pub pairs_to : (f : ℕ → Option Shape → First) (cs ds : Cases) → case_pairs f cs ds ≡ none → (d : ℤ) → case_pair f cs ds d ≡ none
unfolding case_pair
pairs_to f cs ds e d =
    let p = then_none (first_of (case_pair f cs ds) (all_labels ds ++ all_labels cs)) (if_some (default_case cs) (λ i. if_some (default_case ds) (λ j. f i (case_at ds j)))) e in
    elim (cases_Bool (has (int_eq d) (all_labels ds ++ all_labels cs))) [
      | inl y ↦ each_none (case_pair f cs ds) (all_labels ds ++ all_labels cs) d p.0 y
      | inr n ↦ (let q = or_parts (has (int_eq d) (all_labels ds)) (has (int_eq d) (all_labels cs)) (sym (has-append (int_eq d) (all_labels ds) (all_labels cs)) ∙ n) in
          ap₂ (λ (x y : Option ℕ). if_some x (λ i. if_some y (λ j. f i (case_at ds j)))) (by_default cs d (sym (label_in cs d) ∙ q.1)) (by_default ds d (sym (label_in ds d) ∙ q.0)) ∙ p.1)
    ]

pub to_pairs : (f : ℕ → Option Shape → First) (cs ds : Cases) → ((d : ℤ) → case_pair f cs ds d ≡ none) → case_pairs f cs ds ≡ none
unfolding case_pair
to_pairs f cs ds e =
    let ls = all_labels ds ++ all_labels cs in
    let d = pos (suc (bound_of ls)) in
    let out : has (int_eq d) ls ≡ false = beyond ls (suc (bound_of ls)) (omega arith) in
    let q = or_parts (has (int_eq d) (all_labels ds)) (has (int_eq d) (all_labels cs)) (sym (has-append (int_eq d) (all_labels ds) (all_labels cs)) ∙ out) in
    none_then (first_of (case_pair f cs ds) ls) (if_some (default_case cs) (λ i. if_some (default_case ds) (λ j. f i (case_at ds j)))) (none_each (case_pair f cs ds) ls e)
    (sym (ap₂ (λ (x y : Option ℕ). if_some x (λ i. if_some y (λ j. f i (case_at ds j)))) (by_default cs d (sym (label_in cs d) ∙ q.1)) (by_default ds d (sym (label_in ds d) ∙ q.0))) ∙ e d)
