-- The cases of a union by their index.
use Rattle.std.proofs.Common.{◌≡◌, refl, ap, ◌∙◌, ℕ, ℤ, zero, suc, ◌+◌, ◌<◌, ◌≤◌, List, [], ◌∷◌, length, drop, get_or, drop_of_length-le, Option, Some, None, IfSome, is_some, cond, Bool, true, false, ◌==◌, arith, eq-eqb}
use Rattle.std.specs.Option.{option_map, option_and_then}
use Rattle.std.specs.Ordering.{int_eq}
use Rattle.std.proofs.lemmas.List.{at_drop_more}
use Rattle.xt_shapes.specs.Lists.{has, or_else}
use Rattle.xt_shapes.specs.Select.{labelled, default_case, select}
use Rattle.xt_shapes.specs.Shape.{Cases, no_cases, one_case}
use Rattle.type_trees.specs.declared.types.Case.{Case}
use Rattle.type_trees.specs.Bridge.{type_shape, cases_shape, case_head}
use Rattle.type_trees.proofs.Views.{case_tree_is}
use Rattle.try_construct.specs.declared.guides.CaseIndex.{CaseIndex}
use Rattle.try_construct.specs.Guides.{Indexes, case_index, found_at, selected_index}

pub next_case : (cs : List Case) (i : ℕ) (d : Case) → i < length cs → cases_shape (drop i cs) ≡ one_case (case_head (get_or cs i d)) (type_shape (get_or cs i d).ty) (cases_shape (drop (i + 1) cs))
next_case cs i d within = at_drop_more (λ xs. cases_shape xs) cs i d within ∙ rw (case_tree_is (get_or cs i d)) refl

pub no_case_left : (cs : List Case) (i : ℕ) → length cs ≤ i → cases_shape (drop i cs) ≡ no_cases
no_case_left cs i le = ap (λ (xs : List Case). cases_shape xs) (drop_of_length-le cs le)

-- an index counted from further on
abbrev pub shifted : ℕ → Option ℕ → Option ℕ
shifted n None = None
shifted n (Some i) = Some (n + i)

pub shifted_none : (o : Option ℕ) → o ≡ shifted 0 o
shifted_none None = refl
shifted_none (Some i) = ap (λ (k : ℕ). Some k) (omega arith)

inside_more : (n : ℕ) (b : Bool) (x : Option ℕ) → IfSome x (λ i. i < n) → IfSome (cond b (Some 0) (option_map (λ i. suc i) x)) (λ i. i < suc n)
inside_more n true x lt = omega arith
inside_more n false None lt = tt
inside_more n false (Some i) lt = omega arith

index_inside : (cs : List Case) (id : ℕ) → IfSome (case_index (cases_shape cs) id) (λ i. i < length cs)
index_inside [] id = tt
index_inside (c ∷ cs) id = rw (case_tree_is c) (inside_more (length cs) (c.id == id) (case_index (cases_shape cs) id) (index_inside cs id))

-- ---- the case that a number selects

there_more : (b : Bool) (x : Option ℕ) → is_some x ≡ true → is_some (cond b (Some 0) (option_map (λ i. suc i) x)) ≡ true
there_more true x e = refl
there_more false (Some i) e = refl
there_more false None e = absurd cc

pub case_there : (cs : List Case) (i : ℕ) (d : Case) → i < length cs → is_some (case_index (cases_shape cs) (get_or cs i d).id) ≡ true
case_there [] i d within = absurd (omega arith)
case_there (c ∷ cs) zero d within = rw (case_tree_is c, eq-eqb c.id c.id refl) refl
case_there (c ∷ cs) (suc i) d within = rw (case_tree_is c) (there_more (c.id == (get_or cs i d).id) (case_index (cases_shape cs) (get_or cs i d).id) (case_there cs i d (omega arith)))

-- an id that a label selects is one of a case
there_by_label : (b : Bool) (id at : ℕ) (x y : Option ℕ) → cond b (Some at) x ≡ Some id → (x ≡ Some id → is_some y ≡ true) → is_some (cond (at == id) (Some 0) (option_map (λ i. suc i) y)) ≡ true
there_by_label true id at x y is more = (let same : at ≡ id = cc in rw (eq-eqb at id same) refl)
there_by_label false id at x y is more = there_more (at == id) y (more is)

there_labelled : (cs : Cases) (n : ℤ) (id : ℕ) → labelled cs n ≡ Some id → is_some (case_index cs id) ≡ true
there_labelled no_cases n id is = absurd cc
there_labelled (one_case h t cs) n id is = there_by_label (has (int_eq n) h.labels) id h.id (labelled cs n) (case_index cs id) is (λ e. there_labelled cs n id e)

-- where a label selects a case, the default case does not matter
either_index : (cs : Cases) (x y : Option ℕ) → ((id : ℕ) → x ≡ Some id → is_some (case_index cs id) ≡ true) → or_else (option_and_then (case_index cs) x) (option_and_then (case_index cs) y) ≡ option_and_then (case_index cs) (or_else x y)
either_index cs None y there = refl
either_index cs (Some id) y there = some_first (case_index cs id) (option_and_then (case_index cs) y) (there id refl)
  where
    some_first : (a b : Option ℕ) → is_some a ≡ true → or_else a b ≡ a
    some_first (Some i) b e = refl
    some_first None b e = absurd cc

pub index_finds : (cs : Cases) (index : CaseIndex) (n : ℤ) → Indexes cs index → found_at index n ≡ selected_index cs n
index_finds cs index n is = rw (is.labels n, is.default) (either_index cs (labelled cs n) (default_case cs) (λ id e. there_labelled cs n id e))

-- an id and its position, or neither
abbrev pub Selects : Cases → Option ℕ → Option ℕ → Type 0
Selects cs None p = p ≡ None
Selects cs (Some id) p = (at : ℕ) × ((case_index cs id ≡ Some at) × (p ≡ Some at))

there_default : (cs : Cases) (id : ℕ) → default_case cs ≡ Some id → is_some (case_index cs id) ≡ true
there_default no_cases id is = absurd cc
there_default (one_case h t cs) id is = there_by_label h.is_default id h.id (default_case cs) (case_index cs id) is (λ e. there_default cs id e)

-- what a number selects is the id of a case that is there
pub number_selects : (cs : Cases) (n : ℤ) → Selects cs (select cs n) (selected_index cs n)
number_selects cs n = by_label (labelled cs n) (λ id e. there_labelled cs n id e)
  where
    of_index : (id : ℕ) (x : Option ℕ) → case_index cs id ≡ x → is_some x ≡ true → Selects cs (Some id) (case_index cs id)
    of_index id None e there = absurd cc
    of_index id (Some at) e there = (at, (e, e))

    by_default : (y : Option ℕ) → ((id : ℕ) → y ≡ Some id → is_some (case_index cs id) ≡ true) → Selects cs y (option_and_then (case_index cs) y)
    by_default None there = refl
    by_default (Some id) there = of_index id (case_index cs id) refl (there id refl)

    by_label : (x : Option ℕ) → ((id : ℕ) → x ≡ Some id → is_some (case_index cs id) ≡ true) → Selects cs (or_else x (default_case cs)) (option_and_then (case_index cs) (or_else x (default_case cs)))
    by_label None there = by_default (default_case cs) (λ id e. there_default cs id e)
    by_label (Some id) there = of_index id (case_index cs id) refl (there id refl)

-- a position that a number selects is one of a case
pub selected_inside : (cs : List Case) (n : ℤ) (x : Option ℕ) → x ≡ selected_index (cases_shape cs) n → IfSome x (λ i. i < length cs)
selected_inside cs n x is = rw is (inside_of (select (cases_shape cs) n))
  where
    inside_of : (y : Option ℕ) → IfSome (option_and_then (case_index (cases_shape cs)) y) (λ i. i < length cs)
    inside_of None = tt
    inside_of (Some id) = index_inside cs id

-- one case more
one_labelled : (f : ℕ → Option ℕ) (b : Bool) (id : ℕ) (x : Option ℕ) → option_and_then f (cond b (Some id) x) ≡ cond b (f id) (option_and_then f x)
one_labelled f true id x = refl
one_labelled f false id x = refl

pub labelled_from : (cs : List Case) (i : ℕ) (c : Case) (n : ℤ) (f : ℕ → Option ℕ) → i < length cs → c ≡ get_or cs i c → option_and_then f (labelled (cases_shape (drop i cs)) n) ≡ cond (has (int_eq n) c.labels) (f c.id) (option_and_then f (labelled (cases_shape (drop (i + 1) cs)) n))
labelled_from cs i c n f within is =
    let behind = labelled (cases_shape (drop (i + 1) cs)) n in
    let first : labelled (cases_shape (drop i cs)) n ≡ cond (has (int_eq n) c.labels) (Some c.id) behind = rw (next_case cs i c within, ← is) refl in
    rw first (one_labelled f (has (int_eq n) c.labels) c.id behind)

pub ruleset index_rules = (shifted_none)
