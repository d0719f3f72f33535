-- What is written of unions.
use Rattle.std.proofs.Common.{◌≡◌, refl, sym, ap, ◌∙◌, subst, ℕ, ℤ, zero, suc, ◌+◌, ◌<◌, Bool, true, false, cond, Option, Some, None, IfSome, List, [], ◌∷◌, ◌++◌, length, map, get_or, slice_get, length-append}
use Rattle.std.specs.Prelude.{option_map, option_and_then, ◌==◌}
use Rattle.std.proofs.lemmas.List.{length-map, map-append}
use Rattle.std.proofs.lemmas.Option.{slice_get_read}
use Rattle.std.proofs.lemmas.Bool.{and_parts}
use Rattle.json.specs.Print.{escape_byte}
use Rattle.serde_json.specs.Data as json
use Rattle.serde_json.specs.Data.{Data}
use Rattle.serde_json.specs.Written.{compact_text, members_text}
use Rattle.xt_shapes.specs.Select.{select}
use Rattle.xt_shapes.specs.Vals.{Val, int, text, listed, mapped, struct_of, union_of, Slot, absent, present}
use Rattle.type_trees.specs.declared.types.Case.{Case}
use Rattle.type_trees.specs.declared.types.UnionType.{UnionType, out-UnionType}
use Rattle.type_trees.specs.Trees.{Tree, UnionHead, union}
use Rattle.type_trees.specs.View.{tree, case_tree, cases_tree, union_tree}
use Rattle.type_trees.specs.Bridge.{cases_shape}
use Rattle.type_trees.proofs.Views.{case_tree_is, union_tree_is}
use Rattle.try_construct.specs.declared.guides.CaseIndex.{CaseIndex}
use Rattle.try_construct.specs.Guides.{Indexes, case_index, found_at}
use Rattle.try_construct.proofs.CasesByIndex.{Selects, index_finds, number_selects}
use Rattle.json_values.specs.Written.{data_of, body_data, case_data, value_key, json_text}
use Rattle.packed_json.specs.declared.plan.Plan.{Plan}
use Rattle.packed_json.specs.Plans.{Meaning, meaning, IsPlanOf, PlansCases, WritesBody, body_text, body_fits, found_case, union_meaning}

-- ---- one case more

pub cases_step : (cs : List Case) (ms : List Meaning) (c : Case) (m : Meaning) → PlansCases cs ms → slice_get cs (length ms) ≡ Some c → IsPlanOf (tree c.ty) m → PlansCases cs (ms ++ m ∷ [])
cases_step [] [] c m before there is = absurd cc
cases_step (d ∷ cs) [] c m before there is =
    let same : c ≡ d = cc in
    (subst (λ (x : Case). IsPlanOf (tree x.ty) m) same is, tt)
cases_step [] (x ∷ ms) c m before there is = absurd before
cases_step (d ∷ cs) (x ∷ ms) c m before there is = (before.0, cases_step cs ms c m before.1 there is)

pub cases_next : (cs : List Case) (xs ys : List Plan) (x : Plan) (at : ℕ) (c : Case) → ys ≡ xs ++ x ∷ [] → at < length cs → c ≡ get_or cs at c → IsPlanOf (tree c.ty) (meaning x)
    → PlansCases cs (map meaning xs) × (length xs ≡ at) → PlansCases cs (map meaning ys) × (length ys ≡ at + 1)
cases_next cs xs ys x at c is_ys within item is before =
    let place : length (map meaning xs) ≡ at = length-map xs meaning ∙ before.1 in
    let there : slice_get cs (length (map meaning xs)) ≡ Some c = rw place (slice_get_read cs (length cs) at c refl within item) in
    let planned : PlansCases cs (map meaning (xs ++ x ∷ [])) = rw (map-append meaning xs (x ∷ [])) (cases_step cs (map meaning xs) c (meaning x) before.0 there is) in
    let long : length (xs ++ x ∷ []) ≡ at + 1 = length-append xs (x ∷ []) ∙ ap (λ n. n + 1) before.1 in
    rw is_ys (planned, long)

-- ---- the case at a position

-- by whether the first case has the id
case_by : (b : Bool) (t : Tree) (x : Meaning) (ms : List Meaning) (rest : Option ℕ) (at : ℕ) (m : Meaning) (v : Val) (other : Data)
    → IsPlanOf t x → cond b (Some 0) (option_map (λ i. suc i) rest) ≡ Some at → slice_get (x ∷ ms) at ≡ Some m → m.fits v ≡ true
    → ((i : ℕ) → rest ≡ Some i → slice_get ms i ≡ Some m → m.text v ≡ compact_text other)
    → m.text v ≡ compact_text (cond b (data_of t v) other)
case_by true t x ms rest zero m v other is found there fits onward =
    let same : x ≡ m = cc in
    (subst (λ (y : Meaning). y.fits v ≡ true → y.text v ≡ json_text t v) same (is v)) fits
case_by true t x ms rest (suc at) m v other is found there fits onward = absurd cc
case_by false t x ms None at m v other is found there fits onward = absurd cc
case_by false t x ms (Some i) at m v other is found there fits onward =
    let next : suc i ≡ at = cc in
    onward i refl (ap (slice_get (x ∷ ms)) next ∙ there)

-- the plan at the position of the first case with an id writes that case
case_is : (cs : List Case) (ms : List Meaning) (id at : ℕ) (m : Meaning) (v : Val) → PlansCases cs ms → case_index (cases_shape cs) id ≡ Some at → slice_get ms at ≡ Some m → m.fits v ≡ true
    → m.text v ≡ compact_text (case_data (cases_tree cs) id v)
case_is [] ms id at m v planned found there fits = absurd cc
case_is (c ∷ cs) [] id at m v planned found there fits = absurd cc
case_is (c ∷ cs) (x ∷ ms) id at m v planned found there fits =
    let t = (case_tree c).1 in
    let inner : tree c.ty ≡ t = ap (λ p. p.1) (sym (case_tree_is c)) in
    let is : IsPlanOf t x = subst (λ u. IsPlanOf u x) inner planned.0 in
    case_by ((case_tree c).0.id == id) t x ms (case_index (cases_shape cs) id) at m v (case_data (cases_tree cs) id v) is found there fits (λ i first here. case_is cs ms id i m v planned.1 first here fits)

-- ---- the body

-- a value of the case at a position, or at none
present_is : (cs : List Case) (ms : List Meaning) (id : ℕ) (v : Val) (p : Option ℕ) (found : Option Meaning) → PlansCases cs ms → case_index (cases_shape cs) id ≡ p → option_and_then (slice_get ms) p ≡ found → body_fits found (present v) ≡ true
    → body_text found (present v) ≡ members_text true (json.member value_key (case_data (cases_tree cs) id v) json.no_members)
unfolding escape_byte
present_is cs ms id v p None planned position there fits = absurd cc
present_is cs ms id v None (Some m) planned position there fits = absurd cc
present_is cs ms id v (Some at) (Some m) planned position there fits = rw (case_is cs ms id at m v planned position there fits) refl

body_by : (cs : List Case) (ms : List Meaning) (s p : Option ℕ) (b : Slot) → Selects (cases_shape cs) s p → PlansCases cs ms → body_fits (option_and_then (slice_get ms) p) b ≡ true
    → body_text (option_and_then (slice_get ms) p) b ≡ members_text true (body_data s (case_data (cases_tree cs)) b)
body_by cs ms None p absent is planned fits = refl
body_by cs ms None p (present v) is planned fits = (let none : body_fits None (present v) ≡ true = rw is at fits in absurd cc)
body_by cs ms (Some id) p absent is planned fits = refl
body_by cs ms (Some id) p (present v) (at, (index, is)) planned fits = present_is cs ms id v p _ planned (index ∙ sym is) refl fits

body_is : (cs : List Case) (ms : List Meaning) (index : CaseIndex) (n : ℤ) (b : Slot) → Indexes (cases_shape cs) index → PlansCases cs ms → body_fits (found_case index ms n) b ≡ true
    → body_text (found_case index ms n) b ≡ members_text true (body_data (select (cases_shape cs) n) (case_data (cases_tree cs)) b)
body_is cs ms index n b is planned fits =
    let same : Selects (cases_shape cs) (select (cases_shape cs) n) (found_at index n) = rw (index_finds (cases_shape cs) index n is) (number_selects (cases_shape cs) n) in
    body_by cs ms (select (cases_shape cs) n) (found_at index n) b same planned fits

-- ---- a whole union

union_planned : (head : UnionHead) (t : Tree) (cs : List Case) (d : Meaning) (index : CaseIndex) (ms : List Meaning) → IsPlanOf t d → Indexes (cases_shape cs) index → PlansCases cs ms → IsPlanOf (union head t (cases_tree cs)) (union_meaning d index ms)
unfolding escape_byte
union_planned head t cs d index ms disc is planned (int i) fits = absurd cc
union_planned head t cs d index ms disc is planned (text s) fits = absurd cc
union_planned head t cs d index ms disc is planned (listed vs) fits = absurd cc
union_planned head t cs d index ms disc is planned (mapped ps) fits = absurd cc
union_planned head t cs d index ms disc is planned (struct_of ss) fits = absurd cc
union_planned head t cs d index ms disc is planned (union_of n b) fits =
    let parts = and_parts (d.fits (int n)) (body_fits (found_case index ms n) b) fits in
    rw (disc (int n) parts.0, body_is cs ms index n b is planned parts.1) refl

pub kind_planned : (k : UnionType) (d : Meaning) (index : CaseIndex) (ms : List Meaning) → let u = out-UnionType k in IsPlanOf (tree u.disc) d → Indexes (cases_shape u.cases) index → PlansCases u.cases ms → IsPlanOf (union_tree k) (union_meaning d index ms)
kind_planned k d index ms disc is planned =
    let u = out-UnionType k in
    let head : UnionHead = record { name = u.name; ext = u.ext; nested = u.nested; hashed_ids = u.hashed_ids; disc_key = u.disc_key } in
    rw (union_tree_is k) (union_planned head (tree u.disc) u.cases d index ms disc is planned)

-- ---- what is written of a body

pub body_found : (o : Option (Unit {0})) (index : CaseIndex) (ms ns : List Meaning) (n : ℤ) (at : ℕ) (b : Slot) (v : Val) (old new : List ℕ) → found_at index n ≡ Some at → ns ≡ ms → b ≡ present v
    → IfSome o (λ u. WritesBody (slice_get ns at) (present v) old new) → IfSome o (λ u. WritesBody (found_case index ms n) b old new)
body_found o index ms ns n at b v old new found same is written = rw (found, ← same, is) written
