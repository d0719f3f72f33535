-- The first failure of members and cases, one on.
use Rattle.std.proofs.Common.{◌≡◌, refl, sym, ◌∙◌, ap, ℕ, zero, suc, ℤ, ◌+◌, ◌<◌, ◌≤◌, List, [], ◌∷◌, ◌++◌, length, get_or, drop, take, Bool, true, false, not, cond, Option, Some, None, ◌==◌, ◌||◌, ◌&&◌, arith, tests, IfSome, subst}
use Rattle.std.proofs.lemmas.List.{drop_more, drop_all, take_more}
use Rattle.std.proofs.lemmas.Bool.{false≢true}
use Rattle.std.specs.Ordering.{int_eq}
use Rattle.xt_shapes.specs.declared.leaves.Rep.{Rep}
use Rattle.xt_shapes.specs.declared.leaves.Step.{Step}
use Rattle.type_trees.specs.declared.types.Member.{Member}
use Rattle.type_trees.specs.declared.types.Case.{Case}
use Rattle.type_rules.specs.Places.{depth, members_depth, cases_depth}
use Rattle.type_trees.specs.Trees as trees
use Rattle.type_trees.specs.Trees.{Tree}
use Rattle.type_trees.specs.View.{tree, members_tree, cases_tree}
use Rattle.type_trees.proofs.Views.{member_tree_is, case_tree_is}
use Rattle.xcdr_model.specs.declared.verdict.Rule.{Rule}
use Rattle.xcdr_model.specs.declared.verdict.Policy.{Policy}
use Rattle.assignability.specs.declared.verdict.Failure.{Failure}
use Rattle.xt_shapes.specs.Shape.{Shape, Members, no_members, member, Cases, no_cases, one_case}
use Rattle.type_trees.specs.Bridge.{type_shape, members_shape, cases_shape, member_head}
use Rattle.xt_shapes.specs.Lists.{has}
use Rattle.xt_shapes.specs.Select.{shape_at, select, default_case, case_at}
use Rattle.type_trees.proofs.Shapes.{members_shape_at, cases_shape_at}
use Rattle.xt_shapes.specs.Lists.{is_some_and}
use Rattle.xcdr_model.specs.Keys.{key_fit}
use Rattle.xcdr_model.specs.Rules.{same_place, same_places, has_label}
use Rattle.xcdr_model.specs.Failure.{First, label_failure, is_case, is_selected, is_met, case_pair, all_labels, default_failure, and_then, step, if_some, strong, key_failure, first_of, failure, index_failure, id_failure, case_failure}
use Rattle.assignability.specs.Met.{is_met_by}
use Rattle.node_judge.proofs.Failing.{if_some_some, case_pair_is, and_then_none, and_then_some, key_failure_none, key_failure_step, index_failure_left, index_failure_right, index_failure_step, id_failure_none, id_failure_step, case_failure_none, case_failure_step, first_of_none, first_of_step}

pub index_step : (q : Policy) (r : Rep) (ms ns : List Member) (i : ℕ) (m n : Member) → i < length ms → i < length ns → m ≡ get_or ms i m → n ≡ get_or ns i n
    → index_failure q r (members_shape (drop i ms)) (members_shape (drop i ns))
    ≡ and_then (step (Step.Member m.id) (strong r (type_shape m.ty) (type_shape n.ty) (failure q r false (type_shape m.ty) (type_shape n.ty)))) (index_failure q r (members_shape (drop (i + 1) ms)) (members_shape (drop (i + 1) ns)))
index_step q r ms ns i m n p p2 is_m is_n = rw (members_shape_at ms i m p is_m, members_shape_at ns i n p2 is_n) (index_failure_step q r _ _ _ _ _ _)

pub index_end_left : (q : Policy) (r : Rep) (ms ns : List Member) (i : ℕ) → length ms ≤ i → index_failure q r (members_shape (drop i ms)) (members_shape (drop i ns)) ≡ None
index_end_left q r ms ns i past = rw (drop_all i ms past) (index_failure_left q r _)

pub index_end_right : (q : Policy) (r : Rep) (ms ns : List Member) (i : ℕ) → length ns ≤ i → index_failure q r (members_shape (drop i ms)) (members_shape (drop i ns)) ≡ None
index_end_right q r ms ns i past = rw (drop_all i ns past) (index_failure_right q r _)

pub id_step : (q : Policy) (r : Rep) (ms : List Member) (ns : Members) (i : ℕ) (m : Member) → i < length ms → m ≡ get_or ms i m
    → id_failure q r (members_shape (drop i ms)) ns ≡ and_then (if_some (shape_at ns m.id) (λ u. step (Step.Member m.id) (failure q r false (type_shape m.ty) u))) (id_failure q r (members_shape (drop (i + 1) ms)) ns)
id_step q r ms ns i m p is_m = rw (members_shape_at ms i m p is_m) (id_failure_step q r _ _ _ _)

pub id_end : (q : Policy) (r : Rep) (ms : List Member) (ns : Members) (i : ℕ) → length ms ≤ i → id_failure q r (members_shape (drop i ms)) ns ≡ None
id_end q r ms ns i past = rw (drop_all i ms past) (id_failure_none q r ns)

pub key_step : (ms : List Member) (ns : Members) (i : ℕ) (m : Member) → i < length ms → m ≡ get_or ms i m
    → key_failure (members_shape (drop i ms)) ns ≡ cond (not m.key || is_some_and (shape_at ns m.id) (λ u. key_fit (type_shape m.ty) u)) (key_failure (members_shape (drop (i + 1) ms)) ns) (Some (Rule.KeyFit, Step.Member m.id ∷ []))
key_step ms ns i m p is_m = rw (members_shape_at ms i m p is_m) (key_failure_step _ _ _ _)

pub key_end : (ms : List Member) (ns : Members) (i : ℕ) → length ms ≤ i → key_failure (members_shape (drop i ms)) ns ≡ None
key_end ms ns i past = rw (drop_all i ms past) (key_failure_none ns)

pub case_step : (q : Policy) (r : Rep) (cs : List Case) (n : ℕ) (o : Option Shape) (i : ℕ) (c : Case) → i < length cs → c ≡ get_or cs i c
    → case_failure q r (cases_shape (drop i cs)) n o ≡ cond (c.id == n) (if_some o (λ u. step (Step.Member c.id) (failure q r false (type_shape c.ty) u))) (case_failure q r (cases_shape (drop (i + 1) cs)) n o)
case_step q r cs n o i c p is_c = rw (cases_shape_at cs i c p is_c) (case_failure_step q r _ _ _ _ _)

equal_numbers : (a b : ℕ) → a ≡ b → (a == b) ≡ true
equal_numbers a b e = grind (arith, tests)

unequal_numbers : (a b : ℕ) → (a ≡ b → ⊥) → (a == b) ≡ false
unequal_numbers a b e = grind (arith, tests)

pub case_end : (q : Policy) (r : Rep) (cs : List Case) (n : ℕ) (o : Option Shape) (i : ℕ) → length cs ≤ i → case_failure q r (cases_shape (drop i cs)) n o ≡ None
case_end q r cs n o i past = rw (drop_all i cs past) (case_failure_none q r n o)

both_left : (a b : Bool) → (a && b) ≡ true → a ≡ true
both_left true b e = refl
both_left false b e = e

both_right : (a b : Bool) → (a && b) ≡ true → b ≡ true
both_right true b e = e
both_right false b e = absurd (false≢true e)

from_either : (a b : Bool) → (a || b) ≡ true → (P : Type 0) → (a ≡ true → P) → (b ≡ true → P) → P
from_either true b e P f g = f refl
from_either false b e P f g = g e

is_some_first : First → Type 0
is_some_first None = ⊥
is_some_first (Some f) = Unit {0}

some_none : {f : Rule × List Step} → Some f ≡ None → ⊥
unfolding is_some_first
some_none e = subst is_some_first e tt

and_then_assoc : (a b c : First) → and_then (and_then a b) c ≡ and_then a (and_then b c)
and_then_assoc None b c = rw (and_then_none b, and_then_none (and_then b c)) refl
and_then_assoc (Some f) b c = rw (and_then_some f b, and_then_some f c, and_then_some f (and_then b c)) refl

pub first_of_append : {A : Type 0} (f : A → First) (xs ys : List A) → first_of f (xs ++ ys) ≡ and_then (first_of f xs) (first_of f ys)
first_of_append f [] ys = rw (first_of_none f) (sym (and_then_none _))
first_of_append f (x ∷ xs) ys =
    first_of_step f x (xs ++ ys) ∙ rw (first_of_append f xs ys, first_of_step f x xs) (sym (and_then_assoc (f x) (first_of f xs) (first_of f ys)))

-- a part's depth
part_depth : (ms : List Member) (i : ℕ) (d : Member) → i < length ms → depth (tree (get_or ms i d).ty) ≤ members_depth (members_tree ms)
part_depth [] i d p = absurd (omega (arith, p))
part_depth (x ∷ xs) zero d p = rw (member_tree_is x) (omega arith)
part_depth (x ∷ xs) (suc i) d p = rw (member_tree_is x) (omega (arith, part_depth xs i d (omega (arith, p))))

pub member_depth : (ms : List Member) (i : ℕ) (m : Member) → i < length ms → m ≡ get_or ms i m → depth (tree m.ty) ≤ members_depth (members_tree ms)
member_depth ms i m p is_m = rw (← is_m) at (part_depth ms i m p)

body_depth : (cs : List Case) (i : ℕ) (d : Case) → i < length cs → depth (tree (get_or cs i d).ty) ≤ cases_depth (cases_tree cs)
body_depth [] i d p = absurd (omega (arith, p))
body_depth (x ∷ xs) zero d p = rw (case_tree_is x) (omega arith)
body_depth (x ∷ xs) (suc i) d p = rw (case_tree_is x) (omega (arith, body_depth xs i d (omega (arith, p))))

pub case_depth : (cs : List Case) (i : ℕ) (c : Case) → i < length cs → c ≡ get_or cs i c → depth (tree c.ty) ≤ cases_depth (cases_tree cs)
case_depth cs i c p is_c = rw (← is_c) at (body_depth cs i c p)

-- a failure that was found, and one that was not
pub found_first : (f : Rule × List Step) (x rest here whole : First) → Some f ≡ x → here ≡ and_then x rest → here ≡ whole → Some f ≡ whole
found_first f x rest here whole found next is = sym (and_then_some f rest) ∙ ap (λ o. and_then o rest) found ∙ sym next ∙ is

pub passed_first : (x rest here whole : First) → None ≡ x → here ≡ and_then x rest → here ≡ whole → rest ≡ whole
passed_first x rest here whole passed next is = sym (and_then_none rest) ∙ ap (λ o. and_then o rest) passed ∙ sym next ∙ is

-- labels, one on
pub label_step : (f : ℤ → First) (ls : List ℤ) (i : ℕ) (l : ℤ) → i < length ls → l ≡ get_or ls i l → first_of f (drop i ls) ≡ and_then (f l) (first_of f (drop (i + 1) ls))
label_step f ls i l within is = rw (drop_more ls i l within, ← is) (first_of_step f l (drop (i + 1) ls))

pub label_end : (f : ℤ → First) (ls : List ℤ) (i : ℕ) → length ls ≤ i → first_of f (drop i ls) ≡ None
label_end f ls i past = rw (drop_all i ls past) (first_of_none f)

pub side_step : (f : ℤ → First) (cs : List Case) (i : ℕ) (c : Case) → i < length cs → c ≡ get_or cs i c
    → first_of f (all_labels (cases_shape (drop i cs))) ≡ and_then (first_of f c.labels) (first_of f (all_labels (cases_shape (drop (i + 1) cs))))
side_step f cs i c within is = rw (cases_shape_at cs i c within is) (first_of_append f c.labels (all_labels (cases_shape (drop (i + 1) cs))))

pub side_end : (f : ℤ → First) (cs : List Case) (i : ℕ) → length cs ≤ i → first_of f (all_labels (cases_shape (drop i cs))) ≡ None
side_end f cs i past = rw (drop_all i cs past) (first_of_none f)

pub depth_positive : (t : Tree) → 1 ≤ depth t
depth_positive (trees.prim p) = omega arith
depth_positive (trees.str n) = omega arith
depth_positive (trees.enumeration n e b ls) = omega arith
depth_positive (trees.bitmask n b fs) = omega arith
depth_positive (trees.sequence b tc t) = omega arith
depth_positive (trees.array ds tc t) = omega arith
depth_positive (trees.map_of b kc k vc v) = omega arith
depth_positive (trees.structure h ms) = omega arith
depth_positive (trees.union h d cs) = omega arith
depth_positive (trees.alias n t) = omega arith

pub key_passed : (ms : List Member) (ns : Members) (i : ℕ) (m : Member) → i < length ms → m ≡ get_or ms i m → true ≡ (not m.key || is_some_and (shape_at ns m.id) (λ u. key_fit (type_shape m.ty) u))
    → key_failure (members_shape (drop i ms)) ns ≡ key_failure (members_shape (drop (i + 1) ms)) ns
key_passed ms ns i m p is_m fits = key_step ms ns i m p is_m ∙ rw (← fits) refl

pub key_found : (ms : List Member) (ns : Members) (i : ℕ) (m : Member) → i < length ms → m ≡ get_or ms i m → false ≡ (not m.key || is_some_and (shape_at ns m.id) (λ u. key_fit (type_shape m.ty) u))
    → key_failure (members_shape (drop i ms)) ns ≡ Some (Rule.KeyFit, Step.Member m.id ∷ [])
key_found ms ns i m p is_m fits = key_step ms ns i m p is_m ∙ rw (← fits) refl

pub case_found : (q : Policy) (r : Rep) (cs : List Case) (n : ℕ) (o : Option Shape) (i : ℕ) (c : Case) → i < length cs → c ≡ get_or cs i c → c.id ≡ n
    → case_failure q r (cases_shape (drop i cs)) n o ≡ if_some o (λ u. step (Step.Member c.id) (failure q r false (type_shape c.ty) u))
case_found q r cs n o i c p is_c is = case_step q r cs n o i c p is_c ∙ rw (equal_numbers c.id n is) refl

pub case_passed : (q : Policy) (r : Rep) (cs : List Case) (n : ℕ) (o : Option Shape) (i : ℕ) (c : Case) → i < length cs → c ≡ get_or cs i c → (c.id ≡ n → ⊥)
    → case_failure q r (cases_shape (drop i cs)) n o ≡ case_failure q r (cases_shape (drop (i + 1) cs)) n o
case_passed q r cs n o i c p is_c differs = case_step q r cs n o i c p is_c ∙ rw (unequal_numbers c.id n differs) refl

pub short_within : (o : Option Failure) (a b : ℕ) → IfSome o (λ f. length f.path ≤ a) → a ≤ b → IfSome o (λ f. length f.path ≤ b)
short_within None a b h le = h
short_within (Some f) a b h le = omega (arith, h, le)

-- ---- a pair of cases that was met before

none_left : (a b : First) → and_then a b ≡ None → a ≡ None
none_left None b e = refl
none_left (Some f) b e = sym (and_then_some f b) ∙ e

none_right : (a b : First) → and_then a b ≡ None → b ≡ None
none_right None b e = sym (and_then_none b) ∙ e
none_right (Some f) b e = absurd (some_none (sym (and_then_some f b) ∙ e))

is_that : (o : Option ℕ) (i : ℕ) → is_case o i ≡ true → o ≡ Some i
is_that None i e = absurd (false≢true e)
is_that (Some k) i e = ap Some (grind (arith, tests, e))

-- what a label gives that selects two cases
pair_at : (f : ℕ → Option Shape → First) (cs ds : Cases) (l : ℤ) (i j : ℕ) → (is_selected cs l i && is_selected ds l j) ≡ true → case_pair f cs ds l ≡ f i (case_at ds j)
pair_at f cs ds l i j met =
    let left = is_that (select cs l) i (both_left _ _ met) in
    let right = is_that (select ds l) j (both_right _ _ met) in case_pair_is f cs ds l ∙ rw (left, right, if_some_some, if_some_some) refl

-- a pair of cases that one of some labels selects has no failure where none of these labels has one
met_passed : (f : ℕ → Option Shape → First) (cs ds : Cases) (ls : List ℤ) (i j : ℕ) → first_of (case_pair f cs ds) ls ≡ None → is_met cs ds ls i j ≡ true → f i (case_at ds j) ≡ None
met_passed f cs ds [] i j passed met = absurd (false≢true met)
met_passed f cs ds (l ∷ ls) i j passed met =
    let both = sym (first_of_step (case_pair f cs ds) l ls) ∙ passed in
    from_either (is_selected cs l i && is_selected ds l j) (is_met cs ds ls i j) met (f i (case_at ds j) ≡ None)
    (λ now. sym (pair_at f cs ds l i j now) ∙ none_left _ _ both) (λ later. met_passed f cs ds ls i j (none_right _ _ both) later)

met_by_passed : (f : ℕ → Option Shape → First) (cs ds side : Cases) (n i j : ℕ) → first_of (case_pair f cs ds) (all_labels side) ≡ None → is_met_by cs ds side n i j ≡ true → f i (case_at ds j) ≡ None
met_by_passed f cs ds no_cases n i j passed met = absurd (false≢true met)
met_by_passed f cs ds (one_case h t side) n i j passed met =
    let both = sym (first_of_append (case_pair f cs ds) h.labels (all_labels side)) ∙ passed in
    from_either ((h.id == n) && is_met cs ds h.labels i j) (is_met_by cs ds side n i j) met (f i (case_at ds j) ≡ None)
    (λ now. met_passed f cs ds h.labels i j (none_left _ _ both) (both_right _ _ now)) (λ later. met_by_passed f cs ds side n i j (none_right _ _ both) later)

pair_is : (f : ℕ → Option Shape → First) (cs ds : Cases) (l : ℤ) (i j : ℕ) → Some i ≡ select cs l → Some j ≡ select ds l → case_pair f cs ds l ≡ f i (case_at ds j)
pair_is f cs ds l i j at_left at_right = case_pair_is f cs ds l ∙ rw (← at_left, ← at_right, if_some_some, if_some_some) refl

-- labels by index
pub label_passed : (f : ℤ → First) (ls : List ℤ) (i : ℕ) (l : ℤ) → i < length ls → first_of f (take i ls) ≡ None → None ≡ f l → l ≡ get_or ls i l → first_of f (take (i + 1) ls) ≡ None
label_passed f ls i l within passed now is =
    rw (take_more ls i l within, ← is) (first_of_append f (take i ls) (l ∷ []) ∙ rw (passed, first_of_step f l [], ← now, first_of_none f) (and_then_none _ ∙ and_then_none _))

pub label_met : (q : Policy) (r : Rep) (cs ds : Cases) (ls : List ℤ) (l : ℤ) (i j : ℕ) → first_of (label_failure q r cs ds) ls ≡ None → true ≡ is_met cs ds ls i j → Some i ≡ select cs l → Some j ≡ select ds l → None ≡ label_failure q r cs ds l
label_met q r cs ds ls l i j passed met at_left at_right =
    let f : ℕ → Option Shape → First = λ n t. case_failure q r cs n t in sym (pair_is f cs ds l i j at_left at_right ∙ met_passed f cs ds ls i j passed (sym met))

pub label_met_by : (q : Policy) (r : Rep) (cs ds side : Cases) (l : ℤ) (n i j : ℕ) → first_of (label_failure q r cs ds) (all_labels side) ≡ None → true ≡ is_met_by cs ds side n i j → Some i ≡ select cs l → Some j ≡ select ds l → None ≡ label_failure q r cs ds l
label_met_by q r cs ds side l n i j passed met at_left at_right =
    let f : ℕ → Option Shape → First = λ n t. case_failure q r cs n t in sym (pair_is f cs ds l i j at_left at_right ∙ met_by_passed f cs ds side n i j passed (sym met))

pub default_met_by : (q : Policy) (r : Rep) (cs ds side : Cases) (n i j : ℕ) → first_of (label_failure q r cs ds) (all_labels side) ≡ None → true ≡ is_met_by cs ds side n i j → Some i ≡ default_case cs → Some j ≡ default_case ds → None ≡ default_failure q r cs ds
default_met_by q r cs ds side n i j passed met at_left at_right =
    let f : ℕ → Option Shape → First = λ n t. case_failure q r cs n t in rw (← at_left, ← at_right, if_some_some, if_some_some) (sym (met_by_passed f cs ds side n i j passed (sym met)))

-- a label that was tried already
int_same : (a b : ℤ) → int_eq a b ≡ true → a ≡ b
int_same a b e = grind (arith, tests, e)

label_among : (f : ℤ → First) (ls : List ℤ) (d : ℤ) → first_of f ls ≡ None → has (int_eq d) ls ≡ true → f d ≡ None
label_among f [] d passed found = absurd (false≢true found)
label_among f (l ∷ ls) d passed found =
    let both = sym (first_of_step f l ls) ∙ passed in
    from_either (int_eq d l) (has (int_eq d) ls) found (f d ≡ None) (λ here. ap f (int_same d l here) ∙ none_left _ _ both) (λ later. label_among f ls d (none_right _ _ both) later)

among_tried : (f : ℤ → First) (cs : Cases) (d : ℤ) → first_of f (all_labels cs) ≡ None → has_label cs d ≡ true → f d ≡ None
among_tried f no_cases d passed found = absurd (false≢true found)
among_tried f (one_case h t cs) d passed found =
    let both = sym (first_of_append f h.labels (all_labels cs)) ∙ passed in
    from_either (has (int_eq d) h.labels) (has_label cs d) found (f d ≡ None) (λ here. label_among f h.labels d (none_left _ _ both) here) (λ later. among_tried f cs d (none_right _ _ both) later)

pub label_tried : (q : Policy) (r : Rep) (cs ds tried : Cases) (d l : ℤ) → first_of (label_failure q r cs ds) (all_labels tried) ≡ None → true ≡ has_label tried d → d ≡ l → None ≡ label_failure q r cs ds l
label_tried q r cs ds tried d l passed found same = rw (← same) (sym (among_tried (label_failure q r cs ds) tried d passed (sym found)))
