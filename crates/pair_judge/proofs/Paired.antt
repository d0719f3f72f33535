-- Members and cases one on, and what their lists say.
use Rattle.std.proofs.lemmas.Bool.{eqb-true}
use Rattle.std.proofs.Common.{◌≡◌, ◌==◌, cond, Bool, true, false, refl, sym, ap, subst, ◌∙◌, ℕ, ℤ, ◌+◌, ◌<◌, ◌≤◌, List, [], ◌∷◌, ◌++◌, length, get_or, drop, map, Option, Some, None}
use Rattle.std.proofs.lemmas.List.{drop_more, drop_all}
use Rattle.std.specs.Prelude.{Result}
use Rattle.xt_shapes.specs.declared.leaves.Ext.{Ext}
use Rattle.xt_shapes.specs.declared.leaves.Rep.{Rep}
use Rattle.xt_shapes.specs.declared.leaves.Step.{Step}
use Rattle.xt_shapes.specs.Shape.{Shape, CaseHead, structure, union, Cases, no_cases, one_case}
use Rattle.xt_shapes.specs.Select.{shape_at, default_case, case_at}
use Rattle.xcdr_model.specs.declared.verdict.Policy.{Policy}
use Rattle.xcdr_model.specs.Failure.{First, and_then, step, if_some, strong, failure, index_failure, id_failure, case_failure, first_of, case_pair, case_pairs, all_labels, structure_rules, structure_ends, union_rules}
use Rattle.pair_memo.specs.declared.nodes.parts.Part.{Part}
use Rattle.pair_memo.specs.declared.nodes.parts.Arm.{Arm}
use Rattle.pair_judge.specs.declared.stops.Stop.{Stop}
use Rattle.pair_judge.specs.Judged.{Says, Ends}
use Rattle.pair_memo.specs.nodes.Seen as seen
use Rattle.pair_memo.specs.nodes.Seen.{See, members_in, cases_in}
use Rattle.pair_memo.specs.nodes.Views.{part_view, arm_view, parts_in, arms_in, bare_cases}
use Rattle.node_judge.proofs.Failing.{and_then_none, and_then_some, index_failure_left, index_failure_right, index_failure_step, id_failure_none, id_failure_step, first_of_none, first_of_step, failure_structure, failure_union, of_kind_some, if_some_some, if_some_none, case_failure_none, case_failure_step}
use Rattle.pair_judge.proofs.Ends.{ends_and_then}

module _ (q : Policy) (r : Rep) (see : See) where
  index_step : (ms ns : List Part) (i : ℕ) (m n : Part) → i < length ms → i < length ns → m ≡ get_or ms i m → n ≡ get_or ns i n
      → index_failure q r (parts_in see (drop i ms)) (parts_in see (drop i ns))
      ≡ and_then (step (Step.Member m.id) (strong r (see (part_view m).1) (see (part_view n).1) (failure q r false (see (part_view m).1) (see (part_view n).1)))) (index_failure q r (parts_in see (drop (i + 1) ms)) (parts_in see (drop (i + 1) ns)))
  index_step ms ns i m n p p2 is_m is_n = rw (drop_more ms i m p, drop_more ns i n p2, ← is_m, ← is_n) (index_failure_step q r _ _ _ _ _ _)

  id_step : (ms ns : List Part) (i : ℕ) (m : Part) → i < length ms → m ≡ get_or ms i m
      → id_failure q r (parts_in see (drop i ms)) (parts_in see ns) ≡ and_then (if_some (shape_at (parts_in see ns) m.id) (λ u. step (Step.Member m.id) (failure q r false (see (part_view m).1) u))) (id_failure q r (parts_in see (drop (i + 1) ms)) (parts_in see ns))
  id_step ms ns i m p is_m = rw (drop_more ms i m p, ← is_m) (id_failure_step q r _ _ _ _)

  pub index_stops : (stop : Stop) (ms ns : List Part) (i : ℕ) (m n : Part) → i < length ms → i < length ns → m ≡ get_or ms i m → n ≡ get_or ns i n → index_failure q r (parts_in see (drop i ms)) (parts_in see (drop i ns)) ≡ index_failure q r (parts_in see ms) (parts_in see ns)
      → Ends stop (step (Step.Member m.id) (strong r (see (part_view m).1) (see (part_view n).1) (failure q r false (see (part_view m).1) (see (part_view n).1)))) → Ends stop (index_failure q r (parts_in see ms) (parts_in see ns))
  index_stops stop ms ns i m n p p2 is_m is_n inv e = subst (λ f. Ends stop f) (sym (index_step ms ns i m n p p2 is_m is_n) ∙ inv) (ends_and_then stop _ _ e)

  pub index_goes_on : (ms ns : List Part) (i : ℕ) (m n : Part) → i < length ms → i < length ns → m ≡ get_or ms i m → n ≡ get_or ns i n → index_failure q r (parts_in see (drop i ms)) (parts_in see (drop i ns)) ≡ index_failure q r (parts_in see ms) (parts_in see ns)
      → step (Step.Member m.id) (strong r (see (part_view m).1) (see (part_view n).1) (failure q r false (see (part_view m).1) (see (part_view n).1))) ≡ None → index_failure q r (parts_in see (drop (i + 1) ms)) (parts_in see (drop (i + 1) ns)) ≡ index_failure q r (parts_in see ms) (parts_in see ns)
  index_goes_on ms ns i m n p p2 is_m is_n inv e = sym (and_then_none _) ∙ ap (λ f. and_then f (index_failure q r (parts_in see (drop (i + 1) ms)) (parts_in see (drop (i + 1) ns)))) (sym e) ∙ sym (index_step ms ns i m n p p2 is_m is_n) ∙ inv

  pub index_left : (ms ns : List Part) (i : ℕ) → length ms ≤ i → index_failure q r (parts_in see (drop i ms)) (parts_in see (drop i ns)) ≡ index_failure q r (parts_in see ms) (parts_in see ns) → index_failure q r (parts_in see ms) (parts_in see ns) ≡ None
  index_left ms ns i past inv = sym inv ∙ ap (λ l. index_failure q r (parts_in see l) (parts_in see (drop i ns))) (drop_all i ms past) ∙ index_failure_left q r _

  pub index_right : (ms ns : List Part) (i : ℕ) → length ns ≤ i → index_failure q r (parts_in see (drop i ms)) (parts_in see (drop i ns)) ≡ index_failure q r (parts_in see ms) (parts_in see ns) → index_failure q r (parts_in see ms) (parts_in see ns) ≡ None
  index_right ms ns i past inv = sym inv ∙ ap (λ l. index_failure q r (parts_in see (drop i ms)) (parts_in see l)) (drop_all i ns past) ∙ index_failure_right q r _

  pub id_stops : (stop : Stop) (ms ns : List Part) (i : ℕ) (m : Part) → i < length ms → m ≡ get_or ms i m → id_failure q r (parts_in see (drop i ms)) (parts_in see ns) ≡ id_failure q r (parts_in see ms) (parts_in see ns)
      → Ends stop (if_some (shape_at (parts_in see ns) m.id) (λ u. step (Step.Member m.id) (failure q r false (see (part_view m).1) u))) → Ends stop (id_failure q r (parts_in see ms) (parts_in see ns))
  id_stops stop ms ns i m p is_m inv e = subst (λ f. Ends stop f) (sym (id_step ms ns i m p is_m) ∙ inv) (ends_and_then stop _ _ e)

  pub id_goes_on : (ms ns : List Part) (i : ℕ) (m : Part) → i < length ms → m ≡ get_or ms i m → id_failure q r (parts_in see (drop i ms)) (parts_in see ns) ≡ id_failure q r (parts_in see ms) (parts_in see ns)
      → if_some (shape_at (parts_in see ns) m.id) (λ u. step (Step.Member m.id) (failure q r false (see (part_view m).1) u)) ≡ None → id_failure q r (parts_in see (drop (i + 1) ms)) (parts_in see ns) ≡ id_failure q r (parts_in see ms) (parts_in see ns)
  id_goes_on ms ns i m p is_m inv e = sym (and_then_none _) ∙ ap (λ f. and_then f (id_failure q r (parts_in see (drop (i + 1) ms)) (parts_in see ns))) (sym e) ∙ sym (id_step ms ns i m p is_m) ∙ inv

  pub id_done : (ms ns : List Part) (i : ℕ) → length ms ≤ i → id_failure q r (parts_in see (drop i ms)) (parts_in see ns) ≡ id_failure q r (parts_in see ms) (parts_in see ns) → id_failure q r (parts_in see ms) (parts_in see ns) ≡ None
  id_done ms ns i past inv = sym inv ∙ ap (λ l. id_failure q r (parts_in see l) (parts_in see ns)) (drop_all i ms past) ∙ id_failure_none q r _

-- ---- labels and cases

and_then_assoc : (a b c : First) → and_then (and_then a b) c ≡ and_then a (and_then b c)
and_then_assoc None b c = rw (and_then_none b, and_then_none (and_then b c)) refl
and_then_assoc (Some f) b c = rw (and_then_some f b, and_then_some f c, and_then_some f (and_then b c)) refl

first_of_append : {A : Type 0} (f : A → First) (xs ys : List A) → first_of f (xs ++ ys) ≡ and_then (first_of f xs) (first_of f ys)
first_of_append f [] ys = rw (first_of_none f) (sym (and_then_none _))
first_of_append f (x ∷ xs) ys = first_of_step f x (xs ++ ys) ∙ rw (first_of_append f xs ys, first_of_step f x xs) (sym (and_then_assoc (f x) (first_of f xs) (first_of f ys)))

label_step : (f : ℤ → First) (ls : List ℤ) (i : ℕ) (d : ℤ) → i < length ls → d ≡ get_or ls i d → first_of f (drop i ls) ≡ and_then (f d) (first_of f (drop (i + 1) ls))
label_step f ls i d p is = rw (drop_more ls i d p, ← is) (first_of_step f d _)

pub label_stops : (stop : Stop) (f : ℤ → First) (ls : List ℤ) (i : ℕ) (d : ℤ) → i < length ls → d ≡ get_or ls i d → first_of f (drop i ls) ≡ first_of f ls → Ends stop (f d) → Ends stop (first_of f ls)
label_stops stop f ls i d p is inv e = subst (λ x. Ends stop x) (sym (label_step f ls i d p is) ∙ inv) (ends_and_then stop _ _ e)

pub label_goes_on : (f : ℤ → First) (ls : List ℤ) (i : ℕ) (d : ℤ) → i < length ls → d ≡ get_or ls i d → first_of f (drop i ls) ≡ first_of f ls → f d ≡ None → first_of f (drop (i + 1) ls) ≡ first_of f ls
label_goes_on f ls i d p is inv e = sym (and_then_none _) ∙ ap (λ x. and_then x (first_of f (drop (i + 1) ls))) (sym e) ∙ sym (label_step f ls i d p is) ∙ inv

pub label_done : (f : ℤ → First) (ls : List ℤ) (i : ℕ) → length ls ≤ i → first_of f (drop i ls) ≡ first_of f ls → first_of f ls ≡ None
label_done f ls i past inv = sym inv ∙ ap (first_of f) (drop_all i ls past) ∙ first_of_none f

side_step : (f : ℤ → First) (cs : List Arm) (i : ℕ) (c : Arm) → i < length cs → c ≡ get_or cs i c → first_of f (all_labels (bare_cases (drop i cs))) ≡ and_then (first_of f c.labels.now) (first_of f (all_labels (bare_cases (drop (i + 1) cs))))
side_step f cs i c p is = rw (drop_more cs i c p, ← is) (first_of_append f c.labels.now _)

pub side_stops : (stop : Stop) (f : ℤ → First) (cs : List Arm) (i : ℕ) (c : Arm) → i < length cs → c ≡ get_or cs i c → first_of f (all_labels (bare_cases (drop i cs))) ≡ first_of f (all_labels (bare_cases cs)) → Ends stop (first_of f c.labels.now) → Ends stop (first_of f (all_labels (bare_cases cs)))
side_stops stop f cs i c p is inv e = subst (λ x. Ends stop x) (sym (side_step f cs i c p is) ∙ inv) (ends_and_then stop _ _ e)

pub side_goes_on : (f : ℤ → First) (cs : List Arm) (i : ℕ) (c : Arm) → i < length cs → c ≡ get_or cs i c → first_of f (all_labels (bare_cases (drop i cs))) ≡ first_of f (all_labels (bare_cases cs)) → first_of f c.labels.now ≡ None → first_of f (all_labels (bare_cases (drop (i + 1) cs))) ≡ first_of f (all_labels (bare_cases cs))
side_goes_on f cs i c p is inv e = sym (and_then_none _) ∙ ap (λ x. and_then x (first_of f (all_labels (bare_cases (drop (i + 1) cs))))) (sym e) ∙ sym (side_step f cs i c p is) ∙ inv

pub side_done : (f : ℤ → First) (cs : List Arm) (i : ℕ) → length cs ≤ i → first_of f (all_labels (bare_cases (drop i cs))) ≡ first_of f (all_labels (bare_cases cs)) → first_of f (all_labels (bare_cases cs)) ≡ None
side_done f cs i past inv = sym inv ∙ ap (λ l. first_of f (all_labels (bare_cases l))) (drop_all i cs past) ∙ first_of_none f

labels_same : (see : See) (cs : List Arm) → all_labels (bare_cases cs) ≡ all_labels (arms_in see cs)
labels_same see [] = refl
labels_same see (c ∷ cs) = ap (λ l. c.labels.now ++ l) (labels_same see cs)

module _ (f : ℕ → Option Shape → First) (see : See) (cs ds : List Arm) where
  abbrev pair_at : ℤ → First
  pair_at d = case_pair f (arms_in see cs) (arms_in see ds) d

  abbrev last : First
  last = if_some (default_case (arms_in see cs)) (λ i. if_some (default_case (arms_in see ds)) (λ j. f i (case_at (arms_in see ds) j)))

  all_pairs_are : case_pairs f (arms_in see cs) (arms_in see ds) ≡ and_then (and_then (first_of pair_at (all_labels (bare_cases ds))) (first_of pair_at (all_labels (bare_cases cs)))) last
  all_pairs_are = ap (λ x. and_then x last) (first_of_append pair_at (all_labels (arms_in see ds)) (all_labels (arms_in see cs)) ∙ ap (λ l. and_then (first_of pair_at l) (first_of pair_at (all_labels (arms_in see cs)))) (sym (labels_same see ds)) ∙ ap (λ l. and_then (first_of pair_at (all_labels (bare_cases ds))) (first_of pair_at l)) (sym (labels_same see cs)))

  pub pairs_stop : (stop : Stop) → Ends stop (first_of (case_pair f (arms_in see cs) (arms_in see ds)) (all_labels (bare_cases ds))) → Ends stop (case_pairs f (arms_in see cs) (arms_in see ds))
  pairs_stop stop e = subst (λ x. Ends stop x) (sym all_pairs_are) (ends_and_then stop _ _ (ends_and_then stop _ _ e))

  pub pairs_stop_left : (stop : Stop) → first_of (case_pair f (arms_in see cs) (arms_in see ds)) (all_labels (bare_cases ds)) ≡ None → Ends stop (first_of (case_pair f (arms_in see cs) (arms_in see ds)) (all_labels (bare_cases cs))) → Ends stop (case_pairs f (arms_in see cs) (arms_in see ds))
  pairs_stop_left stop h e = subst (λ x. Ends stop x) (sym all_pairs_are) (ends_and_then stop _ _ (subst (λ x. Ends stop x) (sym (ap (λ x. and_then x (first_of pair_at (all_labels (bare_cases cs)))) h ∙ and_then_none _)) e))

  pub pairs_are : first_of (case_pair f (arms_in see cs) (arms_in see ds)) (all_labels (bare_cases ds)) ≡ None → first_of (case_pair f (arms_in see cs) (arms_in see ds)) (all_labels (bare_cases cs)) ≡ None → case_pairs f (arms_in see cs) (arms_in see ds) ≡ if_some (default_case (arms_in see cs)) (λ i. if_some (default_case (arms_in see ds)) (λ j. f i (case_at (arms_in see ds) j)))
  pairs_are e h = all_pairs_are ∙ ap (λ x. and_then (and_then x (first_of pair_at (all_labels (bare_cases cs)))) last) e ∙ ap (λ x. and_then (and_then None x) last) h ∙ ap (λ x. and_then x last) (and_then_none None) ∙ and_then_none last

pub ruleset pair_rules = (pairs_stop, pairs_stop_left, pairs_are)

-- at a case that is there
case_by : (q : Policy) (r : Rep) (h : CaseHead) (t : Shape) (i : ℕ) (o : Option Shape) (rest : First) (more : Option Shape) (b : Bool) → (h.id == i) ≡ b → rest ≡ if_some more (λ t. if_some o (λ u. step (Step.Member i) (failure q r false t u)))
    → cond b (if_some o (λ u. step (Step.Member h.id) (failure q r false t u))) rest ≡ if_some (cond b (Some t) more) (λ t. if_some o (λ u. step (Step.Member i) (failure q r false t u)))
case_by q r h t i o rest more true e f = ap (λ (n : ℕ). if_some o (λ u. step (Step.Member n) (failure q r false t u))) (eqb-true h.id i e) ∙ sym (if_some_some t _)
case_by q r h t i o rest more false e f = f

pub case_is : (q : Policy) (r : Rep) (cs : Cases) (i : ℕ) (o : Option Shape) → case_failure q r cs i o ≡ if_some (case_at cs i) (λ t. if_some o (λ u. step (Step.Member i) (failure q r false t u)))
case_is q r no_cases i o = case_failure_none q r i o ∙ sym (if_some_none _)
case_is q r (one_case h t cs) i o = case_failure_step q r h t cs i o ∙ case_by q r h t i o (case_failure q r cs i o) (case_at cs i) (h.id == i) refl (case_is q r cs i o)

-- a pair of structures or unions, from their lists
module _ {A : Type 0} (answer : Result A Stop) (q : Policy) (r : Rep) (top : Bool) (see : See) where
  pub structures_say : (e e2 : Ext) (ps qs : List Part) (xs ys : List seen.Part) → map part_view ps ≡ xs → map part_view qs ≡ ys → Says answer (structure_rules q top e (parts_in see ps) e2 (parts_in see qs) (structure_ends q r e (parts_in see ps) (parts_in see qs))) → Says answer (failure q r top (structure e (members_in see xs)) (structure e2 (members_in see ys)))
  structures_say e e2 ps qs xs ys f g h =
      subst (λ (a : List seen.Part). Says answer (failure q r top (structure e (members_in see a)) (structure e2 (members_in see ys)))) f (subst (λ (a : List seen.Part). Says answer (failure q r top (structure e (parts_in see ps)) (structure e2 (members_in see a)))) g
      (subst (λ x. Says answer x) (sym (failure_structure q r top e (parts_in see ps) (structure e2 (parts_in see qs)) ∙ of_kind_some (e2, parts_in see qs) (λ x. structure_rules q top e (parts_in see ps) x.0 x.1 (structure_ends q r e (parts_in see ps) x.1)))) h))

  pub unions_say : (e e2 : Ext) (k k2 : Bool) (d d2 : Shape) (ps qs : List Arm) (xs ys : List seen.Arm) → map arm_view ps ≡ xs → map arm_view qs ≡ ys → Says answer (union_rules q r top (e, k, d, arms_in see ps) (e2, k2, d2, arms_in see qs)) → Says answer (failure q r top (union e k d (cases_in see xs)) (union e2 k2 d2 (cases_in see ys)))
  unions_say e e2 k k2 d d2 ps qs xs ys f g h =
      subst (λ (a : List seen.Arm). Says answer (failure q r top (union e k d (cases_in see a)) (union e2 k2 d2 (cases_in see ys)))) f (subst (λ (a : List seen.Arm). Says answer (failure q r top (union e k d (arms_in see ps)) (union e2 k2 d2 (cases_in see a)))) g
      (subst (λ x. Says answer x) (sym (failure_union q r top e k d (arms_in see ps) (union e2 k2 d2 (arms_in see qs)) ∙ of_kind_some (e2, k2, d2, arms_in see qs) (λ x. union_rules q r top (e, k, d, arms_in see ps) x))) h))
