-- The case that a number selects, and what is read of it.
use Rattle.std.proofs.Common.{◌≡◌, refl, sym, ap, ◌∙◌, ℕ, zero, suc, ◌<◌, ℤ, Bool, true, false, cond, ◌&&◌, ◌==◌, List, [], ◌∷◌, length, get_or, Option, Some, None, Ok, arith, nat_eq, subst}
use Rattle.std.proofs.lemmas.Bool.{eqb-true}
use Rattle.std.specs.Option.{option_map}
use Rattle.xt_shapes.specs.declared.leaves.Order.{Order}
use Rattle.xt_shapes.specs.Select.{select}
use Rattle.xt_shapes.specs.Shape.{CaseHead, Shape, Cases, no_cases, one_case}
use Rattle.type_trees.specs.declared.types.Case as declared
use Rattle.type_trees.specs.Bridge.{type_shape, cases_shape, case_head}
use Rattle.type_trees.proofs.Views.{case_tree_is}
use Rattle.xcdr_model.specs.declared.malformed.Why.TheVariants.{Short}
use Rattle.xcdr_model.specs.Projection.{Part, Body, no_body, one_sided, settled_case, whole_union, disc_built}
use Rattle.xcdr_model.specs.Reading.{Spot, Reading, fault_at, ◌>>=◌, filling}
use Rattle.xcdr_model.specs.Xcdr1Reading.{at_end_of, case_read, read_case1}
use Rattle.xcdr_model.specs.Xcdr2Reading.{read, read_case, done, scalar_at}
use Rattle.xt_wire.specs.cursor.Standing.{Standing, Stands}
use Rattle.xt_wire.specs.cursor.Decoding.{spot}
use Rattle.xt_wire.proofs.OfCursor.Ahead.{Ahead, begins, rephrased, ended_is}
use Rattle.xcdr_steps.specs.declared.reading.choices.Choice.{Choice}
use Rattle.xcdr_steps.specs.declared.reading.choices.Choice.TheVariants.{NoCase, OneSided, Case}
use Rattle.try_construct.specs.Guides.{case_index, selected_index}
use Rattle.try_construct.proofs.CasesByIndex.{Selects, number_selects}
use Rattle.xcdr_steps.specs.reading.Cases.{choice_of, choice}
use Rattle.xcdr_reader.specs.declared.modes.Mode.{Mode}
use Rattle.xcdr_reader.specs.declared.modes.Mode.TheVariants.{Two, Inner, Tail}
use Rattle.xcdr_reader.specs.Modes.{read_in, most, fills, to_end}
use Rattle.xcdr_reader.specs.Parts.{case_named, case_selected, case_in, body_read, union_read}
use Rattle.xcdr_reader.proofs.Regions.{done_filling, same_filling}

-- the case with that index
abbrev pub case_at : Cases → ℕ → Option (CaseHead × Shape)
case_at no_cases i = None
case_at (one_case h t cs) zero = Some (h, t)
case_at (one_case h t cs) (suc i) = case_at cs i

abbrev of_case : Mode → Bool → Option (CaseHead × Shape) → Order → Spot → Reading (Body × Bool)
of_case m filled None o s = fault_at s.at Short
of_case m filled (Some x) o s = body_read m filled x.0 x.1 o s

abbrev by_index : Mode → Cases → Option ℕ → Order → Spot → Reading (Body × Bool)
by_index m cs None o s = fault_at s.at Short
by_index m cs (Some i) o s = of_case m false (case_at cs i) o s

abbrev pub by_choice : Mode → Bool → Cases → Choice → Order → Spot → Reading (Body × Bool)
by_choice m filled cs NoCase o s = Ok ((no_body, false), s)
by_choice m filled cs OneSided o s = to_end m (one_sided, false) s
by_choice m filled cs (Case i) o s = of_case m filled (case_at cs i) o s

later_index : (m : Mode) (h : CaseHead) (t : Shape) (cs : Cases) (x : Option ℕ) (o : Order) (s : Spot) → by_index m cs x o s ≡ by_index m (one_case h t cs) (option_map (λ i. suc i) x) o s
later_index m h t cs None o s = refl
later_index m h t cs (Some i) o s = refl

-- the first case, or one behind it
case_more : (m : Mode) (o : Order) (h : CaseHead) (t : Shape) (cs : Cases) (id : ℕ) (s : Spot) → case_named m o (one_case h t cs) id s ≡ cond (h.id == id) (done (λ x. settled_case h t x) (read_in m o t s)) (case_named m o cs id s)
unfolding read_case read_case1
case_more Two o h t cs id s = refl
case_more Inner o h t cs id s = refl
case_more Tail o h t cs id s = refl

case_none : (m : Mode) (o : Order) (id : ℕ) (s : Spot) → case_named m o no_cases id s ≡ fault_at s.at Short
unfolding read_case read_case1
case_none Two o id s = refl
case_none Inner o id s = refl
case_none Tail o id s = refl

found : (m : Mode) (cs : Cases) (id : ℕ) (o : Order) (s : Spot) → case_named m o cs id s ≡ by_index m cs (case_index cs id) o s
found m no_cases id o s = case_none m o id s
found m (one_case h t cs) id o s = case_more m o h t cs id s ∙ by_test (h.id == id) (found m cs id o s)
  where
    by_test : (b : Bool) → case_named m o cs id s ≡ by_index m cs (case_index cs id) o s → cond b (done (λ x. settled_case h t x) (read_in m o t s)) (case_named m o cs id s) ≡ by_index m (one_case h t cs) (cond b (Some 0) (option_map (λ i. suc i) (case_index cs id))) o s
    by_test true more = refl
    by_test false more = more ∙ later_index m h t cs (case_index cs id) o s

at_index : (m : Mode) (cs : Cases) (id i : ℕ) (o : Order) (s : Spot) → case_index cs id ≡ Some i → case_named m o cs id s ≡ of_case m false (case_at cs i) o s
at_index m cs id i o s is = found m cs id o s ∙ ap (λ x. by_index m cs x o s) is

-- ---- in XCDR2: a case that has the rest of its region uses it up

filled_case : (x : Option (CaseHead × Shape)) (o : Order) (s : Spot) → filling (length s.rest) (λ s2. of_case Two false x o s2) s ≡ of_case Two true x o s
unfolding filling ◌>>=◌
filled_case None o s = refl
filled_case (Some x) o s = sym (done_filling (λ y. settled_case x.0 x.1 y) (length s.rest) (λ s1. read o x.1 s1) s)

case_filled : (cs : Cases) (id i : ℕ) (o : Order) (s : Spot) → case_index cs id ≡ Some i → filling (length s.rest) (λ s2. read_case o cs id s2) s ≡ of_case Two true (case_at cs i) o s
case_filled cs id i o s is =
    same_filling (length s.rest) (λ s2. read_case o cs id s2) (λ s2. of_case Two false (case_at cs i) o s2) s (at_index Two cs id i o _ is)
    ∙ filled_case (case_at cs i) o s

-- ---- in XCDR1: what is left of the region is passed over

ended_spot : {A : Type 0} (x : A) (at : ℕ) (rest : List ℕ) → (length rest == 0) ≡ true → at_end_of x (record { at = at; rest = rest }) ≡ Ok (x, record { at = at; rest = rest })
ended_spot x at [] e = ap (λ (k : ℕ). Ok (x, record { at = k; rest = [] })) (omega arith)
ended_spot x at (y ∷ ys) e = (let none = eqb-true (length (y ∷ ys)) 0 e in absurd (omega (arith, none)))

own_case : (m : Mode) (x : Option (CaseHead × Shape)) (o : Order) (s : Spot) → fills m ≡ false → of_case m false x o s ≡ of_case m true x o s
own_case m None o s e = refl
own_case m (Some x) o s e = rw e refl

own_selected : (m : Mode) (filled ended : Bool) (cs : Cases) (x p : Option ℕ) (o : Order) (s : Spot) → Selects cs x p → fills m ≡ false → ((y : Body × Bool) → to_end m y s ≡ at_end_of y s) → (length s.rest == 0) ≡ ended
    → case_read filled x (λ id s1. case_named m o cs id s1) s ≡ by_choice m filled cs (choice_of filled ended p) o s
own_selected m false ended cs None p o s is plain end e = rw is refl
own_selected m false ended cs (Some id) p o s (i, (at, is)) plain end e = rw is (at_index m cs id i o s at)
own_selected m true true cs None p o s is plain end e = rw (is, e) (ended_spot (no_body, false) s.at s.rest e)
own_selected m true false cs None p o s is plain end e = rw (is, e) (sym (end (one_sided, false)))
own_selected m true true cs (Some id) p o s (i, (at, is)) plain end e = rw (is, e) (sym (end (one_sided, false) ∙ ended_spot (one_sided, false) s.at s.rest e))
own_selected m true false cs (Some id) p o s (i, (at, is)) plain end e = rw (is, e) (at_index m cs id i o s at ∙ own_case m (case_at cs i) o s plain)

-- ---- in each mode

selected : (m : Mode) (filled ended : Bool) (cs : Cases) (x p : Option ℕ) (o : Order) (s : Spot) → Selects cs x p → (length s.rest == 0) ≡ ended
    → case_selected m filled x (λ id s1. case_named m o cs id s1) s ≡ by_choice m filled cs (choice_of filled ended p) o s
selected Two false ended cs None p o s is e = rw is refl
selected Two false ended cs (Some id) p o s (i, (at, is)) e = rw is (at_index Two cs id i o s at)
selected Two true true cs None p o s is e = rw (is, e) refl
selected Two true false cs None p o s is e = rw (is, e) refl
selected Two true true cs (Some id) p o s (i, (at, is)) e = rw (is, e) refl
selected Two true false cs (Some id) p o s (i, (at, is)) e = rw (is, e) (case_filled cs id i o s at)
selected Inner filled ended cs x p o s is e = own_selected Inner filled ended cs x p o s is refl (λ y. refl) e
selected Tail filled ended cs x p o s is e = own_selected Tail filled ended cs x p o s is refl (λ y. refl) e

pub chosen : (m : Mode) (filled ended : Bool) (cs : Cases) (d : ℤ) (k : Choice) (a : Standing) → Stands a → ended ≡ (true && nat_eq a.place a.region_end) → k ≡ choice filled ended cs d → Ahead (case_in m filled cs d) (by_choice m filled cs k) a a
chosen m filled ended cs d k a st is e = rephrased (case_in m filled cs d) (by_choice m filled cs k) (begins (case_in m filled cs d) (case_in m filled cs d) a (λ s. refl))
    (λ xs told. selected m filled ended cs (select cs d) (selected_index cs d) a.order (spot a xs) (number_selects cs d) (ended_is a xs st told ∙ sym is) ∙ ap (λ c. by_choice m filled cs c a.order (spot a xs)) (sym e))

-- ---- the program's cases

pub case_item : (cs : List declared.Case) (i : ℕ) (d : declared.Case) → i < length cs → case_at (cases_shape cs) i ≡ Some (case_head (get_or cs i d), type_shape (get_or cs i d).ty)
case_item [] i d within = absurd (omega arith)
case_item (c ∷ cs) zero d within = rw (case_tree_is c) refl
case_item (c ∷ cs) (suc i) d within = rw (case_tree_is c) (case_item cs i d (omega arith))

pub of_item : (k : Mode) (filled : Bool) (cs : List declared.Case) (i : ℕ) (m : declared.Case) {f : Order → Spot → Reading (Body × Bool)} {a b : Standing} → i < length cs → m ≡ get_or cs i m → Ahead f (by_choice k filled (cases_shape cs) (Case i)) a b → Ahead f (body_read k filled (case_head m) (type_shape m.ty)) a b
of_item k filled cs i m {f} {a} {b} within is u =
    let goal : declared.Case → Type 0 = λ n. Ahead f (body_read k filled (case_head n) (type_shape n.ty)) a b in
    subst goal (sym is) (rephrased (by_choice k filled (cases_shape cs) (Case i)) (body_read k filled (case_head (get_or cs i m)) (type_shape (get_or cs i m).ty)) u (λ xs e. rw (case_item cs i m within) refl))

-- ---- unions

abbrev pub union_made : Shape → ℤ → Body × Bool → Order → Spot → Reading Part
union_made disc d b o s = Ok (whole_union (disc_built disc d) d b, s)

abbrev pub union_behind : Mode → Bool → Shape → Cases → ℤ → Order → Spot → Reading Part
union_behind k filled disc cs d o s = case_in k filled cs d o s >>= λ b. union_made disc d b.0 o b.1

pub union_begin : (k : Mode) (filled : Bool) (disc : Shape) (cs : Cases) (a : Standing) → Ahead (union_read k filled disc cs) (λ o s. scalar_at (most k) o disc s >>= λ d. union_behind k filled disc cs d.0 o d.1) a a
union_begin k filled disc cs a = begins (union_read k filled disc cs) _ a (λ s. refl)
