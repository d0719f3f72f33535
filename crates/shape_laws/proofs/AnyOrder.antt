-- Members in any order: what is read piece by piece is the projection by ids.
use Rattle.std.proofs.Common.{◌≡◌, ℕ, Bool, true, false, cond, not, ◌||◌, List, [], ◌∷◌, Option, Some, None, Ok, refl, sym, ap, subst, ◌∙◌, inl, inr, ◌⊎◌, ◌==◌}
use mathlib.Core.Path.{fun_ext}
use Rattle.std.proofs.lemmas.Bool.{cases_Bool, eq-eqb, ne_eqb, eqb-true, eqb-false, or_parts, or_left, or_right, or_from, and_parts, not-true, both_ways}
use Rattle.std.specs.List.{AllByRecursion}
use Rattle.xt_shapes.specs.declared.leaves.Order.{Order}
use Rattle.xt_shapes.specs.Lists.{has}
use Rattle.xt_shapes.specs.Select.{has_member, is_must, shape_at}
use Rattle.xt_shapes.specs.Shape.{Head, Shape, Members, no_members, member}
use Rattle.xt_shapes.specs.Vals.{Val, Slots, Slot, absent, present, first, others}
use Rattle.xcdr_model.specs.Projection.{Built, Part, projected, projected_members, part_at, with_shape, with_part, is_present, built_at}
use Rattle.xcdr_model.specs.Reading.{Spot, Reading}
use Rattle.xcdr_model.specs.Xcdr2Reading.{Piece, content_of, contents, Contents, read, read_named}
use Rattle.xcdr_model.specs.Xcdr2Spelling.{piece_of, distinct_ids, sent}
use Rattle.shape_laws.proofs.Steps.{spot, then_ok}

-- ---- pieces by id

abbrev pub In : Piece → List Piece → Type 0
In q [] = ⊥
In q (r ∷ rs) = (r ≡ q) ⊎ In q rs

pub in_has : (p : Piece → Bool) (q : Piece) (qs : List Piece) → In q qs → p q ≡ true → has p qs ≡ true
in_has p q [] i e = absurd i
in_has p q (r ∷ rs) i e = elim i [ inl s ↦ or_left (p r) (has p rs) (ap p s ∙ e) | inr j ↦ or_right (p r) (has p rs) (in_has p q rs j e) ]

pub has_in : (p : Piece → Bool) (qs : List Piece) → has p qs ≡ true → (q : Piece) × In q qs × (p q ≡ true)
has_in p [] e = absurd cc
has_in p (r ∷ rs) e = elim (cases_Bool (p r)) [
  | inl y ↦ (r, inl refl, y)
  | inr n ↦ (let x = has_in p rs (ap (λ (c : Bool). c || has p rs) (sym n) ∙ e) in (x.0, inr x.1, x.2))
]

pub all_in : (P : Piece → Type 0) (qs : List Piece) → AllByRecursion P qs → (q : Piece) → In q qs → P q
all_in P [] a q i = absurd i
all_in P (r ∷ rs) a q i = elim i [ inl s ↦ subst P s a.0 | inr j ↦ all_in P rs a.1 q j ]

pub in_all : (P : Piece → Type 0) (qs : List Piece) → ((q : Piece) → In q qs → P q) → AllByRecursion P qs
in_all P [] f = tt
in_all P (r ∷ rs) f = (f r (inl refl), in_all P rs (λ q j. f q (inr j)))

pub found_in : (qs : List Piece) (id : ℕ) (q : Piece) → piece_of qs id ≡ Some q → In q qs × (q.id ≡ id)
found_in [] id q e = absurd cc
found_in (r ∷ rs) id q e = elim (cases_Bool (r.id == id)) [
  | inl y ↦ (let f : Some r ≡ Some q = ap (λ (c : Bool). cond c (Some r) (piece_of rs id)) (sym y) ∙ e in
      let s : r ≡ q = cc in (inl s, ap (λ (x : Piece). x.id) (sym s) ∙ eqb-true r.id id y))
  | inr n ↦ (let x = found_in rs id q (ap (λ (c : Bool). cond c (Some r) (piece_of rs id)) (sym n) ∙ e) in (inr x.0, x.1))
]

pub in_found : (qs : List Piece) (q : Piece) → distinct_ids qs ≡ true → In q qs → piece_of qs q.id ≡ Some q
in_found [] q d i = absurd i
in_found (r ∷ rs) q d i =
    let parts = and_parts (not (has (λ (x : Piece). x.id == r.id) rs)) (distinct_ids rs) d in
    elim i [
      | inl s ↦ ap (λ (c : Bool). cond c (Some r) (piece_of rs q.id)) (eq-eqb r.id q.id (ap (λ (x : Piece). x.id) s)) ∙ ap (λ (x : Piece). Some x) s
      | inr j ↦ (let none : has (λ (x : Piece). x.id == r.id) rs ≡ false = not-true _ parts.0 in
          let other : (r.id == q.id) ≡ false = ne_eqb r.id q.id (λ z. both_ways (has (λ (x : Piece). x.id == r.id) rs) none (in_has (λ (x : Piece). x.id == r.id) q rs j (eq-eqb q.id r.id (sym z)))) in
          ap (λ (c : Bool). cond c (Some r) (piece_of rs q.id)) other ∙ in_found rs q parts.1 j)
    ]

-- ---- what comes of the pieces

-- what is expected of an id, of a reader's type and a writer's part
abbrev pub expected : Option Shape → Option (Shape × Val) → Option Part
expected None x = None
expected (Some t) None = None
expected (Some t) (Some x) = Some (projected t x.0 x.1)

abbrev pub and_part : ℕ → Option Part → List (ℕ × Part) → List (ℕ × Part)
and_part id None ps = ps
and_part id (Some x) ps = (id, x) ∷ ps

abbrev pub wire_parts : (ℕ → Option Part) → List Piece → List (ℕ × Part)
wire_parts E [] = []
wire_parts E (q ∷ qs) = and_part q.id (E q.id) (wire_parts E qs)

abbrev pub or_mark : Option Part → Bool → Bool → Bool
or_mark None must u = must || u
or_mark (Some x) must u = u

abbrev pub wire_unknown : (ℕ → Option Part) → List Piece → Bool
wire_unknown E [] = false
wire_unknown E (q ∷ qs) = or_mark (E q.id) q.must (wire_unknown E qs)

-- a content is read as expected, and used up
abbrev pub ReadsAs : Option (Spot → Reading Part) → Spot → Option Part → Type 0
ReadsAs None c None = Unit {0}
ReadsAs None c (Some x) = ⊥
ReadsAs (Some f) c None = ⊥
ReadsAs (Some f) c (Some x) = (e : ℕ) × (f c ≡ Ok (x, spot e []))

pub one_content : (k : Option (Spot → Reading Part)) (y : Option Part) (seen : List ℕ) (q : Piece) (go : List ℕ → Contents) (ps : List (ℕ × Part)) (u : Bool) → ReadsAs k q.content y → has (λ i. i == q.id) seen ≡ false
    → go seen ≡ Ok (ps, u) → go (q.id ∷ seen) ≡ Ok (ps, u) → content_of k seen q go ≡ Ok (and_part q.id y ps, or_mark y q.must u)
one_content None None seen q go ps u r new e e2 = then_ok _ e refl
one_content None (Some x) seen q go ps u r new e e2 = absurd r
one_content (Some f) None seen q go ps u r new e e2 = absurd r
one_content (Some f) (Some x) seen q go ps u r new e e2 = rw new (then_ok _ r.1 (then_ok _ refl (then_ok _ e2 refl)))

-- none of the ids seen comes again
abbrev pub AllNew : List ℕ → List Piece → Type 0
AllNew seen qs = AllByRecursion (λ q. has (λ i. i == q.id) seen ≡ false) qs

pub still_new : (seen : List ℕ) (id : ℕ) (qs : List Piece) → has (λ (x : Piece). x.id == id) qs ≡ false → AllNew seen qs → AllNew (id ∷ seen) qs
still_new seen id [] e a = tt
still_new seen id (q ∷ qs) e a =
    let parts = or_parts (q.id == id) (has (λ (x : Piece). x.id == id) qs) e in
    (or_from (id == q.id) (has (λ i. i == q.id) seen) (ne_eqb id q.id (λ z. eqb-false q.id id parts.0 (sym z))) a.0, still_new seen id qs parts.1 a.1)

pub contents_again : (known : ℕ → Option (Spot → Reading Part)) (E : ℕ → Option Part) (seen : List ℕ) (qs : List Piece) → AllByRecursion (λ q. ReadsAs (known q.id) q.content (E q.id)) qs → distinct_ids qs ≡ true → AllNew seen qs
    → contents known seen qs None ≡ Ok (wire_parts E qs, wire_unknown E qs)
unfolding contents
contents_again known E seen [] r d a = refl
contents_again known E seen (q ∷ qs) r d a =
    let parts = and_parts (not (has (λ (x : Piece). x.id == q.id) qs)) (distinct_ids qs) d in
    let none : has (λ (x : Piece). x.id == q.id) qs ≡ false = not-true _ parts.0 in
    one_content (known q.id) (E q.id) seen q (λ s. contents known s qs None) (wire_parts E qs) (wire_unknown E qs) r.0 a.0
    (contents_again known E seen qs r.1 parts.1 a.1) (contents_again known E (q.id ∷ seen) qs r.1 parts.1 (still_new seen q.id qs none a.1))

pub all_new : (qs : List Piece) → AllNew [] qs
all_new qs = in_all (λ q. has (λ i. i == q.id) [] ≡ false) qs (λ q i. refl)

-- ---- by ids

pub all_same : {A B : Type 0} (f g : A → B) → ((x : A) → f x ≡ g x) → f ≡ g
all_same f g e = fun_ext e

pub named_some : (o : Order) (ms : Members) (id : ℕ) (t : Shape) → shape_at ms id ≡ Some t → read_named o ms id ≡ Some (λ s. read o t s)
unfolding read_named
named_some o no_members id t e = absurd cc
named_some o (member h u ms) id t e = elim (cases_Bool (h.id == id)) [
  | inl y ↦ (let f : Some u ≡ Some t = ap (λ (c : Bool). cond c (Some u) (shape_at ms id)) (sym y) ∙ e in
      let s : u ≡ t = cc in ap (λ (c : Bool). cond c (Some (λ s1. read o u s1)) (read_named o ms id)) y ∙ ap (λ (z : Shape). Some (λ s1. read o z s1)) s)
  | inr n ↦ ap (λ (c : Bool). cond c (Some (λ s1. read o u s1)) (read_named o ms id)) n ∙ named_some o ms id t (ap (λ (c : Bool). cond c (Some u) (shape_at ms id)) (sym n) ∙ e)
]

pub named_none : (o : Order) (ms : Members) (id : ℕ) → shape_at ms id ≡ None → read_named o ms id ≡ None
unfolding read_named
named_none o no_members id e = refl
named_none o (member h u ms) id e = elim (cases_Bool (h.id == id)) [
  | inl y ↦ (let f : Some u ≡ None = ap (λ (c : Bool). cond c (Some u) (shape_at ms id)) (sym y) ∙ e in absurd cc)
  | inr n ↦ ap (λ (c : Bool). cond c (Some (λ s1. read o u s1)) (read_named o ms id)) n ∙ named_none o ms id (ap (λ (c : Bool). cond c (Some u) (shape_at ms id)) (sym n) ∙ e)
]

pub none_has : (ms : Members) (id : ℕ) → shape_at ms id ≡ None → has_member ms id ≡ false
none_has no_members id e = refl
none_has (member h u ms) id e = elim (cases_Bool (h.id == id)) [
  | inl y ↦ (let f : Some u ≡ None = ap (λ (c : Bool). cond c (Some u) (shape_at ms id)) (sym y) ∙ e in absurd cc)
  | inr n ↦ or_from (h.id == id) (has_member ms id) n (none_has ms id (ap (λ (c : Bool). cond c (Some u) (shape_at ms id)) (sym n) ∙ e))
]

pub has_none : (ms : Members) (id : ℕ) → has_member ms id ≡ false → shape_at ms id ≡ None
has_none no_members id e = refl
has_none (member h u ms) id e =
    let parts = or_parts (h.id == id) (has_member ms id) e in
    ap (λ (c : Bool). cond c (Some u) (shape_at ms id)) parts.0 ∙ has_none ms id parts.1

-- what contents spell, by a member's type and its value
abbrev pub Spelling : Type 1
Spelling = Shape → Val → ℕ → List ℕ → Type 0

-- each present member has its piece
abbrev pub sent_all : Spelling → Members → Slots → List Piece → Type 0
sent_all W no_members ss qs = Unit {0}
sent_all W (member h t ms) ss qs = sent (λ w. W t w) qs h (first ss) × sent_all W ms (others ss) qs

abbrev pub whole : Shape → Val → Shape × Val
whole t w = (t, w)

-- the piece of a present member
pub here : (W : Spelling) (t : Shape) (s : Slot) (h : Head) (qs : List Piece) (x : Shape × Val) → sent (λ w. W t w) qs h s → with_shape t s ≡ Some x
    → (q : Piece) × (piece_of qs h.id ≡ Some q) × (q.must ≡ is_must h) × W x.0 x.1 q.content.at q.content.rest × (Some t ≡ Some x.0) × (is_present s ≡ true)
here W t absent h qs x k e = absurd cc
here W t (present w) h qs x k e =
    let s : whole t w ≡ x = cc in
    (k.piece, k.found, k.mark, subst (λ (z : Shape × Val). W z.0 z.1 k.piece.content.at k.piece.content.rest) s k.content, ap (λ (z : Shape × Val). Some z.0) s, refl)

pub sent_at : (W : Spelling) (ms2 : Members) (ss : Slots) (qs : List Piece) (id : ℕ) (x : Shape × Val) → sent_all W ms2 ss qs → part_at ms2 ss id ≡ Some x
    → (q : Piece) × (piece_of qs id ≡ Some q) × W x.0 x.1 q.content.at q.content.rest × (shape_at ms2 id ≡ Some x.0)
sent_at W no_members ss qs id x k e = absurd cc
sent_at W (member h t ms2) ss qs id x k e = elim (cases_Bool (h.id == id)) [
  | inl y ↦ (let f : with_shape t (first ss) ≡ Some x = ap (λ (c : Bool). cond c (with_shape t (first ss)) (part_at ms2 (others ss) id)) (sym y) ∙ e in
      let z = here W t (first ss) h qs x k.0 f in
      (z.0, ap (λ (i : ℕ). piece_of qs i) (sym (eqb-true h.id id y)) ∙ z.1, z.3, ap (λ (c : Bool). cond c (Some t) (shape_at ms2 id)) y ∙ z.4))
  | inr n ↦ (let f : part_at ms2 (others ss) id ≡ Some x = ap (λ (c : Bool). cond c (with_shape t (first ss)) (part_at ms2 (others ss) id)) (sym n) ∙ e in
      let z = sent_at W ms2 (others ss) qs id x k.1 f in
      (z.0, z.1, z.2, ap (λ (c : Bool). cond c (Some t) (shape_at ms2 id)) n ∙ z.3))
]

-- ---- the built values by id

abbrev pub of_id : Members → Members → Slots → ℕ → Option Part
of_id ms ms2 ss id = expected (shape_at ms id) (part_at ms2 ss id)

abbrev pub just_built : Option Part → Option Built
just_built None = None
just_built (Some x) = Some x.0

pub expected_none : (s : Option Shape) (y : Option (Shape × Val)) → y ≡ None → expected s y ≡ None
expected_none None y e = refl
expected_none (Some t) y e = ap (expected (Some t)) e

pub built_here : (h : Head) (t : Shape) (y : Option (Shape × Val)) (ps : List (ℕ × Part)) (s : Option Shape) → built_at ps h.id ≡ just_built (expected s y) → built_at (with_part h.id (λ t2 w. projected t t2 w) y ps) h.id ≡ just_built (expected (Some t) y)
built_here h t None ps s e = e ∙ ap just_built (expected_none s None refl)
built_here h t (Some x) ps s e = ap (λ (c : Bool). cond c (Some (projected t x.0 x.1).0) (built_at ps h.id)) (eq-eqb h.id h.id refl)

pub built_other : (h : Head) (t : Shape) (y : Option (Shape × Val)) (ps : List (ℕ × Part)) (id : ℕ) → (h.id == id) ≡ false → built_at (with_part h.id (λ t2 w. projected t t2 w) y ps) id ≡ built_at ps id
built_other h t None ps id n = refl
built_other h t (Some x) ps id n = ap (λ (c : Bool). cond c (Some (projected t x.0 x.1).0) (built_at ps id)) n

pub built_projected : (ms ms2 : Members) (ss : Slots) (id : ℕ) → built_at (projected_members ms ms2 ss) id ≡ just_built (of_id ms ms2 ss id)
unfolding projected_members
built_projected no_members ms2 ss id = refl
built_projected (member h t ms) ms2 ss id = elim (cases_Bool (h.id == id)) [
  | inl y ↦ (let same : h.id ≡ id = eqb-true h.id id y in
      let at_id : built_at (projected_members (member h t ms) ms2 ss) h.id ≡ just_built (expected (Some t) (part_at ms2 ss h.id)) = built_here h t (part_at ms2 ss h.id) (projected_members ms ms2 ss) (shape_at ms h.id) (built_projected ms ms2 ss h.id) in
      subst (λ (i : ℕ). built_at (projected_members (member h t ms) ms2 ss) i ≡ just_built (expected (Some t) (part_at ms2 ss i))) same at_id
      ∙ ap (λ (c : Bool). just_built (expected (cond c (Some t) (shape_at ms id)) (part_at ms2 ss id))) (sym y))
  | inr n ↦ built_other h t (part_at ms2 ss h.id) (projected_members ms ms2 ss) id n ∙ built_projected ms ms2 ss id
      ∙ ap (λ (c : Bool). just_built (expected (cond c (Some t) (shape_at ms id)) (part_at ms2 ss id))) (sym n)
]

abbrev pub has_id : ℕ → List Piece → Bool
has_id id qs = has (λ q. q.id == id) qs

pub wire_here : (q : Piece) (y : Option Part) (ps : List (ℕ × Part)) (c : Bool) → built_at ps q.id ≡ cond c (just_built y) None → built_at (and_part q.id y ps) q.id ≡ just_built y
wire_here q None ps true e = e
wire_here q None ps false e = e
wire_here q (Some x) ps c e = ap (λ (d : Bool). cond d (Some x.0) (built_at ps q.id)) (eq-eqb q.id q.id refl)

pub wire_other : (q : Piece) (y : Option Part) (ps : List (ℕ × Part)) (id : ℕ) → (q.id == id) ≡ false → built_at (and_part q.id y ps) id ≡ built_at ps id
wire_other q None ps id n = refl
wire_other q (Some x) ps id n = ap (λ (d : Bool). cond d (Some x.0) (built_at ps id)) n

pub built_wire : (E : ℕ → Option Part) (qs : List Piece) (id : ℕ) → built_at (wire_parts E qs) id ≡ cond (has_id id qs) (just_built (E id)) None
built_wire E [] id = refl
built_wire E (q ∷ qs) id = elim (cases_Bool (q.id == id)) [
  | inl y ↦ (let at_id = wire_here q (E q.id) (wire_parts E qs) (has_id q.id qs) (built_wire E qs q.id) in
      subst (λ (i : ℕ). built_at (and_part q.id (E q.id) (wire_parts E qs)) i ≡ just_built (E i)) (eqb-true q.id id y) at_id
      ∙ ap (λ (c : Bool). cond (c || has_id id qs) (just_built (E id)) None) (sym y))
  | inr n ↦ wire_other q (E q.id) (wire_parts E qs) id n ∙ built_wire E qs id ∙ ap (λ (c : Bool). cond (c || has_id id qs) (just_built (E id)) None) (sym n)
]

pub sent_has : (W : Spelling) (ms2 : Members) (ss : Slots) (qs : List Piece) (id : ℕ) (y : Option (Shape × Val)) → part_at ms2 ss id ≡ y → sent_all W ms2 ss qs → has_id id qs ≡ false → y ≡ None
sent_has W ms2 ss qs id None e k n = refl
sent_has W ms2 ss qs id (Some x) e k n =
    let z = sent_at W ms2 ss qs id x k e in
    let i = found_in qs id z.0 z.1 in
    absurd (both_ways (has_id id qs) n (in_has (λ q. q.id == id) z.0 qs i.0 (eq-eqb z.0.id id i.1)))

pub same_built : (W : Spelling) (ms ms2 : Members) (ss : Slots) (qs : List Piece) → sent_all W ms2 ss qs → (id : ℕ) → built_at (wire_parts (of_id ms ms2 ss) qs) id ≡ built_at (projected_members ms ms2 ss) id
same_built W ms ms2 ss qs k id = built_wire (of_id ms ms2 ss) qs id ∙ by_has (cases_Bool (has_id id qs)) ∙ sym (built_projected ms ms2 ss id)
  where
    by_has : (has_id id qs ≡ true) ⊎ (has_id id qs ≡ false) → cond (has_id id qs) (just_built (of_id ms ms2 ss id)) None ≡ just_built (of_id ms ms2 ss id)
    by_has (inl y) = ap (λ (c : Bool). cond c (just_built (of_id ms ms2 ss id)) None) y
    by_has (inr n) = ap (λ (c : Bool). cond c (just_built (of_id ms ms2 ss id)) None) n ∙ sym (ap just_built (expected_none (shape_at ms id) (part_at ms2 ss id) (sent_has W ms2 ss qs id (part_at ms2 ss id) refl k n)))
