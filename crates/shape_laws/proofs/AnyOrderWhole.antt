-- The marks of unknown members, and the whole structure whose members come in any order.
use Rattle.std.proofs.Common.{◌≡◌, ℕ, Bool, true, false, cond, not, ◌||◌, ◌&&◌, List, [], ◌∷◌, Option, Some, None, Ok, refl, sym, ap, ap₂, subst, subst₂, ◌∙◌, inl, inr, ◌==◌}
use mathlib.Core.Path.{fun_ext}
use Rattle.std.proofs.lemmas.Bool.{cases_Bool, eq-eqb, eqb-true, or_cases, or_left, or_right, and_parts, and_from, not-true, not_from_false}
use Rattle.std.specs.List.{AllByRecursion}
use Rattle.xt_shapes.specs.declared.leaves.Order.{Order}
use Rattle.xt_shapes.specs.Lists.{has}
use Rattle.xt_shapes.specs.Select.{has_member, is_must, shape_at}
use Rattle.xt_shapes.specs.Shape.{Head, Shape, Members, no_members, member}
use Rattle.xt_shapes.specs.Vals.{Val, Slots, Slot, absent, present, first, others}
use Rattle.xcdr_model.specs.Premises.{distinct_members}
use Rattle.xcdr_model.specs.Projection.{Built, Part, projected, projected_members, part_at, with_shape, with_part, lacks_must, is_present, any_unseen, whole_structure, gather_members}
use Rattle.xcdr_model.specs.Reading.{Spot, Reading}
use Rattle.xcdr_model.specs.Xcdr2Reading.{Piece, contents}
use Rattle.xcdr_model.specs.Xcdr2Spelling.{piece_of, distinct_ids, sent, writes, writes_pieces}
use Rattle.shape_laws.proofs.AnyOrder.{In, in_has, has_in, all_in, in_all, found_in, in_found, expected, and_part, wire_parts, or_mark, wire_unknown, ReadsAs, contents_again, all_new, none_has, has_none, Spelling, sent_all, here, sent_at, of_id, same_built}
use Rattle.shape_laws.proofs.Steps.{spot}

-- ---- the marks

same_bool : (a b : Bool) → (a ≡ true → b ≡ true) → (b ≡ true → a ≡ true) → a ≡ b
same_bool true b f g = sym (f refl)
same_bool false true f g = g refl
same_bool false false f g = refl

abbrev flagged : Option Part → Bool → Bool
flagged None must = must
flagged (Some x) must = x.1

flags_swap : (a m u : Bool) → (a || (m || u)) ≡ (m || (a || u))
flags_swap true true u = refl
flags_swap true false u = refl
flags_swap false m u = refl

flags_join : (a b u : Bool) → ((a || b) || u) ≡ (a || (b || u))
flags_join true b u = refl
flags_join false b u = refl

flags_step : (id : ℕ) (y : Option Part) (must : Bool) (ps : List (ℕ × Part)) (u : Bool) → (any_unseen (and_part id y ps) || or_mark y must u) ≡ (flagged y must || (any_unseen ps || u))
flags_step id None must ps u = flags_swap (any_unseen ps) must u
flags_step id (Some x) must ps u = flags_join x.1 (any_unseen ps) u

wire_flags : (E : ℕ → Option Part) (qs : List Piece) → (any_unseen (wire_parts E qs) || wire_unknown E qs) ≡ has (λ q. flagged (E q.id) q.must) qs
wire_flags E [] = refl
wire_flags E (q ∷ qs) = flags_step q.id (E q.id) q.must (wire_parts E qs) (wire_unknown E qs) ∙ ap (λ (c : Bool). flagged (E q.id) q.must || c) (wire_flags E qs)

unseen_with : (id : ℕ) (f : Shape → Val → Part) (y : Option (Shape × Val)) (ps : List (ℕ × Part)) → any_unseen ps ≡ true → any_unseen (with_part id f y ps) ≡ true
unseen_with id f None ps e = e
unseen_with id f (Some x) ps e = or_right (f x.0 x.1).1 (any_unseen ps) e

-- a part that is unseen makes the whole so
unseen_from : (ms ms2 : Members) (ss : Slots) (id : ℕ) (t : Shape) (x : Shape × Val) → shape_at ms id ≡ Some t → part_at ms2 ss id ≡ Some x → (projected t x.0 x.1).1 ≡ true → any_unseen (projected_members ms ms2 ss) ≡ true
unfolding projected_members
unseen_from no_members ms2 ss id t x e f u = absurd cc
unseen_from (member h s ms) ms2 ss id t x e f u = elim (cases_Bool (h.id == id)) [
  | inl y ↦ (let g : Some s ≡ Some t = ap (λ (c : Bool). cond c (Some s) (shape_at ms id)) (sym y) ∙ e in
      let same : t ≡ s = cc in
      let part : part_at ms2 ss h.id ≡ Some x = ap (part_at ms2 ss) (eqb-true h.id id y) ∙ f in
      ap (λ (z : Option (Shape × Val)). any_unseen (with_part h.id (λ t2 w. projected s t2 w) z (projected_members ms ms2 ss))) part
      ∙ or_left (projected s x.0 x.1).1 (any_unseen (projected_members ms ms2 ss)) (ap (λ (z : Shape). (projected z x.0 x.1).1) (sym same) ∙ u))
  | inr n ↦ unseen_with h.id (λ t2 w. projected s t2 w) (part_at ms2 ss h.id) (projected_members ms ms2 ss) (unseen_from ms ms2 ss id t x (ap (λ (c : Bool). cond c (Some s) (shape_at ms id)) (sym n) ∙ e) f u)
]

-- a marked piece of a member that the reader lacks
lacks_from : (W : Spelling) (ms ms2 : Members) (ss : Slots) (qs : List Piece) (id : ℕ) (x : Shape × Val) (q : Piece) → sent_all W ms2 ss qs → part_at ms2 ss id ≡ Some x → piece_of qs id ≡ Some q → q.must ≡ true → has_member ms id ≡ false → lacks_must ms ms2 ss ≡ true
lacks_from W ms no_members ss qs id x q k e f m n = absurd cc
lacks_from W ms (member h t ms2) ss qs id x q k e f m n = elim (cases_Bool (h.id == id)) [
  | inl y ↦ (let same : h.id ≡ id = eqb-true h.id id y in
      let g : with_shape t (first ss) ≡ Some x = ap (λ (c : Bool). cond c (with_shape t (first ss)) (part_at ms2 (others ss) id)) (sym y) ∙ e in
      let z = here W t (first ss) h qs x k.0 g in
      let both : Some z.0 ≡ Some q = sym z.1 ∙ ap (piece_of qs) same ∙ f in
      let one : z.0 ≡ q = cc in
      let marked : is_must h ≡ true = sym z.2 ∙ ap (λ (r : Piece). r.must) one ∙ m in
      or_left (is_present (first ss) && (is_must h && not (has_member ms h.id))) (lacks_must ms ms2 (others ss))
      (and_from (is_present (first ss)) (is_must h && not (has_member ms h.id)) z.5 (and_from (is_must h) (not (has_member ms h.id)) marked (not_from_false (has_member ms h.id) (ap (has_member ms) same ∙ n)))))
  | inr w ↦ or_right (is_present (first ss) && (is_must h && not (has_member ms h.id))) (lacks_must ms ms2 (others ss))
      (lacks_from W ms ms2 (others ss) qs id x q k.1 (ap (λ (c : Bool). cond c (with_shape t (first ss)) (part_at ms2 (others ss) id)) (sym w) ∙ e) f m n)
]

to_right : (W : Spelling) (ms ms2 : Members) (ss : Slots) (qs : List Piece) → sent_all W ms2 ss qs → distinct_ids qs ≡ true → AllByRecursion (λ q. (x : Shape × Val) × (part_at ms2 ss q.id ≡ Some x)) qs
    → has (λ q. flagged (of_id ms ms2 ss q.id) q.must) qs ≡ true → (any_unseen (projected_members ms ms2 ss) || lacks_must ms ms2 ss) ≡ true
to_right W ms ms2 ss qs k d a e =
    let z = has_in (λ q. flagged (of_id ms ms2 ss q.id) q.must) qs e in
    let q = z.0 in
    let x = all_in (λ q. (x : Shape × Val) × (part_at ms2 ss q.id ≡ Some x)) qs a q z.1 in
    by_shape q x.0 x.1 (in_found qs q d z.1) (shape_at ms q.id) refl z.2
  where
    by_shape : (q : Piece) (x : Shape × Val) → part_at ms2 ss q.id ≡ Some x → piece_of qs q.id ≡ Some q → (s : Option Shape) → shape_at ms q.id ≡ s → flagged (of_id ms ms2 ss q.id) q.must ≡ true → (any_unseen (projected_members ms ms2 ss) || lacks_must ms ms2 ss) ≡ true
    by_shape q x f g None e m = or_right (any_unseen (projected_members ms ms2 ss)) (lacks_must ms ms2 ss)
        (lacks_from W ms ms2 ss qs q.id x q k f g (ap (λ (s : Option Shape). flagged (expected s (part_at ms2 ss q.id)) q.must) (sym e) ∙ m) (none_has ms q.id e))
    by_shape q x f g (Some t) e m = or_left (any_unseen (projected_members ms ms2 ss)) (lacks_must ms ms2 ss)
        (unseen_from ms ms2 ss q.id t x e f (ap₂ (λ (s : Option Shape) (y : Option (Shape × Val)). flagged (expected s y) q.must) (sym e) (sym f) ∙ m))

abbrev Unseen : Members → Members → Slots → Type 0
Unseen ms ms2 ss = (id : ℕ) × (t : Shape) × (x : Shape × Val) × (shape_at ms id ≡ Some t) × (part_at ms2 ss id ≡ Some x) × ((projected t x.0 x.1).1 ≡ true)

-- where a whole is unseen, a part is
unseen_to : (ms ms2 : Members) (ss : Slots) → distinct_members ms ≡ true → any_unseen (projected_members ms ms2 ss) ≡ true → Unseen ms ms2 ss
unfolding projected_members
unseen_to no_members ms2 ss d e = absurd cc
unseen_to (member h s ms) ms2 ss d e = by_part (λ d1 e1. unseen_to ms ms2 ss d1 e1) (part_at ms2 ss h.id) refl e
  where
    parts : (not (has_member ms h.id) ≡ true) × (distinct_members ms ≡ true)
    parts = and_parts (not (has_member ms h.id)) (distinct_members ms) d

    on : (id : ℕ) (t : Shape) → shape_at ms id ≡ Some t → shape_at (member h s ms) id ≡ Some t
    on id t f = elim (cases_Bool (h.id == id)) [
      | inl y ↦ (let n : shape_at ms id ≡ None = has_none ms id (ap (has_member ms) (sym (eqb-true h.id id y)) ∙ not-true (has_member ms h.id) parts.0) in
          let z : None ≡ Some t = sym n ∙ f in absurd cc)
      | inr n ↦ ap (λ (c : Bool). cond c (Some s) (shape_at ms id)) n ∙ f
    ]

    later : Unseen ms ms2 ss → Unseen (member h s ms) ms2 ss
    later z = (z.0, z.1, z.2, on z.0 z.1 z.3, z.4, z.5)

    by_part : (distinct_members ms ≡ true → any_unseen (projected_members ms ms2 ss) ≡ true → Unseen ms ms2 ss) → (y : Option (Shape × Val)) → part_at ms2 ss h.id ≡ y → any_unseen (with_part h.id (λ t2 w. projected s t2 w) y (projected_members ms ms2 ss)) ≡ true → Unseen (member h s ms) ms2 ss
    by_part go None f u = later (go parts.1 u)
    by_part go (Some x) f u = elim (or_cases (projected s x.0 x.1).1 (any_unseen (projected_members ms ms2 ss)) u) [
      | inl y ↦ (h.id, s, x, ap (λ (c : Bool). cond c (Some s) (shape_at ms h.id)) (eq-eqb h.id h.id refl), f, y)
      | inr n ↦ later (go parts.1 n)
    ]

-- a member that the reader lacks has a marked piece
lacks_to : (W : Spelling) (ms ms2 : Members) (ss : Slots) (qs : List Piece) → sent_all W ms2 ss qs → lacks_must ms ms2 ss ≡ true → (q : Piece) × In q qs × (q.must ≡ true) × (has_member ms q.id ≡ false)
lacks_to W ms no_members ss qs k e = absurd cc
lacks_to W ms (member h t ms2) ss qs k e = elim (or_cases (is_present (first ss) && (is_must h && not (has_member ms h.id))) (lacks_must ms ms2 (others ss)) e) [
  | inl y ↦ (let a = and_parts (is_present (first ss)) (is_must h && not (has_member ms h.id)) y in
      let c = and_parts (is_must h) (not (has_member ms h.id)) a.1 in
      marked_piece W t (first ss) h qs k.0 a.0 c.0 (not-true (has_member ms h.id) c.1))
  | inr n ↦ lacks_to W ms ms2 (others ss) qs k.1 n
]
  where
    marked_piece : (W : Spelling) (t : Shape) (s : Slot) (h : Head) (qs : List Piece) → sent (λ w. W t w) qs h s → is_present s ≡ true → is_must h ≡ true → has_member ms h.id ≡ false → (q : Piece) × In q qs × (q.must ≡ true) × (has_member ms q.id ≡ false)
    marked_piece W t absent h qs k e m n = absurd cc
    marked_piece W t (present w) h qs k e m n =
        let i = found_in qs h.id k.piece k.found in
        (k.piece, i.0, k.mark ∙ m, ap (has_member ms) i.1 ∙ n)

to_left : (W : Spelling) (ms ms2 : Members) (ss : Slots) (qs : List Piece) → distinct_members ms ≡ true → sent_all W ms2 ss qs
    → (any_unseen (projected_members ms ms2 ss) || lacks_must ms ms2 ss) ≡ true → has (λ q. flagged (of_id ms ms2 ss q.id) q.must) qs ≡ true
to_left W ms ms2 ss qs d k e = elim (or_cases (any_unseen (projected_members ms ms2 ss)) (lacks_must ms ms2 ss) e) [
  | inl y ↦ (let z = unseen_to ms ms2 ss d y in
      let s = sent_at W ms2 ss qs z.0 z.2 k z.4 in
      let i = found_in qs z.0 s.0 s.1 in
      in_has (λ q. flagged (of_id ms ms2 ss q.id) q.must) s.0 qs i.0
      (ap (λ (j : ℕ). flagged (of_id ms ms2 ss j) s.0.must) i.1 ∙ ap₂ (λ (t : Option Shape) (x : Option (Shape × Val)). flagged (expected t x) s.0.must) z.3 z.4 ∙ z.5))
  | inr n ↦ (let z = lacks_to W ms ms2 ss qs k n in
      in_has (λ q. flagged (of_id ms ms2 ss q.id) q.must) z.0 qs z.1
      (ap (λ (t : Option Shape). flagged (expected t (part_at ms2 ss z.0.id)) z.0.must) (has_none ms z.0.id z.3) ∙ z.2))
]

-- ---- the whole structure

pub same_whole : (W : Spelling) (ms ms2 : Members) (ss : Slots) (qs : List Piece) → distinct_members ms ≡ true → sent_all W ms2 ss qs → distinct_ids qs ≡ true → AllByRecursion (λ q. (x : Shape × Val) × (part_at ms2 ss q.id ≡ Some x)) qs
    → whole_structure ms (wire_parts (of_id ms ms2 ss) qs) (wire_unknown (of_id ms ms2 ss) qs) ≡ whole_structure ms (projected_members ms ms2 ss) (lacks_must ms ms2 ss)
same_whole W ms ms2 ss qs d k e a =
    ap₂ (λ (f : ℕ → Option Built) (u : Bool). (gather_members ms f, u)) (fun_ext (same_built W ms ms2 ss qs k))
    (wire_flags (of_id ms ms2 ss) qs ∙ same_bool _ _ (to_right W ms ms2 ss qs k e a) (to_left W ms ms2 ss qs d k))

pub reads_contents : (W : Spelling) (R : Shape → Spot → Reading Part) (known : ℕ → Option (Spot → Reading Part)) (ms ms2 : Members) (ss : Slots) (qs : List Piece)
    → ((id : ℕ) (t : Shape) → shape_at ms id ≡ Some t → known id ≡ Some (R t)) → ((id : ℕ) → shape_at ms id ≡ None → known id ≡ None)
    → ((id : ℕ) (t t2 : Shape) → shape_at ms id ≡ Some t → shape_at ms2 id ≡ Some t2 → (w : Val) (p : ℕ) (c : List ℕ) → W t2 w p c → (e : ℕ) × (R t (spot p c) ≡ Ok (projected t t2 w, spot e [])))
    → sent_all W ms2 ss qs → distinct_ids qs ≡ true → AllByRecursion (λ q. (x : Shape × Val) × (part_at ms2 ss q.id ≡ Some x)) qs
    → contents known [] qs None ≡ Ok (wire_parts (of_id ms ms2 ss) qs, wire_unknown (of_id ms ms2 ss) qs)
reads_contents W R known ms ms2 ss qs some none r k d a = contents_again known (of_id ms ms2 ss) [] qs (in_all (λ q. ReadsAs (known q.id) q.content (of_id ms ms2 ss q.id)) qs one) d (all_new qs)
  where
    at_shape : (q : Piece) → In q qs → (x : Shape × Val) → part_at ms2 ss q.id ≡ Some x → (s : Option Shape) → shape_at ms q.id ≡ s → ReadsAs (known q.id) q.content (of_id ms ms2 ss q.id)
    at_shape q i x e None f = subst₂ (λ (n : Option (Spot → Reading Part)) (y : Option Part). ReadsAs n q.content y) (sym (none q.id f)) (sym (ap (λ (s : Option Shape). expected s (part_at ms2 ss q.id)) f)) tt
    at_shape q i x e (Some t) f =
        let z = sent_at W ms2 ss qs q.id x k e in
        let both : Some z.0 ≡ Some q = sym z.1 ∙ in_found qs q d i in
        let one : z.0 ≡ q = cc in
        let spelled : W x.0 x.1 q.content.at q.content.rest = subst (λ (y : Piece). W x.0 x.1 y.content.at y.content.rest) one z.2 in
        let done : ReadsAs (Some (R t)) q.content (Some (projected t x.0 x.1)) = r q.id t x.0 f z.3 x.1 q.content.at q.content.rest spelled in
        subst₂ (λ (n : Option (Spot → Reading Part)) (y : Option Part). ReadsAs n q.content y) (sym (some q.id t f)) (sym (ap₂ expected f e)) done

    one : (q : Piece) → In q qs → ReadsAs (known q.id) q.content (of_id ms ms2 ss q.id)
    one q i = let x = all_in (λ q. (x : Shape × Val) × (part_at ms2 ss q.id ≡ Some x)) qs a q i in at_shape q i x.0 x.1 (shape_at ms q.id) refl

pub sent_pieces : (o : Order) (ms : Members) (ss : Slots) (qs : List Piece) → writes_pieces o ms ss qs → sent_all (λ t w. writes o t w) ms ss qs
unfolding writes_pieces
sent_pieces o no_members ss qs k = tt
sent_pieces o (member h t ms) ss qs k = (k.0, sent_pieces o ms (others ss) qs k.1)
