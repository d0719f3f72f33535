-- The fixed spelling of a MUTABLE structure in XCDR1: its parameters in declared order, and the list's end.
use Rattle.std.proofs.Common.{◌≡◌, ℕ, ◌+◌, ◌-◌, ◌*◌, ◌/◌, ◌%◌, ◌^◌, ◌<◌, ◌≤◌, Bool, true, false, cond, not, ◌||◌, ◌&&◌, List, [], ◌∷◌, ◌++◌, length, map, replicate, Option, Some, refl, sym, ap, subst, ◌∙◌, arith, inl, inr, nat_lt, nat_le, ◌==◌, add-zero, append_assoc}
use Rattle.std.proofs.lemmas.Bool.{cases_Bool, and_parts, and_from, eq-eqb, ne_eqb, ltb-true, leb-true, not-true, not_from_false, or_cases, or_left, or_right, both_ways, false_from_ne_true}
use Rattle.std.proofs.lemmas.List.{length-append, append-nil, length-replicate}
use Rattle.std.specs.List.{AllByRecursion}
use Rattle.xt_shapes.specs.declared.leaves.Order.{Order}
use Rattle.xt_shapes.specs.Lists.{has}
use Rattle.xt_shapes.specs.Select.{has_member, is_must}
use Rattle.xt_shapes.specs.Shape.{Head, Shape, Members, no_members, member}
use Rattle.xt_shapes.specs.Vals.{Val, Slots, Slot, absent, present, first, others}
use Rattle.xcdr_model.specs.FixedSpelling.{Fixed, then_fixed, header_fixed, param_fixed, end_fixed, sent_fixed1, fixed1, params_fixed}
use Rattle.xcdr_model.specs.Numbers.{octets, padding}
use Rattle.xcdr_model.specs.Premises.{distinct_members, members_storable, storable}
use Rattle.xcdr_model.specs.Projection.{part_at, with_shape}
use Rattle.xcdr_model.specs.Xcdr1Reading.{is_open}
use Rattle.xcdr_model.specs.Xcdr1Spelling.{Header, short_form, long_form, IsParam, IsEnd, Params1, pieces, Content, writes1, writes_params}
use Rattle.xcdr_model.specs.Xcdr2Reading.{Piece}
use Rattle.xcdr_model.specs.Xcdr2Spelling.{bit, piece_of, distinct_ids, sent}

-- ---- one parameter

short_mark : (must : Bool) (id : ℕ) → id ≤ 0x3F00 → ((bit must * 2 ^ 14 + id) / 2 ^ 14 % 2 == 1) ≡ must
short_mark true id l = eq-eqb ((1 * 2 ^ 14 + id) / 2 ^ 14 % 2) 1 (omega (arith, l))
short_mark false id l = ne_eqb ((0 * 2 ^ 14 + id) / 2 ^ 14 % 2) 1 (λ e. omega (arith, l, e))

long_mark : (must : Bool) (id : ℕ) → id < 2 ^ 28 - 1 → ((bit must * 2 ^ 30 + id) / 2 ^ 30 % 2 == 1) ≡ must
long_mark true id l = eq-eqb ((1 * 2 ^ 30 + id) / 2 ^ 30 % 2) 1 (omega (arith, l))
long_mark false id l = ne_eqb ((0 * 2 ^ 30 + id) / 2 ^ 30 % 2) 1 (λ e. omega (arith, l, e))

few_bits : (must : Bool) → bit must ≤ 1
few_bits true = omega arith
few_bits false = omega arith

short_id : (must : Bool) (id : ℕ) → id ≤ 0x3F00 → (bit must * 2 ^ 14 + id) % 2 ^ 14 ≡ id
short_id true id l = omega (arith, l)
short_id false id l = omega (arith, l)

long_id : (must : Bool) (id : ℕ) → id < 2 ^ 28 - 1 → (bit must * 2 ^ 30 + id) % 2 ^ 28 ≡ id
long_id true id l = omega (arith, l)
long_id false id l = omega (arith, l)

header_spells : (o : Order) (must : Bool) (id len : ℕ) → id < 2 ^ 28 - 1 → len < 2 ^ 32 → Header o id len must (header_fixed o must id len)
header_spells o must id len i l = elim (cases_Bool (nat_le id 0x3F00 && nat_lt len (2 ^ 16))) [
  | inl y ↦ (let p = and_parts (nat_le id 0x3F00) (nat_lt len (2 ^ 16)) y in
      let low = leb-true id 0x3F00 p.0 in
      short_form (bit must * 2 ^ 14 + id) (omega (arith, low, few_bits must)) (short_id must id low) (short_mark must id low) (ltb-true len (2 ^ 16) p.1) low
      (ap (λ (c : Bool). cond c (octets o 2 (bit must * 2 ^ 14 + id) ++ octets o 2 len) (octets o 2 0x7F01 ++ (octets o 2 8 ++ (octets o 4 (bit must * 2 ^ 30 + id) ++ octets o 4 len)))) y))
  | inr n ↦ long_form 0x7F01 (bit must * 2 ^ 30 + id) (omega arith) refl (omega (arith, i, few_bits must)) (long_id must id i) (long_mark must id i) l i
      (ap (λ (c : Bool). cond c (octets o 2 (bit must * 2 ^ 14 + id) ++ octets o 2 len) (octets o 2 0x7F01 ++ (octets o 2 8 ++ (octets o 4 (bit must * 2 ^ 30 + id) ++ octets o 4 len)))) n)
]

abbrev pub one_param : Order → Head → List ℕ → ℕ → Piece
one_param o h c p = record { header = p + padding 4 p; id = h.id; must = is_must h; content = record { at = p + (padding 4 p + length (header_fixed o (is_must h) h.id (length c))); rest = c } }

pub content_short : (o : Order) (h : Head) (c : List ℕ) (p : ℕ) → length c ≤ length (param_fixed o h c p)
unfolding param_fixed
content_short o h c p = let a = header_fixed o (is_must h) h.id (length c) in omega (arith, length-append (replicate (padding 4 p) 0) (a ++ c), length-append a c)

pub param_spells : (o : Order) (h : Head) (c : List ℕ) (p : ℕ) → h.id < 2 ^ 28 - 1 → length (param_fixed o h c p) < 2 ^ 32 → IsParam o (one_param o h c p) p (param_fixed o h c p)
unfolding param_fixed
param_spells o h c p i l =
    let short = content_short o h c p in
    record {
      pad = replicate (padding 4 p) 0;
      head = header_fixed o (is_must h) h.id (length c);
      aligned = length-replicate (padding 4 p) 0;
      form = header_spells o (is_must h) h.id (length c) i (omega arith);
      header_is = refl;
      content_is = omega (arith, length-replicate {A = ℕ} (padding 4 p) 0);
      parts = refl;
    }

pub whole_content : (closed : Bool) (P : ℕ → List ℕ → Type 0) (c : List ℕ) → P 0 c → Content closed P c
whole_content closed P c h = record { body = c; pad = []; parts = sym (append-nil c); few = omega arith; spelled = h }

end_spells : (o : Order) (p : ℕ) → IsEnd o p (end_fixed o p)
unfolding end_fixed
end_spells o p = record { pad = replicate (padding 4 p) 0; w = 0x7F02; len = 0; aligned = length-replicate (padding 4 p) 0; word_fits = omega arith; word = refl; fits = omega arith; parts = refl }

-- ---- the parameters

abbrev pub sent_of : Order → Head → Shape → Slot → Fixed
sent_of o h t s = sent_fixed1 o h (λ w. fixed1 o t w) s

abbrev and_param : Order → Head → Shape → Slot → ℕ → List Piece → List Piece
and_param o h t absent p qs = qs
and_param o h t (present w) p qs = one_param o h (fixed1 o t w 0) p ∷ qs

abbrev pub params_of : Order → Members → Slots → ℕ → List Piece
params_of o no_members ss p = []
params_of o (member h t ms) ss p = and_param o h t (first ss) p (params_of o ms (others ss) (p + length (sent_of o h t (first ss) p)))

abbrev pub given : List Piece → List (Option Piece)
given qs = map (λ q. Some q) qs

pub given_back : (qs : List Piece) → pieces (given qs) ≡ qs
given_back [] = refl
given_back (q ∷ qs) = ap (λ (r : List Piece). q ∷ r) (given_back qs)

abbrev pub SlotLaw : Order → Shape → Slot → Type 0
SlotLaw o t absent = Unit {0}
SlotLaw o t (present w) = length (fixed1 o t w 0) < 2 ^ 32 → writes1 o t w 0 (fixed1 o t w 0)

abbrev pub Laws : Order → Members → Slots → Type 0
Laws o no_members ss = Unit {0}
Laws o (member h t ms) ss = SlotLaw o t (first ss) × Laws o ms (others ss)

abbrev With : Order → Members → Slots → ℕ → List ℕ
With o ms ss p = let b = params_fixed o ms ss p in b ++ end_fixed o (p + length b)

pub all_params : (o : Order) (ms : Members) (ss : Slots) (p : ℕ) → members_storable ms ≡ true → length (params_fixed o ms ss p) < 2 ^ 32 → Params1 o (given (params_of o ms ss p)) p (With o ms ss p)
unfolding params_fixed then_fixed
all_params o no_members ss p k l = subst (λ (n : ℕ). IsEnd o p (end_fixed o n)) (sym (add-zero p)) (end_spells o p)
all_params o (member h t ms) ss p k l = by_slot (first ss) l (λ q z. all_params o ms (others ss) q (right2 (storable t) (members_storable ms) (right2 (nat_lt h.id (2 ^ 28 - 1)) (storable t && members_storable ms) k)) z)
  where
    right2 : (x y : Bool) → (x && y) ≡ true → y ≡ true
    right2 x y e = (and_parts x y e).1

    by_slot : (s : Slot) → length (then_fixed (sent_of o h t s) (params_fixed o ms (others ss)) p) < 2 ^ 32 → ((q : ℕ) → length (params_fixed o ms (others ss) q) < 2 ^ 32 → Params1 o (given (params_of o ms (others ss) q)) q (With o ms (others ss) q))
        → Params1 o (given (and_param o h t s p (params_of o ms (others ss) (p + length (sent_of o h t s p))))) p (then_fixed (sent_of o h t s) (params_fixed o ms (others ss)) p ++ end_fixed o (p + length (then_fixed (sent_of o h t s) (params_fixed o ms (others ss)) p)))
    by_slot absent l go = subst (λ (n : ℕ). Params1 o (given (params_of o ms (others ss) n)) p (params_fixed o ms (others ss) n ++ end_fixed o (p + length (params_fixed o ms (others ss) n)))) (sym (add-zero p))
        (go p (subst (λ (n : ℕ). length (params_fixed o ms (others ss) n) < 2 ^ 32) (add-zero p) l))
    by_slot (present w) l go =
        let x = sent_of o h t (present w) p in
        let q = p + length x in
        let y = params_fixed o ms (others ss) q in
        let len : length (x ++ y) ≡ length x + length y = length-append x y in
        let place : p + length (x ++ y) ≡ q + length y = omega (arith, len) in
        record {
          left = x;
          right = y ++ end_fixed o (q + length y);
          parts = append_assoc x y (end_fixed o (p + length (x ++ y))) ∙ ap (λ (n : ℕ). x ++ (y ++ end_fixed o n)) place;
          one = param_spells o h (fixed1 o t w 0) p (ltb-true h.id (2 ^ 28 - 1) (and_parts (nat_lt h.id (2 ^ 28 - 1)) (storable t && members_storable ms) k).0) (omega arith);
          two = go q (omega arith);
        }

pub with_end : (o : Order) (ms : Members) (ss : Slots) (p : ℕ) → members_storable ms ≡ true → length (params_fixed o ms ss p) < 2 ^ 32 → Params1 o (given (params_of o ms ss p)) p (then_fixed (params_fixed o ms ss) (end_fixed o) p)
unfolding then_fixed
with_end o ms ss p k l = all_params o ms ss p k l

-- ---- their ids

abbrev has_id : ℕ → List Piece → Bool
has_id id qs = has (λ q. q.id == id) qs

ids_of : (o : Order) (ms : Members) (ss : Slots) (p id : ℕ) → has_id id (params_of o ms ss p) ≡ true → has_member ms id ≡ true
ids_of o no_members ss p id e = absurd cc
ids_of o (member h t ms) ss p id e = by_slot (first ss) (params_of o ms (others ss) (p + length (sent_of o h t (first ss) p))) (λ z. ids_of o ms (others ss) (p + length (sent_of o h t (first ss) p)) id z) e
  where
    by_slot : (s : Slot) (qs : List Piece) → (has_id id qs ≡ true → has_member ms id ≡ true) → has_id id (and_param o h t s p qs) ≡ true → ((h.id == id) || has_member ms id) ≡ true
    by_slot absent qs f e = or_right (h.id == id) (has_member ms id) (f e)
    by_slot (present w) qs f e = elim (or_cases (h.id == id) (has_id id qs) e) [ inl y ↦ or_left (h.id == id) (has_member ms id) y | inr n ↦ or_right (h.id == id) (has_member ms id) (f n) ]

pub distinct_params : (o : Order) (ms : Members) (ss : Slots) (p : ℕ) → distinct_members ms ≡ true → distinct_ids (params_of o ms ss p) ≡ true
distinct_params o no_members ss p d = refl
distinct_params o (member h t ms) ss p d = by_slot (first ss) (p + length (sent_of o h t (first ss) p)) (λ q. distinct_params o ms (others ss) q parts.1)
  where
    parts : (not (has_member ms h.id) ≡ true) × (distinct_members ms ≡ true)
    parts = and_parts (not (has_member ms h.id)) (distinct_members ms) d

    by_slot : (s : Slot) (q : ℕ) → ((q : ℕ) → distinct_ids (params_of o ms (others ss) q) ≡ true) → distinct_ids (and_param o h t s p (params_of o ms (others ss) q)) ≡ true
    by_slot absent q f = f q
    by_slot (present w) q f =
        let none : has_id h.id (params_of o ms (others ss) q) ≡ false = false_from_ne_true _ (λ z. both_ways (has_member ms h.id) (not-true (has_member ms h.id) parts.0) (ids_of o ms (others ss) q h.id z)) in
        and_from (not (has_id h.id (params_of o ms (others ss) q))) (distinct_ids (params_of o ms (others ss) q)) (not_from_false _ none) (f q)

pub sent_fixed1_all : (o : Order) (ms : Members) (ss : Slots) (p : ℕ) (whole : List Piece) → Laws o ms ss → length (params_fixed o ms ss p) < 2 ^ 32 → distinct_members ms ≡ true
    → ((id : ℕ) → has_member ms id ≡ true → piece_of whole id ≡ piece_of (params_of o ms ss p) id) → writes_params o ms ss whole
unfolding writes_params params_fixed then_fixed
sent_fixed1_all o no_members ss p whole a l d f = tt
sent_fixed1_all o (member h t ms) ss p whole a l d f =
    let x = sent_of o h t (first ss) p in
    let q = p + length x in
    let len : length (x ++ params_fixed o ms (others ss) q) ≡ length x + length (params_fixed o ms (others ss) q) = length-append x (params_fixed o ms (others ss) q) in
    let parts = and_parts (not (has_member ms h.id)) (distinct_members ms) d in (
      here (first ss) a.0 (omega arith) (f h.id (or_left (h.id == h.id) (has_member ms h.id) (eq-eqb h.id h.id refl))),
      sent_fixed1_all o ms (others ss) q whole a.1 (omega arith) parts.1 (λ id m. f id (or_right (h.id == id) (has_member ms id) m) ∙ other (first ss) (params_of o ms (others ss) q) id (ne_eqb h.id id (λ z. both_ways (has_member ms h.id) (not-true (has_member ms h.id) parts.0) (ap (has_member ms) z ∙ m)))),
    )
  where
    here : (s : Slot) → SlotLaw o t s → length (sent_of o h t s p) < 2 ^ 32 → piece_of whole h.id ≡ piece_of (and_param o h t s p (params_of o ms (others ss) (p + length (sent_of o h t s p)))) h.id → sent (λ w at c. Content (not (is_open t)) (writes1 o t w) c) whole h s
    here absent a l e = tt
    here (present w) a l e =
        let short = content_short o h (fixed1 o t w 0) p in
        let qs = params_of o ms (others ss) (p + length (sent_of o h t (present w) p)) in
        record { piece = one_param o h (fixed1 o t w 0) p; found = e ∙ ap (λ (c : Bool). cond c (Some (one_param o h (fixed1 o t w 0) p)) (piece_of qs h.id)) (eq-eqb h.id h.id refl); mark = refl; content = whole_content (not (is_open t)) (writes1 o t w) (fixed1 o t w 0) (a (omega arith)) }

    other : (s : Slot) (qs : List Piece) (id : ℕ) → (h.id == id) ≡ false → piece_of (and_param o h t s p qs) id ≡ piece_of qs id
    other absent qs id n = refl
    other (present w) qs id n = ap (λ (c : Bool). cond c (Some (one_param o h (fixed1 o t w 0) p)) (piece_of qs id)) n

abbrev Present : Members → Slots → Piece → Type 0
Present ms ss q = (x : Shape × Val) × (part_at ms ss q.id ≡ Some x)

pub no_others_fixed1 : (o : Order) (ms : Members) (ss : Slots) (p : ℕ) (ns : Members) (rs : Slots) → distinct_members ms ≡ true → ((id : ℕ) → has_member ms id ≡ true → part_at ns rs id ≡ part_at ms ss id) → AllByRecursion (Present ns rs) (params_of o ms ss p)
no_others_fixed1 o no_members ss p ns rs d f = tt
no_others_fixed1 o (member h t ms) ss p ns rs d f =
    let parts = and_parts (not (has_member ms h.id)) (distinct_members ms) d in
    let q = p + length (sent_of o h t (first ss) p) in
    by_slot (first ss) (params_of o ms (others ss) q)
    (f h.id (or_left (h.id == h.id) (has_member ms h.id) (eq-eqb h.id h.id refl)) ∙ ap (λ (c : Bool). cond c (with_shape t (first ss)) (part_at ms (others ss) h.id)) (eq-eqb h.id h.id refl))
    (no_others_fixed1 o ms (others ss) q ns rs parts.1 (λ id m. f id (or_right (h.id == id) (has_member ms id) m)
    ∙ ap (λ (c : Bool). cond c (with_shape t (first ss)) (part_at ms (others ss) id)) (ne_eqb h.id id (λ z. both_ways (has_member ms h.id) (not-true (has_member ms h.id) parts.0) (ap (has_member ms) z ∙ m)))))
  where
    by_slot : (s : Slot) (qs : List Piece) → part_at ns rs h.id ≡ with_shape t s → AllByRecursion (Present ns rs) qs → AllByRecursion (Present ns rs) (and_param o h t s p qs)
    by_slot absent qs e a = a
    by_slot (present w) qs e a = (((t, w), e), a)
