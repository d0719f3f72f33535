-- The fixed spelling of a MUTABLE structure: its pieces in declared order.
use Rattle.std.proofs.Common.{◌≡◌, ℕ, ◌+◌, ◌-◌, ◌^◌, ◌<◌, ◌≤◌, Bool, true, false, cond, not, ◌||◌, ◌&&◌, List, [], ◌∷◌, ◌++◌, length, min, replicate, Some, refl, ap, ap₂, subst, ◌∙◌, arith, inl, inr, nat_lt, ◌==◌, ltb, add-zero}
use Rattle.std.proofs.lemmas.Bool.{cases_Bool, and_parts, and_from, eqb-true, eq-eqb, ne_eqb, ltb-true, not-true, not_from_false, or_cases, or_left, or_right, both_ways, false_from_ne_true}
use Rattle.std.proofs.lemmas.List.{length-append, append-nil, length-replicate}
use Rattle.std.specs.List.{AllByRecursion}
use Rattle.xt_shapes.specs.declared.leaves.Order.{Order}
use Rattle.xt_shapes.specs.Lists.{has}
use Rattle.xt_shapes.specs.Select.{has_member, is_must}
use Rattle.xt_shapes.specs.Shape.{Head, Shape, prim, str, enumeration, bitmask, Members, no_members, member}
use Rattle.xt_shapes.specs.Vals.{Val, Slots, Slot, absent, present, number_in, first, others}
use Rattle.xcdr_model.specs.FixedSpelling.{Fixed, number_fixed, then_fixed, scalar_size, code_of, piece_fixed, fixed, pieces_fixed}
use Rattle.xcdr_model.specs.Numbers.{octets, padding, raw}
use Rattle.xcdr_model.specs.Premises.{distinct_members, members_storable, storable}
use Rattle.xcdr_model.specs.Projection.{part_at, with_shape}
use Rattle.xcdr_model.specs.Xcdr2Reading.{Piece}
use Rattle.xcdr_model.specs.Xcdr2Spelling.{word, sized, counted, IsPiece, Pieces, piece_of, distinct_ids, sent, writes, writes_pieces}
use Rattle.shape_laws.proofs.Steps.{length-octets}

length_number : (most : ℕ) (o : Order) (k n p : ℕ) → length (number_fixed most o k n p) ≡ padding (min k most) p + k
unfolding number_fixed
length_number most o k n p = omega (arith, length-append (replicate (padding (min k most) p) 0) (octets o k n), length-replicate {A = ℕ} (padding (min k most) p) 0, length-octets o k n)

-- a size with a code of its own is aligned at each multiple of four
code_size : (k q : ℕ) → ltb (code_of k) 4 ≡ true → padding 4 q ≡ 0 → padding (min k 4) q + k ≡ 2 ^ code_of k
unfolding padding
code_size k q e z = elim (cases_Bool (k == 1)) [
  | inl y ↦ rw (eqb-true k 1 y) (omega arith)
  | inr n1 ↦ elim (cases_Bool (k == 2)) [
    | inl y ↦ rw (eqb-true k 2 y) (omega arith)
    | inr n2 ↦ elim (cases_Bool (k == 4)) [
      | inl y ↦ rw (eqb-true k 4 y) (omega arith)
      | inr n4 ↦ elim (cases_Bool (k == 8)) [
        | inl y ↦ rw (eqb-true k 8 y) (omega arith)
        | inr n8 ↦ (let z : ltb 4 4 ≡ true = rw (n1, n2, n4, n8) at e in absurd cc)
      ]
    ]
  ]
]

other_code : (k : ℕ) → ltb (code_of k) 4 ≡ false → code_of k ≡ 4
other_code k e = elim (cases_Bool (k == 1)) [
  | inl y ↦ (let z : ltb 0 4 ≡ false = rw (eqb-true k 1 y) at e in absurd cc)
  | inr n1 ↦ elim (cases_Bool (k == 2)) [
    | inl y ↦ (let z : ltb 1 4 ≡ false = rw (eqb-true k 2 y) at e in absurd cc)
    | inr n2 ↦ elim (cases_Bool (k == 4)) [
      | inl y ↦ (let z : ltb 2 4 ≡ false = rw (eqb-true k 4 y) at e in absurd cc)
      | inr n4 ↦ elim (cases_Bool (k == 8)) [
        | inl y ↦ (let z : ltb 3 4 ≡ false = rw (eqb-true k 8 y) at e in absurd cc)
        | inr n8 ↦ rw (n1, n2, n4, n8) refl
      ]
    ]
  ]
]

scalar_length : (o : Order) (t : Shape) (w : Val) (q : ℕ) → ltb (code_of (scalar_size t)) 4 ≡ true → padding 4 q ≡ 0 → length (fixed o t w q) ≡ 2 ^ code_of (scalar_size t)
unfolding fixed
scalar_length o (prim t) w q e z = length_number 4 o (scalar_size (prim t)) (raw (scalar_size (prim t)) (number_in w)) q ∙ code_size (scalar_size (prim t)) q e z
scalar_length o (enumeration x bits ls) w q e z = length_number 4 o (scalar_size (enumeration x bits ls)) (raw (scalar_size (enumeration x bits ls)) (number_in w)) q ∙ code_size (scalar_size (enumeration x bits ls)) q e z
scalar_length o (bitmask bits fs) w q e z = length_number 4 o (scalar_size (bitmask bits fs)) (raw (scalar_size (bitmask bits fs)) (number_in w)) q ∙ code_size (scalar_size (bitmask bits fs)) q e z
scalar_length o (str bound) w q e z = absurd cc
scalar_length o _ w q e z = absurd cc

-- ---- the pieces

abbrev head_size : Shape → ℕ
head_size t = cond (nat_lt (code_of (scalar_size t)) 4) 4 8

abbrev content_place : Shape → ℕ → ℕ
content_place t p = p + (padding 4 p + head_size t)

abbrev one_piece : Order → Head → Shape → Val → ℕ → Piece
one_piece o h t w p = record { header = p + padding 4 p; id = h.id; must = is_must h; content = record { at = content_place t p; rest = fixed o t w (content_place t p) } }

abbrev and_piece : Order → Head → Shape → Slot → ℕ → List Piece → List Piece
and_piece o h t absent p qs = qs
and_piece o h t (present w) p qs = one_piece o h t w p ∷ qs

abbrev pub fixed_piece : Order → Head → Shape → Slot → Fixed
fixed_piece o h t s = piece_fixed o h (code_of (scalar_size t)) (λ w. fixed o t w) s

abbrev pub pieces_of : Order → Members → Slots → ℕ → List Piece
pieces_of o no_members ss p = []
pieces_of o (member h t ms) ss p = and_piece o h t (first ss) p (pieces_of o ms (others ss) (p + length (fixed_piece o h t (first ss) p)))

-- each present member's value is spelled wherever it stands
abbrev pub SlotLaw : Order → Shape → Slot → Type 0
SlotLaw o t absent = Unit {0}
SlotLaw o t (present w) = (q : ℕ) → length (fixed o t w q) < 2 ^ 32 → writes o t w q (fixed o t w q)

abbrev pub Laws : Order → Members → Slots → Type 0
Laws o no_members ss = Unit {0}
Laws o (member h t ms) ss = SlotLaw o t (first ss) × Laws o ms (others ss)

aligned4 : (p : ℕ) → padding 4 (p + (padding 4 p + 4)) ≡ 0
unfolding padding
aligned4 p = omega arith

head_octets : (o : Order) (h : Head) (t : Shape) (w : Val) (p : ℕ) → List ℕ
head_octets o h t w p = octets o 4 (word (code_of (scalar_size t)) (one_piece o h t w p)) ++ cond (nat_lt (code_of (scalar_size t)) 4) [] (octets o 4 (length (fixed o t w (content_place t p))))

piece_spelled : (o : Order) (h : Head) (t : Shape) (w : Val) (p : ℕ) → h.id < 2 ^ 28 - 1 → length (fixed o t w (content_place t p)) < 2 ^ 32 → IsPiece o (one_piece o h t w p) p (fixed_piece o h t (present w) p)
unfolding piece_fixed head_octets
piece_spelled o h t w p id-fits len = elim (cases_Bool (ltb (code_of (scalar_size t)) 4)) [
  | inl y ↦ (let code = code_of (scalar_size t) in
      let q = one_piece o h t w p in
      let e : head_octets o h t w p ≡ octets o 4 (word code q) = ap (λ (c : Bool). octets o 4 (word code q) ++ cond c [] (octets o 4 (length (fixed o t w (content_place t p))))) y ∙ append-nil (octets o 4 (word code q)) in
      let place : padding 4 (content_place t p) ≡ 0 = ap (λ (c : Bool). padding 4 (p + (padding 4 p + cond c 4 8))) y ∙ aligned4 p in
      let four : head_size t ≡ 4 = ap (λ (c : Bool). cond c 4 8) y in
      record {
        pad = replicate (padding 4 p) 0;
        head = head_octets o h t w p;
        aligned = length-replicate (padding 4 p) 0;
        id_fits = id-fits;
        form = sized code (ltb-true code 4 y) (scalar_length o t w (content_place t p) y place) e;
        header_is = refl;
        content_is = omega (arith, four, length-replicate {A = ℕ} (padding 4 p) 0, ap length e ∙ length-octets o 4 (word code q));
        parts = refl;
      })
  | inr n ↦ (let code = code_of (scalar_size t) in
      let q = one_piece o h t w p in
      let is4 = other_code (scalar_size t) n in
      let c = fixed o t w (content_place t p) in
      let e : head_octets o h t w p ≡ octets o 4 (word 4 q) ++ octets o 4 (length c) = ap₂ (λ (d : ℕ) (x : Bool). octets o 4 (word d q) ++ cond x [] (octets o 4 (length c))) is4 n in
      let eight : head_size t ≡ 8 = ap (λ (c : Bool). cond c 4 8) n in
      record {
        pad = replicate (padding 4 p) 0;
        head = head_octets o h t w p;
        aligned = length-replicate (padding 4 p) 0;
        id_fits = id-fits;
        form = counted len e;
        header_is = refl;
        content_is = omega (arith, eight, length-replicate {A = ℕ} (padding 4 p) 0, ap length e ∙ length-append (octets o 4 (word 4 q)) (octets o 4 (length c)), length-octets o 4 (word 4 q), length-octets o 4 (length c));
        parts = refl;
      })
]

content_short : (o : Order) (h : Head) (t : Shape) (w : Val) (p : ℕ) → length (fixed o t w (content_place t p)) ≤ length (fixed_piece o h t (present w) p)
unfolding piece_fixed
content_short o h t w p =
    let c = fixed o t w (content_place t p) in
    let a = octets o 4 (word (code_of (scalar_size t)) (one_piece o h t w p)) ++ cond (nat_lt (code_of (scalar_size t)) 4) [] (octets o 4 (length c)) in
    omega (arith, length-append (replicate (padding 4 p) 0) (a ++ c), length-append a c)

pub all_pieces : (o : Order) (ms : Members) (ss : Slots) (p : ℕ) → Laws o ms ss → members_storable ms ≡ true → length (pieces_fixed o ms ss p) < 2 ^ 32 → Pieces o (pieces_of o ms ss p) p (pieces_fixed o ms ss p)
unfolding pieces_fixed then_fixed piece_fixed
all_pieces o no_members ss p a k l = omega arith
all_pieces o (member h t ms) ss p a k l = by_slot (first ss) a.0 l (λ q z. all_pieces o ms (others ss) q a.1 (right2 (storable t) (members_storable ms) (right2 (nat_lt h.id (2 ^ 28 - 1)) (storable t && members_storable ms) k)) z)
  where
    right2 : (x y : Bool) → (x && y) ≡ true → y ≡ true
    right2 x y e = (and_parts x y e).1

    by_slot : (s : Slot) → SlotLaw o t s → length (then_fixed (fixed_piece o h t s) (pieces_fixed o ms (others ss)) p) < 2 ^ 32 → ((q : ℕ) → length (pieces_fixed o ms (others ss) q) < 2 ^ 32 → Pieces o (pieces_of o ms (others ss) q) q (pieces_fixed o ms (others ss) q))
        → Pieces o (and_piece o h t s p (pieces_of o ms (others ss) (p + length (fixed_piece o h t s p)))) p (then_fixed (fixed_piece o h t s) (pieces_fixed o ms (others ss)) p)
    by_slot absent a l go = subst (λ (n : ℕ). Pieces o (pieces_of o ms (others ss) (p + 0)) n (pieces_fixed o ms (others ss) (p + 0))) (add-zero p) (go (p + 0) l)
    by_slot (present w) a l go =
        let f = fixed_piece o h t (present w) in
        let q = p + length (f p) in
        let len : length (f p ++ pieces_fixed o ms (others ss) q) ≡ length (f p) + length (pieces_fixed o ms (others ss) q) = length-append (f p) (pieces_fixed o ms (others ss) q) in
        let short = content_short o h t w p in
        record {
          left = f p;
          right = pieces_fixed o ms (others ss) q;
          parts = refl;
          one = piece_spelled o h t w p (ltb-true h.id (2 ^ 28 - 1) (and_parts (nat_lt h.id (2 ^ 28 - 1)) (storable t && members_storable ms) k).0) (omega arith);
          two = go q (omega arith);
        }

-- ---- their ids

abbrev has_id : ℕ → List Piece → Bool
has_id id qs = has (λ q. q.id == id) qs

ids_of : (o : Order) (ms : Members) (ss : Slots) (p id : ℕ) → has_id id (pieces_of o ms ss p) ≡ true → has_member ms id ≡ true
ids_of o no_members ss p id e = absurd cc
ids_of o (member h t ms) ss p id e = by_slot (first ss) (pieces_of o ms (others ss) (p + length (fixed_piece o h t (first ss) p))) (λ z. ids_of o ms (others ss) (p + length (fixed_piece o h t (first ss) p)) id z) e
  where
    by_slot : (s : Slot) (qs : List Piece) → (has_id id qs ≡ true → has_member ms id ≡ true) → has_id id (and_piece o h t s p qs) ≡ true → ((h.id == id) || has_member ms id) ≡ true
    by_slot absent qs f e = or_right (h.id == id) (has_member ms id) (f e)
    by_slot (present w) qs f e = elim (or_cases (h.id == id) (has_id id qs) e) [ inl y ↦ or_left (h.id == id) (has_member ms id) y | inr n ↦ or_right (h.id == id) (has_member ms id) (f n) ]

pub distinct_pieces : (o : Order) (ms : Members) (ss : Slots) (p : ℕ) → distinct_members ms ≡ true → distinct_ids (pieces_of o ms ss p) ≡ true
distinct_pieces o no_members ss p d = refl
distinct_pieces o (member h t ms) ss p d = by_slot (first ss) (p + length (fixed_piece o h t (first ss) p)) (λ q. distinct_pieces o ms (others ss) q parts.1)
  where
    parts : (not (has_member ms h.id) ≡ true) × (distinct_members ms ≡ true)
    parts = and_parts (not (has_member ms h.id)) (distinct_members ms) d

    by_slot : (s : Slot) (q : ℕ) → ((q : ℕ) → distinct_ids (pieces_of o ms (others ss) q) ≡ true) → distinct_ids (and_piece o h t s p (pieces_of o ms (others ss) q)) ≡ true
    by_slot absent q f = f q
    by_slot (present w) q f =
        let none : has_id h.id (pieces_of o ms (others ss) q) ≡ false = false_from_ne_true _ (λ z. both_ways (has_member ms h.id) (not-true (has_member ms h.id) parts.0) (ids_of o ms (others ss) q h.id z)) in
        and_from (not (has_id h.id (pieces_of o ms (others ss) q))) (distinct_ids (pieces_of o ms (others ss) q)) (not_from_false _ none) (f q)

pub sent_fixed : (o : Order) (ms : Members) (ss : Slots) (p : ℕ) (whole : List Piece) → Laws o ms ss → length (pieces_fixed o ms ss p) < 2 ^ 32 → distinct_members ms ≡ true
    → ((id : ℕ) → has_member ms id ≡ true → piece_of whole id ≡ piece_of (pieces_of o ms ss p) id) → writes_pieces o ms ss whole
unfolding writes_pieces pieces_fixed then_fixed
sent_fixed o no_members ss p whole a l d f = tt
sent_fixed o (member h t ms) ss p whole a l d f =
    let x = fixed_piece o h t (first ss) p in
    let q = p + length x in
    let len : length (x ++ pieces_fixed o ms (others ss) q) ≡ length x + length (pieces_fixed o ms (others ss) q) = length-append x (pieces_fixed o ms (others ss) q) in
    let parts = and_parts (not (has_member ms h.id)) (distinct_members ms) d in (
      here (first ss) a.0 (omega arith) (f h.id (or_left (h.id == h.id) (has_member ms h.id) (eq-eqb h.id h.id refl))),
      sent_fixed o ms (others ss) q whole a.1 (omega arith) parts.1 (λ id m. f id (or_right (h.id == id) (has_member ms id) m) ∙ other (first ss) (pieces_of o ms (others ss) q) id (ne_eqb h.id id (λ z. both_ways (has_member ms h.id) (not-true (has_member ms h.id) parts.0) (ap (has_member ms) z ∙ m)))),
    )
  where
    here : (s : Slot) → SlotLaw o t s → length (fixed_piece o h t s p) < 2 ^ 32 → piece_of whole h.id ≡ piece_of (and_piece o h t s p (pieces_of o ms (others ss) (p + length (fixed_piece o h t s p)))) h.id → sent (λ w. writes o t w) whole h s
    here absent a l e = tt
    here (present w) a l e =
        let short = content_short o h t w p in
        let qs = pieces_of o ms (others ss) (p + length (fixed_piece o h t (present w) p)) in
        record { piece = one_piece o h t w p; found = e ∙ ap (λ (c : Bool). cond c (Some (one_piece o h t w p)) (piece_of qs h.id)) (eq-eqb h.id h.id refl); mark = refl; content = a (content_place t p) (omega arith) }

    other : (s : Slot) (qs : List Piece) (id : ℕ) → (h.id == id) ≡ false → piece_of (and_piece o h t s p qs) id ≡ piece_of qs id
    other absent qs id n = refl
    other (present w) qs id n = ap (λ (c : Bool). cond c (Some (one_piece o h t w p)) (piece_of qs id)) n

abbrev Present : Members → Slots → Piece → Type 0
Present ms ss q = (x : Shape × Val) × (part_at ms ss q.id ≡ Some x)

pub no_others_fixed : (o : Order) (ms : Members) (ss : Slots) (p : ℕ) (ns : Members) (rs : Slots) → distinct_members ms ≡ true → ((id : ℕ) → has_member ms id ≡ true → part_at ns rs id ≡ part_at ms ss id) → AllByRecursion (Present ns rs) (pieces_of o ms ss p)
no_others_fixed o no_members ss p ns rs d f = tt
no_others_fixed o (member h t ms) ss p ns rs d f =
    let parts = and_parts (not (has_member ms h.id)) (distinct_members ms) d in
    let q = p + length (fixed_piece o h t (first ss) p) in
    by_slot (first ss) (pieces_of o ms (others ss) q)
    (f h.id (or_left (h.id == h.id) (has_member ms h.id) (eq-eqb h.id h.id refl)) ∙ ap (λ (c : Bool). cond c (with_shape t (first ss)) (part_at ms (others ss) h.id)) (eq-eqb h.id h.id refl))
    (no_others_fixed o ms (others ss) q ns rs parts.1 (λ id m. f id (or_right (h.id == id) (has_member ms id) m)
    ∙ ap (λ (c : Bool). cond c (with_shape t (first ss)) (part_at ms (others ss) id)) (ne_eqb h.id id (λ z. both_ways (has_member ms h.id) (not-true (has_member ms h.id) parts.0) (ap (has_member ms) z ∙ m)))))
  where
    by_slot : (s : Slot) (qs : List Piece) → part_at ns rs h.id ≡ with_shape t s → AllByRecursion (Present ns rs) qs → AllByRecursion (Present ns rs) (and_piece o h t s p qs)
    by_slot absent qs e a = a
    by_slot (present w) qs e a = (((t, w), e), a)
