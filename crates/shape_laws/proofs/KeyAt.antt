-- The part of a counted member by its id, and what a writer's value has there.
use Rattle.std.proofs.Common.{◌≡◌, ℕ, Bool, true, false, cond, not, ◌||◌, ◌&&◌, Option, Some, None, refl, sym, ap, ap₂, ◌∙◌, inl, inr, ◌==◌}
use Rattle.std.proofs.lemmas.Bool.{cases_Bool, and_parts, eqb-true, or_parts, or_cases, or_left, or_right, not-true, both_ways}
use Rattle.xt_shapes.specs.Keyable.{counted, keyable, counted_keyable}
use Rattle.xt_shapes.specs.Select.{has_member, shape_at}
use Rattle.xt_shapes.specs.Shape.{Head, Shape, Members, no_members, member}
use Rattle.xt_shapes.specs.Typing.{of_slot, has_type, have_types}
use Rattle.xt_shapes.specs.Vals.{Val, Slots, no_slots, one_slot, Slot, absent, present, first, others}
use Rattle.xcdr_model.specs.Keys.{of_present, key_part, key_parts, counts_id}
use Rattle.xcdr_model.specs.Premises.{distinct_members}
use Rattle.xcdr_model.specs.Projection.{part_at, with_shape}
use Rattle.shape_laws.proofs.KeySort.{Entries, lookup, rising, insert_at, insert_rising}
use Rattle.shape_laws.proofs.Rules.{left, right}

abbrev pub part_of : Shape → Slot → Option Val
part_of t absent = None
part_of t (present w) = Some (key_part t w)

abbrev pub key_at : Bool → Members → Slots → ℕ → Option Val
key_at keyed no_members ss id = None
key_at keyed (member h t ms) ss id = cond (counted keyed h && (h.id == id)) (part_of t (first ss)) (key_at keyed ms (others ss) id)

none_key : (keyed : Bool) (ms : Members) (ss : Slots) (id : ℕ) → has_member ms id ≡ false → key_at keyed ms ss id ≡ None
none_key keyed no_members ss id e = refl
none_key keyed (member h t ms) ss id e =
    let p = or_parts (h.id == id) (has_member ms id) e in
    ap (λ (c : Bool). cond (counted keyed h && c) (part_of t (first ss)) (key_at keyed ms (others ss) id)) p.0 ∙ no_and (counted keyed h) (part_of t (first ss)) (key_at keyed ms (others ss) id) ∙ none_key keyed ms (others ss) id p.1
  where
    no_and : (c : Bool) (x y : Option Val) → cond (c && false) x y ≡ y
    no_and true x y = refl
    no_and false x y = refl

one_part : (c : Bool) (h : Head) (t : Shape) (s : Slot) (rest : Entries Val) (id : ℕ) → lookup rest h.id ≡ None
    → lookup (cond c (of_present s (λ w. (h.id, key_part t w)) rest) rest) id ≡ cond (c && (h.id == id)) (part_of t s) (lookup rest id)
one_part false h t s rest id n = refl
one_part true h t absent rest id n = elim (cases_Bool (h.id == id)) [
  | inl y ↦ ap (lookup rest) (sym (eqb-true h.id id y)) ∙ n ∙ ap (λ (c : Bool). cond c None (lookup rest id)) (sym y)
  | inr m ↦ ap (λ (c : Bool). cond c None (lookup rest id)) (sym m)
]
one_part true h t (present w) rest id n = insert_at (h.id, key_part t w) rest id n

one_rising : (c : Bool) (h : Head) (t : Shape) (s : Slot) (rest : Entries Val) → lookup rest h.id ≡ None → rising rest ≡ true → rising (cond c (of_present s (λ w. (h.id, key_part t w)) rest) rest) ≡ true
one_rising false h t s rest n r = r
one_rising true h t absent rest n r = r
one_rising true h t (present w) rest n r = insert_rising (h.id, key_part t w) rest r n

pub lookup_parts : (keyed : Bool) (ms : Members) (ss : Slots) → distinct_members ms ≡ true → (id : ℕ) → lookup (key_parts keyed ms ss) id ≡ key_at keyed ms ss id
lookup_parts keyed no_members ss d id = refl
lookup_parts keyed (member h t ms) ss d id =
    let p = and_parts (not (has_member ms h.id)) (distinct_members ms) d in
    let rest = lookup_parts keyed ms (others ss) p.1 in
    one_part (counted keyed h) h t (first ss) (key_parts keyed ms (others ss)) id (rest h.id ∙ none_key keyed ms (others ss) h.id (not-true (has_member ms h.id) p.0))
    ∙ ap (cond (counted keyed h && (h.id == id)) (part_of t (first ss))) (rest id)

pub rising_parts : (keyed : Bool) (ms : Members) (ss : Slots) → distinct_members ms ≡ true → rising (key_parts keyed ms ss) ≡ true
rising_parts keyed no_members ss d = refl
rising_parts keyed (member h t ms) ss d =
    let p = and_parts (not (has_member ms h.id)) (distinct_members ms) d in
    one_rising (counted keyed h) h t (first ss) (key_parts keyed ms (others ss)) (lookup_parts keyed ms (others ss) p.1 h.id ∙ none_key keyed ms (others ss) h.id (not-true (has_member ms h.id) p.0)) (rising_parts keyed ms (others ss) p.1)

-- ---- what is counted

pub counted_next : (keyed : Bool) (h : Head) (t : Shape) (ms : Members) (id : ℕ) → counts_id keyed (member h t ms) id ≡ ((counted keyed h && (h.id == id)) || counts_id keyed ms id)
counted_next keyed h t ms id = refl

pub counted_member : (keyed : Bool) (ms : Members) (id : ℕ) → counts_id keyed ms id ≡ true → has_member ms id ≡ true
counted_member keyed no_members id e = absurd cc
counted_member keyed (member h t ms) id e = elim (or_cases (counted keyed h && (h.id == id)) (counts_id keyed ms id) (sym (counted_next keyed h t ms id) ∙ e)) [
  | inl y ↦ or_left (h.id == id) (has_member ms id) (right (counted keyed h) (h.id == id) y)
  | inr y ↦ or_right (h.id == id) (has_member ms id) (counted_member keyed ms id y)
]

pub not_counted : (keyed : Bool) (ms : Members) (ss : Slots) (id : ℕ) → counts_id keyed ms id ≡ false → key_at keyed ms ss id ≡ None
not_counted keyed no_members ss id e = refl
not_counted keyed (member h t ms) ss id e =
    let p = or_parts (counted keyed h && (h.id == id)) (counts_id keyed ms id) (sym (counted_next keyed h t ms id) ∙ e) in
    ap (λ (c : Bool). cond c (part_of t (first ss)) (key_at keyed ms (others ss) id)) p.0 ∙ not_counted keyed ms (others ss) id p.1

-- ---- a counted member of a value

pub record There (keyed : Bool) (ns : Members) (ss : Slots) (id : ℕ) : Type 0 where
  pub type : Shape
  pub value : Val
  pub shape : shape_at ns id ≡ Some type
  pub part : part_at ns ss id ≡ Some (type, value)
  pub typed : has_type type value ≡ true
  pub fit : keyable type ≡ true
  pub key : key_at keyed ns ss id ≡ Some (key_part type value)

abbrev Pair : Type 0
Pair = Shape × Val

here : (keyed : Bool) (h : Head) (u : Shape) (ns : Members) (s : Slot) (ss : Slots) (id : ℕ) → counted keyed h ≡ true → (h.id == id) ≡ true → (h.optional ≡ false) → keyable u ≡ true → of_slot h.optional (λ w. has_type u w) s ≡ true
    → There keyed (member h u ns) (one_slot s ss) id
here keyed h u ns absent ss id c e o k t = absurd (both_ways h.optional o t)
here keyed h u ns (present w) ss id c e o k t = record {
  type = u;
  value = w;
  shape = ap (λ (b : Bool). cond b (Some u) (shape_at ns id)) e;
  part = ap (λ (b : Bool). cond b (with_shape u (present w)) (part_at ns ss id)) e;
  typed = t;
  fit = k;
  key = ap₂ (λ (a b : Bool). cond (a && b) (Some (key_part u w)) (key_at keyed ns ss id)) c e;
}

later : (keyed : Bool) (h : Head) (u : Shape) (ns : Members) (s : Slot) (ss : Slots) (id : ℕ) → (h.id == id) ≡ false → There keyed ns ss id → There keyed (member h u ns) (one_slot s ss) id
later keyed h u ns s ss id e x = record {
  type = x.type;
  value = x.value;
  shape = ap (λ (b : Bool). cond b (Some u) (shape_at ns id)) e ∙ x.shape;
  part = ap (λ (b : Bool). cond b (with_shape u s) (part_at ns ss id)) e ∙ x.part;
  typed = x.typed;
  fit = x.fit;
  key = ap (λ (b : Bool). cond (counted keyed h && b) (part_of u s) (key_at keyed ns ss id)) e ∙ no_and (counted keyed h) ∙ x.key;
}
  where
    no_and : (c : Bool) → cond (c && false) (part_of u s) (key_at keyed ns ss id) ≡ key_at keyed ns ss id
    no_and true = refl
    no_and false = refl

pub needs : (c o k : Bool) → (not c || (not o && k)) ≡ true → c ≡ true → (o ≡ false) × (k ≡ true)
needs true true k e f = absurd cc
needs true false k e f = (refl, e)
needs false o k e f = absurd cc

pub is_there : (keyed : Bool) (ns : Members) (ss : Slots) (id : ℕ) → distinct_members ns ≡ true → have_types ns ss ≡ true → counted_keyable keyed ns ≡ true → counts_id keyed ns id ≡ true → There keyed ns ss id
unfolding have_types
is_there keyed no_members ss id d t k e = absurd cc
is_there keyed (member h u ns) no_slots id d t k e = absurd cc
is_there keyed (member h u ns) (one_slot s ss) id d t k e =
    let p = and_parts (not (has_member ns h.id)) (distinct_members ns) d in
    let q = and_parts (of_slot h.optional (λ w. has_type u w) s) (have_types ns ss) t in
    let r = and_parts (not (counted keyed h) || (not h.optional && keyable u)) (counted_keyable keyed ns) k in
    let f = sym (counted_next keyed h u ns id) ∙ e in
    elim (or_cases (counted keyed h && (h.id == id)) (counts_id keyed ns id) f) [
      | inl y ↦ (let c = left (counted keyed h) (h.id == id) y in
          let n = needs (counted keyed h) h.optional (keyable u) r.0 c in
          here keyed h u ns s ss id c (right (counted keyed h) (h.id == id) y) n.0 n.1 q.0)
      | inr y ↦ elim (cases_Bool (h.id == id)) [
        | inl z ↦ absurd (both_ways (has_member ns h.id) (not-true (has_member ns h.id) p.0) (ap (has_member ns) (eqb-true h.id id z) ∙ counted_member keyed ns id y))
        | inr z ↦ later keyed h u ns s ss id z (is_there keyed ns ss id p.1 q.1 r.1 y)
      ]
    ]
