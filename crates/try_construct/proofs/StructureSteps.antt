-- Slots that are gathered as parts come make the structure that gathering all parts by id makes.
use Rattle.std.proofs.Common.{◌≡◌, refl, sym, ap, ap₂, ◌∙◌, ℕ, zero, suc, Bool, true, false, cond, ◌||◌, ◌==◌, not, eq-eqb, set, List, [], ◌∷◌, ◌++◌, replicate, Option, Some, None, inl, inr}
use Rattle.std.specs.Option.{option_map}
use Rattle.std.proofs.lemmas.Bool.{cases_Bool, eqb-true, and_parts}
use Rattle.xt_shapes.specs.Select.{has_member}
use Rattle.xt_shapes.specs.Shape.{Head, Shape, Members, no_members, member}
use Rattle.xt_shapes.specs.Vals.{Slot as Body, Slots, no_slots, one_slot, struct_of, slots_of as slots_from}
use Rattle.xcdr_model.specs.Premises.{distinct_members}
use Rattle.xcdr_model.specs.Projection.{Built, Part, both, within, slot_default, slot_from, built_at, any_unseen, gather_slots, whole_structure}
use Rattle.try_construct.specs.Members.{and_slot, slots_then, parts_by_id, slot_set, and_slot_at, slots_filled, slot_or, next_slot, later_slots, filled_of, filled_then, slot_so_far, slots_so_far, have_come, so_far, at_index}
use Rattle.try_construct.proofs.GatherSteps.{or_assoc, or_false}

abbrev pub Parts : Type 0
Parts = List (ℕ × Part)

-- ---- parts by id

abbrev pub first_built : Option Built → Option Built → Option Built
first_built None y = y
first_built (Some x) y = Some x

pub built_append : (xs ys : Parts) (id : ℕ) → built_at (xs ++ ys) id ≡ first_built (built_at xs id) (built_at ys id)
built_append [] ys id = refl
built_append (x ∷ xs) ys id = by_test (x.0 == id) (built_append xs ys id)
  where
    by_test : (b : Bool) → built_at (xs ++ ys) id ≡ first_built (built_at xs id) (built_at ys id) → cond b (Some x.1.0) (built_at (xs ++ ys) id) ≡ first_built (cond b (Some x.1.0) (built_at xs id)) (built_at ys id)
    by_test true more = refl
    by_test false more = more

pub unseen_append : (xs ys : Parts) → any_unseen (xs ++ ys) ≡ (any_unseen xs || any_unseen ys)
unseen_append [] ys = refl
unseen_append (x ∷ xs) ys = ap (λ b. x.1.1 || b) (unseen_append xs ys) ∙ sym (or_assoc x.1.1 (any_unseen xs) (any_unseen ys))

pub first_none : (x : Option Built) → first_built x None ≡ x
first_none None = refl
first_none (Some x) = refl

pub same_id : (id : ℕ) → (id == id) ≡ true
same_id id = eq-eqb id id refl

later_true : (a b : Bool) → b ≡ true → (a || b) ≡ true
later_true true b e = refl
later_true false b e = e

-- what is gathered depends on the parts of the members alone
pub gather_same : (ms : Members) (f g : ℕ → Option Built) → ((id : ℕ) → has_member ms id ≡ true → f id ≡ g id) → gather_slots ms f ≡ gather_slots ms g
gather_same no_members f g same = refl
gather_same (member h t ms) f g same =
    let here : f h.id ≡ g h.id = same h.id (ap (λ b. b || has_member ms h.id) (same_id h.id)) in
    let more = gather_same ms f g (λ id there. same id (later_true (h.id == id) (has_member ms id) there)) in
    rw (here, more) refl

pub other_id : (ms : Members) (id j : ℕ) → has_member ms id ≡ false → has_member ms j ≡ true → (id == j) ≡ false
other_id ms id j none some = elim (cases_Bool (id == j)) [
  | inl same ↦ (let z : true ≡ false = sym some ∙ ap (has_member ms) (sym (eqb-true id j same)) ∙ none in absurd cc)
  | inr other ↦ other
]

pub not_true : (b : Bool) → not b ≡ true → b ≡ false
not_true true e = absurd cc
not_true false e = refl

-- ---- in declared order

abbrev slots_before : List Body → Slots → Slots
slots_before [] ss = ss
slots_before (b ∷ bs) ss = one_slot b (slots_before bs ss)

before_one : (bs : List Body) (b : Body) (ss : Slots) → slots_before bs (one_slot b ss) ≡ slots_before (bs ++ b ∷ []) ss
before_one [] b ss = refl
before_one (x ∷ bs) b ss = ap (one_slot x) (before_one bs b ss)

before_none : (bs : List Body) → slots_before bs no_slots ≡ slots_from bs
before_none [] = refl
before_none (b ∷ bs) = ap (one_slot b) (before_none bs)

both_one : (g : Option (List Body)) (x : Option Body) (y : Option Slots) → both slots_before g (both one_slot x y) ≡ both slots_before (both (λ bs b. bs ++ b ∷ []) g x) y
both_one None x y = refl
both_one (Some bs) None y = refl
both_one (Some bs) (Some b) None = refl
both_one (Some bs) (Some b) (Some ss) = ap (λ l. Some l) (before_one bs b ss)

end_slots : (g : Option (List Body)) → within false (option_map (λ bs. struct_of (slots_from bs)) g) ≡ within false (option_map struct_of (both slots_before g (Some no_slots)))
end_slots None = refl
end_slots (Some bs) = ap (λ ss. within false (Some (struct_of ss))) (sym (before_none bs))

-- the slots so far, before those of a structure that is gathered by id
abbrev behind : Option (List Body) × Bool → Option Slots → Bool → Part
behind g ss u = (within false (option_map struct_of (both slots_before g.0 ss)), g.1 || u)

-- a part more in front, of a member whose id none of the others has
front_slots : (ms : Members) (id : ℕ) (x : Part) (ps : Parts) → has_member ms id ≡ false → gather_slots ms (built_at ((id, x) ∷ ps)) ≡ gather_slots ms (built_at ps)
front_slots ms id x ps none = gather_same ms (built_at ((id, x) ∷ ps)) (built_at ps) (λ j there. ap (λ (b : Bool). cond b (Some x.0) (built_at ps j)) (other_id ms id j none there))

none_by_id : (ms : Members) (xs : List (Option Part)) (id : ℕ) → has_member ms id ≡ false → built_at (parts_by_id ms xs) id ≡ None
none_by_id no_members xs id none = refl
none_by_id (member h t ms) [] id none = refl
none_by_id (member h t ms) (None ∷ xs) id none = none_by_id ms xs id (or_right (h.id == id) (has_member ms id) none)
  where
    or_right : (a b : Bool) → (a || b) ≡ false → b ≡ false
    or_right true b e = absurd cc
    or_right false b e = e
none_by_id (member h t ms) (Some x ∷ xs) id none =
    let (ne, more) = neither (h.id == id) (has_member ms id) none in
    rw ne (none_by_id ms xs id more)
  where
    neither : (a b : Bool) → (a || b) ≡ false → (a ≡ false) × (b ≡ false)
    neither true b e = absurd cc
    neither false b e = (refl, e)

slots_from_here : (ms : Members) (g : Option (List Body) × Bool) (xs : List (Option Part)) → distinct_members ms ≡ true
    → slots_then ms g xs ≡ behind g (gather_slots ms (built_at (parts_by_id ms xs))) (any_unseen (parts_by_id ms xs))
slots_from_here no_members g xs ok = ap₂ (λ (b : Built) (u : Bool). (b, u)) (end_slots g.0) (sym (or_false g.1))
slots_from_here (member h t ms) g [] ok =
    let (apart, more) = and_parts (not (has_member ms h.id)) (distinct_members ms) ok in
    slots_from_here ms (and_slot g (slot_from h t None, false)) [] more
    ∙ step ms (parts_none ms)
  where
    parts_none : (ns : Members) → parts_by_id ns [] ≡ []
    parts_none no_members = refl
    parts_none (member k s ns) = refl

    step : (ns : Members) → parts_by_id ns [] ≡ [] → behind (and_slot g (slot_from h t None, false)) (gather_slots ns (built_at (parts_by_id ns []))) (any_unseen (parts_by_id ns [])) ≡ behind g (both one_slot (slot_from h t None) (gather_slots ns (built_at []))) false
    step ns e = rw (e, both_one g.0 (slot_from h t None) (gather_slots ns (built_at [])), or_assoc g.1 false false) refl
slots_from_here (member h t ms) g (None ∷ xs) ok =
    let (apart, more) = and_parts (not (has_member ms h.id)) (distinct_members ms) ok in
    let ps = parts_by_id ms xs in
    let lacks : built_at ps h.id ≡ None = none_by_id ms xs h.id (not_true (has_member ms h.id) apart) in
    slots_from_here ms (and_slot g (slot_from h t None, false)) xs more
    ∙ rw (lacks, both_one g.0 (slot_from h t None) (gather_slots ms (built_at ps)), or_assoc g.1 false (any_unseen ps)) refl
slots_from_here (member h t ms) g (Some x ∷ xs) ok =
    let (apart, more) = and_parts (not (has_member ms h.id)) (distinct_members ms) ok in
    let ps = parts_by_id ms xs in
    let here = front_slots ms h.id x ps (not_true (has_member ms h.id) apart) in
    slots_from_here ms (and_slot g (slot_from h t (Some x.0), x.1)) xs more
    ∙ rw (same_id h.id, here, both_one g.0 (slot_from h t (Some x.0)) (gather_slots ms (built_at ps)), or_assoc g.1 x.1 (any_unseen ps)) refl

first_slots : (o : Option Slots) → both slots_before (Some []) o ≡ o
first_slots None = refl
first_slots (Some ss) = refl

-- members that come in declared order make the structure of all that came
pub slots_whole : (ms : Members) (xs : List (Option Part)) → distinct_members ms ≡ true → slots_then ms (Some [], false) xs ≡ whole_structure ms (parts_by_id ms xs) false
slots_whole ms xs ok =
    slots_from_here ms (Some [], false) xs ok
    ∙ rw (first_slots (gather_slots ms (built_at (parts_by_id ms xs))), or_false (any_unseen (parts_by_id ms xs))) refl

-- ---- by the index of the member

filled_one : (h : Head) (t : Shape) (ms : Members) (b : Option Built) (o : Option (List (Option Body))) → option_map (slots_filled (member h t ms)) (both (λ x xs. x ∷ xs) (slot_so_far h t b) o) ≡ both one_slot (slot_from h t b) (option_map (slots_filled ms) o)
filled_one h t ms None None = refl
filled_one h t ms None (Some bs) = refl
filled_one h t ms (Some b) o = by_slot (slot_from h t (Some b)) o
  where
    by_slot : (s : Option Body) (o : Option (List (Option Body))) → option_map (slots_filled (member h t ms)) (both (λ x xs. x ∷ xs) (option_map Some s) o) ≡ both one_slot s (option_map (slots_filled ms) o)
    by_slot None o = refl
    by_slot (Some s) None = refl
    by_slot (Some s) (Some bs) = refl

slots_by_member : (ms : Members) (ps : Parts) → gather_slots ms (built_at ps) ≡ option_map (slots_filled ms) (slots_so_far ms ps)
slots_by_member no_members ps = refl
slots_by_member (member h t ms) ps = ap (both one_slot (slot_from h t (built_at ps h.id))) (slots_by_member ms ps) ∙ sym (filled_one h t ms (built_at ps h.id) (slots_so_far ms ps))

filled_within : (ms : Members) (o : Option (List (Option Body))) → within false (option_map struct_of (option_map (slots_filled ms) o)) ≡ within false (option_map (λ bs. struct_of (slots_filled ms bs)) o)
filled_within ms None = refl
filled_within ms (Some bs) = refl

-- members that come in any order make the structure of all that came
pub filled_whole : (ms : Members) (ps : Parts) → filled_of ms (so_far ms ps) ≡ whole_structure ms ps false
filled_whole ms ps =
    ap₂ (λ (b : Built) (u : Bool). (b, u)) (sym (ap (λ o. within false (option_map struct_of o)) (slots_by_member ms ps) ∙ filled_within ms (slots_so_far ms ps))) (sym (or_false (any_unseen ps)))

-- ---- a part more, of a member that has not come

other_same : (ms : Members) (ps : Parts) (id : ℕ) (x : Part) → has_member ms id ≡ false → (slots_so_far ms (ps ++ (id, x) ∷ []) ≡ slots_so_far ms ps) × (have_come ms (ps ++ (id, x) ∷ []) ≡ have_come ms ps)
other_same no_members ps id x none = (refl, refl)
other_same (member h t ms) ps id x none =
    let (ne, more) = neither (h.id == id) (has_member ms id) none in
    let turned : (id == h.id) ≡ false = not_same id h.id ne in
    let here : built_at (ps ++ (id, x) ∷ []) h.id ≡ built_at ps h.id = built_append ps ((id, x) ∷ []) h.id ∙ ap (λ (b : Bool). first_built (built_at ps h.id) (cond b (Some x.0) None)) turned ∙ first_none (built_at ps h.id) in
    let rest = other_same ms ps id x more in
    (rw (here, rest.0) refl, rw (here, rest.1) refl)
  where
    neither : (a b : Bool) → (a || b) ≡ false → (a ≡ false) × (b ≡ false)
    neither true b e = absurd cc
    neither false b e = (refl, e)

    not_same : (a b : ℕ) → (b == a) ≡ false → (a == b) ≡ false
    not_same a b e = elim (cases_Bool (a == b)) [
      | inl same ↦ (let z : true ≡ false = sym (ap (λ (n : ℕ). n == a) (sym (eqb-true a b same)) ∙ same_id a) ∙ e in absurd cc)
      | inr other ↦ other
    ]

-- no member before the one with that index has its id
has_at : (ms : Members) (i : ℕ) (h : Head) (t : Shape) → at_index ms i ≡ Some (h, t) → has_member ms h.id ≡ true
has_at no_members i h t is = absurd cc
has_at (member k s ms) zero h t is = (let e : (k, s) ≡ (h, t) = cc in ap (λ (y : Head × Shape). (y.0.id == h.id) || has_member ms h.id) e ∙ ap (λ b. b || has_member ms h.id) (same_id h.id))
has_at (member k s ms) (suc i) h t is = later_true (k.id == h.id) (has_member ms h.id) (has_at ms i h t is)

set_front : (b : Option (Option Body)) (o : Option (List (Option Body))) (s : Option Body) (i : ℕ) → both (slot_set (suc i)) (both (λ x xs. x ∷ xs) b o) s ≡ both (λ x xs. x ∷ xs) b (both (slot_set i) o s)
set_front None o s i = refl
set_front (Some b) None s i = refl
set_front (Some b) (Some bs) None i = refl
set_front (Some b) (Some bs) (Some s) i = refl

set_here : (o : Option (List (Option Body))) (s : Option Body) → both (slot_set 0) (both (λ x xs. x ∷ xs) (Some None) o) s ≡ both (λ x xs. x ∷ xs) (option_map Some s) o
set_here None None = refl
set_here None (Some s) = refl
set_here (Some bs) None = refl
set_here (Some bs) (Some s) = refl

pub comes_at : (ms : Members) (ps : Parts) (i : ℕ) (h : Head) (t : Shape) (x : Part) → distinct_members ms ≡ true → at_index ms i ≡ Some (h, t) → built_at ps h.id ≡ None
    → (slots_so_far ms (ps ++ (h.id, x) ∷ []) ≡ both (slot_set i) (slots_so_far ms ps) (slot_from h t (Some x.0))) × (have_come ms (ps ++ (h.id, x) ∷ []) ≡ set (have_come ms ps) i true)
comes_at no_members ps i h t x ok is new = absurd cc
comes_at (member k s ms) ps zero h t x ok is new =
    let e : (k, s) ≡ (h, t) = cc in
    let kh : k ≡ h = ap (λ (y : Head × Shape). y.0) e in
    let st : s ≡ t = ap (λ (y : Head × Shape). y.1) e in
    let (apart, more) = and_parts (not (has_member ms k.id)) (distinct_members ms) ok in
    let none : has_member ms h.id ≡ false = ap (λ (y : Head). has_member ms y.id) (sym kh) ∙ not_true (has_member ms k.id) apart in
    let here : built_at (ps ++ (h.id, x) ∷ []) h.id ≡ Some x.0 = built_append ps ((h.id, x) ∷ []) h.id ∙ rw (new, same_id h.id) refl in
    let rest = other_same ms ps h.id x none in
    rw (kh, st, here, new, rest.0, rest.1) (sym (set_here (slots_so_far ms ps) (slot_from h t (Some x.0))), refl)
comes_at (member k s ms) ps (suc i) h t x ok is new =
    let (apart, more) = and_parts (not (has_member ms k.id)) (distinct_members ms) ok in
    let ne : (k.id == h.id) ≡ false = other_id ms k.id h.id (not_true (has_member ms k.id) apart) (has_at ms i h t is) in
    let turned : (h.id == k.id) ≡ false = not_same h.id k.id ne in
    let here : built_at (ps ++ (h.id, x) ∷ []) k.id ≡ built_at ps k.id = built_append ps ((h.id, x) ∷ []) k.id ∙ ap (λ (b : Bool). first_built (built_at ps k.id) (cond b (Some x.0) None)) turned ∙ first_none (built_at ps k.id) in
    let rest = comes_at ms ps i h t x more is new in
    rw (here, rest.0, rest.1) (sym (set_front (slot_so_far k s (built_at ps k.id)) (slots_so_far ms ps) (slot_from h t (Some x.0)) i), refl)
  where
    not_same : (a b : ℕ) → (b == a) ≡ false → (a == b) ≡ false
    not_same a b e = elim (cases_Bool (a == b)) [
      | inl same ↦ (let z : true ≡ false = sym (ap (λ (n : ℕ). n == a) (sym (eqb-true a b same)) ∙ same_id a) ∙ e in absurd cc)
      | inr other ↦ other
    ]

-- a part that comes of a member that has not come is settled into the member's slot
pub comes : (ms : Members) (ps : Parts) (i : ℕ) (h : Head) (t : Shape) (x : Part) → distinct_members ms ≡ true → at_index ms i ≡ Some (h, t) → built_at ps h.id ≡ None
    → so_far ms (ps ++ (h.id, x) ∷ []) ≡ and_slot_at (so_far ms ps) i (slot_from h t (Some x.0), x.1)
comes ms ps i h t x ok is new =
    let r = comes_at ms ps i h t x ok is new in
    rw (r.0, r.1, unseen_append ps ((h.id, x) ∷ []), or_false x.1) refl

-- before any part came
abbrev pub member_count : Members → ℕ
member_count no_members = zero
member_count (member h t ms) = suc (member_count ms)

pub none_came : (ms : Members) → so_far ms [] ≡ (Some (replicate (member_count ms) None), replicate (member_count ms) false, false)
none_came no_members = refl
none_came (member h t ms) =
    let more = none_came ms in
    let slots : slots_so_far ms [] ≡ Some (replicate (member_count ms) None) = ap (λ (y : Option (List (Option Body)) × List Bool × Bool). y.0) more in
    let flags : have_come ms [] ≡ replicate (member_count ms) false = ap (λ (y : Option (List (Option Body)) × List Bool × Bool). y.1) more in
    rw (slots, flags) refl

-- ---- filling the slots of the members that have not come

filled_behind : (ms : Members) (vs : List Body) (bs : List (Option Body)) → filled_then ms (Some vs, false) bs ≡ (within false (Some (struct_of (slots_before vs (slots_filled ms bs)))), false)
filled_behind no_members vs bs = ap (λ ss. (within false (Some (struct_of ss)), false)) (sym (before_none vs))
filled_behind (member h t ms) vs bs =
    filled_behind ms (vs ++ slot_or (slot_default h t) (next_slot bs) ∷ []) (later_slots bs)
    ∙ ap (λ ss. (within false (Some (struct_of ss)), false)) (sym (before_one vs (slot_or (slot_default h t) (next_slot bs)) (slots_filled ms (later_slots bs))))

-- all of them, with what was unseen
pub filled_all : (ms : Members) (bs : List (Option Body)) (flags : List Bool) (u : Bool) (x : Part) → x ≡ filled_then ms (Some [], false) bs → (x.0, x.1 || u) ≡ filled_of ms (Some bs, flags, u)
filled_all ms bs flags u x is = ap (λ (y : Part). (y.0, y.1 || u)) (is ∙ filled_behind ms [] bs)
