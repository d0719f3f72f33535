-- Members by index, and slots beside them.
use Rattle.std.proofs.Common.{MatchOption, ap₂, ◌≡◌, ◌⊎◌, nat_lt, get_or, is_some, ◌&&◌, not, drop, ◌≢◌, refl, sym, ap, ◌∙◌, ℕ, zero, suc, ◌+◌, ◌<◌, ◌≤◌, Bool, true, false, cond, ◌||◌, ◌==◌, List, [], ◌∷◌, length, slice_get, Option, Some, None, arith, inl, inr}
use Rattle.std.specs.Option.{option_map}
use Rattle.std.proofs.lemmas.Bool.{cases_Bool, ne_eqb, eq-eqb, and_parts, ltb-true, ltb-false}
use Rattle.xt_shapes.specs.Select.{has_member, is_must}
use Rattle.xt_shapes.specs.Shape.{Head, Shape, Members, no_members, member}
use Rattle.xt_shapes.specs.Vals.{Val, Slots, Slot as Body, absent, first, others}
use Rattle.type_trees.specs.declared.types.Member.{Member}
use Rattle.type_trees.specs.declared.values.Slot.{Slot}
use Rattle.type_trees.specs.declared.types.Case.{Case}
use Rattle.type_trees.specs.Bridge.{type_shape, members_shape, cases_shape, member_head}
use Rattle.type_trees.specs.View.{body_val, slots_val}
use Rattle.type_trees.proofs.Shapes.{members_shape_first, members_shape_at, cases_shape_at}
use Rattle.std.proofs.lemmas.List.{drop_all}
use Rattle.xcdr_model.specs.Premises.{distinct_members, sound, sound_members, sound_cases}
use Rattle.xcdr_model.specs.Projection.{Part, with_shape, part_at, is_present, lacks_must, slot_from, with_part, projected, projected_members, whole_structure, any_unseen}
use Rattle.try_construct.specs.Members.{and_slot, built_in, unseen_in, structure_of, slots_then, parts_by_id}
use Rattle.try_construct.proofs.StructureSteps.{other_id, same_id, not_true, slots_whole}
use Rattle.try_construct.proofs.GatherSteps.{or_false}
use Rattle.try_construct.specs.Steps.{member_built, parts_built}
use Rattle.try_construct.specs.Found.{IsAt, IsFound, LacksBetween}
use Rattle.try_construct.specs.Present.{slot_with, slot_at}

-- ---- slots

pub slot_here : (ss : List Slot) (i : ℕ) (s : Slot) → i < length ss → s ≡ get_or ss i s → slot_at (slots_val ss) i ≡ body_val s
slot_here [] i s low is = absurd (omega (arith, low))
slot_here (x ∷ ss) zero s low is = ap body_val (sym is)
slot_here (x ∷ ss) (suc i) s low is = slot_here ss i s (omega (arith, low)) is

pub slot_past : (ss : List Slot) (i : ℕ) → length ss ≤ i → slot_at (slots_val ss) i ≡ absent
slot_past [] i high = refl
slot_past (x ∷ ss) zero high = absurd (omega (arith, high))
slot_past (x ∷ ss) (suc i) high = slot_past ss i (omega (arith, high))

pub present_is : (o : Option Val) → is_some o ≡ is_present (slot_with o)
present_is None = refl
present_is (Some v) = refl

pub ruleset slot_rules = (slot_here, slot_past)

-- ---- members

lacks_first : (m : Member) (ms : List Member) (id : ℕ) → m.id ≢ id → has_member (members_shape ms) id ≡ false → has_member (members_shape (m ∷ ms)) id ≡ false
lacks_first m ms id ne more = ap (λ s. has_member s id) (members_shape_first m ms) ∙ rw (ne_eqb m.id id ne, more) refl

pub lacks_all : (ms : List Member) (id : ℕ) → ((i : ℕ) → i < length ms → (m : Member) → slice_get ms i ≡ Some m → m.id ≢ id) → has_member (members_shape ms) id ≡ false
lacks_all [] id none = refl
lacks_all (m ∷ ms) id none = lacks_first m ms id (none 0 (omega arith) m refl) (lacks_all ms id (λ i low n is. none (suc i) (omega (arith, low)) n is))

pub lacks_both : (ms : List Member) (id k : ℕ) → LacksBetween ms id k (length ms) → LacksBetween ms id 0 k → has_member (members_shape ms) id ≡ false
lacks_both ms id k high low = lacks_all ms id (λ i within m is. by_place i within m is (cases_Bool (nat_lt i k)))
  where
    by_place : (i : ℕ) → i < length ms → (m : Member) → slice_get ms i ≡ Some m → (nat_lt i k ≡ true) ⊎ (nat_lt i k ≡ false) → m.id ≢ id
    by_place i within m is (inl below) = low i (omega arith) (ltb-true i k below) m is
    by_place i within m is (inr above) = high i (ltb-false i k above) within m is

-- a member with that id is the one that is found by it, where ids are apart
apart_parts : (m : Member) (ms : List Member) → distinct_members (members_shape (m ∷ ms)) ≡ true → (has_member (members_shape ms) m.id ≡ false) × (distinct_members (members_shape ms) ≡ true)
apart_parts m ms ok =
    let e : distinct_members (members_shape (m ∷ ms)) ≡ (not (has_member (members_shape ms) m.id) && distinct_members (members_shape ms)) = ap distinct_members (members_shape_first m ms) in
    let p = and_parts (not (has_member (members_shape ms) m.id)) (distinct_members (members_shape ms)) (sym e ∙ ok) in
    (not_true (has_member (members_shape ms) m.id) p.0, p.1)

first_of : (ss : List Slot) → first (slots_val ss) ≡ slot_at (slots_val ss) 0
first_of [] = refl
first_of (s ∷ ss) = refl

pub has_here : (ms : List Member) (i : ℕ) (m : Member) → i < length ms → m ≡ get_or ms i m → has_member (members_shape ms) m.id ≡ true
has_here [] i m low is = absurd (omega (arith, low))
has_here (x ∷ ms) zero m low is = ap (λ s. has_member s m.id) (members_shape_first x ms) ∙ ap (λ (n : ℕ). (n == m.id) || has_member (members_shape ms) m.id) (ap (λ (y : Member). y.id) (sym is)) ∙ ap (λ b. b || has_member (members_shape ms) m.id) (same_id m.id)
has_here (x ∷ ms) (suc i) m low is = ap (λ s. has_member s m.id) (members_shape_first x ms) ∙ or_true (x.id == m.id) (has_member (members_shape ms) m.id) (has_here ms i m (omega (arith, low)) is)
  where
    or_true : (a b : Bool) → b ≡ true → (a || b) ≡ true
    or_true true b e = refl
    or_true false b e = e

passed : (x : Member) (ms : List Member) (ss : List Slot) (m : Member) → has_member (members_shape ms) x.id ≡ false → has_member (members_shape ms) m.id ≡ true → part_at (members_shape (x ∷ ms)) (slots_val ss) m.id ≡ part_at (members_shape ms) (others (slots_val ss)) m.id
passed x ms ss m none some =
    ap (λ s. part_at s (slots_val ss) m.id) (members_shape_first x ms)
    ∙ ap (λ (b : Bool). cond b (with_shape (type_shape x.ty) (first (slots_val ss))) (part_at (members_shape ms) (others (slots_val ss)) m.id)) (other_id (members_shape ms) x.id m.id none some)

pub found_here : (ms : List Member) (ss : List Slot) (i : ℕ) (m : Member) → i < length ms → m ≡ get_or ms i m → distinct_members (members_shape ms) ≡ true → part_at (members_shape ms) (slots_val ss) m.id ≡ with_shape (type_shape m.ty) (slot_at (slots_val ss) i)
found_here [] ss i m low is ok = absurd (omega (arith, low))
found_here (x ∷ ms) ss zero m low is ok =
    ap (λ s. part_at s (slots_val ss) m.id) (members_shape_first x ms)
    ∙ ap (λ (y : Member). cond (y.id == m.id) (with_shape (type_shape y.ty) (first (slots_val ss))) (part_at (members_shape ms) (others (slots_val ss)) m.id)) (sym is)
    ∙ ap (λ (b : Bool). cond b (with_shape (type_shape m.ty) (first (slots_val ss))) (part_at (members_shape ms) (others (slots_val ss)) m.id)) (same_id m.id)
    ∙ ap (with_shape (type_shape m.ty)) (first_of ss)
found_here (x ∷ ms) [] (suc i) m low is ok =
    let p = apart_parts x ms ok in
    passed x ms [] m p.0 (has_here ms i m (omega (arith, low)) is) ∙ found_here ms [] i m (omega (arith, low)) is p.1
found_here (x ∷ ms) (s ∷ ss) (suc i) m low is ok =
    let p = apart_parts x ms ok in
    passed x ms (s ∷ ss) m p.0 (has_here ms i m (omega (arith, low)) is) ∙ found_here ms ss i m (omega (arith, low)) is p.1

-- where no member has the id
pub lacks_part : (ms : Members) (ss : Slots) (id : ℕ) → has_member ms id ≡ false → part_at ms ss id ≡ None
lacks_part no_members ss id none = refl
lacks_part (member h t ms) ss id none =
    let p = neither (h.id == id) (has_member ms id) none in
    rw p.0 (lacks_part ms (others ss) id p.1)
  where
    neither : (a b : Bool) → (a || b) ≡ false → (a ≡ false) × (b ≡ false)
    neither true b e = absurd cc
    neither false b e = (refl, e)

-- ---- one member on

drop_first : (ss : List Slot) (i : ℕ) → first (slots_val (drop i ss)) ≡ slot_at (slots_val ss) i
drop_first [] zero = refl
drop_first [] (suc i) = refl
drop_first (s ∷ ss) zero = refl
drop_first (s ∷ ss) (suc i) = drop_first ss i

drop_others : (ss : List Slot) (i : ℕ) → others (slots_val (drop i ss)) ≡ slots_val (drop (suc i) ss)
drop_others [] zero = refl
drop_others [] (suc i) = refl
drop_others (s ∷ ss) zero = refl
drop_others (s ∷ ss) (suc i) = drop_others ss i

pub lacks_step : (b : Bool) (ms : Members) (ns : List Member) (ss : List Slot) (i : ℕ) (n : Member) → i < length ns → n ≡ get_or ns i n → b ≡ (is_present (slot_at (slots_val ss) i) && (is_must (member_head n) && not (has_member ms n.id)))
    → lacks_must ms (members_shape (drop i ns)) (slots_val (drop i ss)) ≡ (b || lacks_must ms (members_shape (drop (i + 1) ns)) (slots_val (drop (i + 1) ss)))
lacks_step b ms ns ss i n low is e =
    let next : suc i ≡ i + 1 = omega arith in
    ap (λ s. lacks_must ms s (slots_val (drop i ss))) (members_shape_at ns i n low is)
    ∙ ap₂ (λ (s : Body) (r : Slots). (is_present s && (is_must (member_head n) && not (has_member ms n.id))) || lacks_must ms (members_shape (drop (i + 1) ns)) r) (drop_first ss i) (drop_others ss i ∙ ap (λ (k : ℕ). slots_val (drop k ss)) next)
    ∙ ap (λ c. c || lacks_must ms (members_shape (drop (i + 1) ns)) (slots_val (drop (i + 1) ss))) (sym e)

pub lacks_end : (ms : Members) (ns : List Member) (ss : List Slot) (i : ℕ) → length ns ≤ i → lacks_must ms (members_shape (drop i ns)) (slots_val (drop i ss)) ≡ false
lacks_end ms ns ss i high = ap (λ l. lacks_must ms (members_shape l) (slots_val (drop i ss))) (drop_all i ns high)

pub slots_step : (ms : List Member) (ns : Members) (ss : Slots) (g : Option (List Body) × Bool) (i : ℕ) (m : Member) (x : Option Part) → i < length ms → m ≡ get_or ms i m → x ≡ member_built (type_shape m.ty) (part_at ns ss m.id)
    → slots_then (members_shape (drop i ms)) g (parts_built (members_shape (drop i ms)) ns ss) ≡ slots_then (members_shape (drop (i + 1) ms)) (and_slot g (slot_from (member_head m) (type_shape m.ty) (built_in x), unseen_in x)) (parts_built (members_shape (drop (i + 1) ms)) ns ss)
slots_step ms ns ss g i m x low is e =
    ap (λ s. slots_then s g (parts_built s ns ss)) (members_shape_at ms i m low is)
    ∙ ap (λ (y : Option Part). slots_then (members_shape (drop (i + 1) ms)) (and_slot g (slot_from (member_head m) (type_shape m.ty) (built_in y), unseen_in y)) (parts_built (members_shape (drop (i + 1) ms)) ns ss)) (sym e)

pub slots_end : (ms : List Member) (ns : Members) (ss : Slots) (g : Option (List Body) × Bool) (i : ℕ) → length ms ≤ i → slots_then (members_shape (drop i ms)) g (parts_built (members_shape (drop i ms)) ns ss) ≡ structure_of g
slots_end ms ns ss g i high = ap (λ l. slots_then (members_shape l) g (parts_built (members_shape l) ns ss)) (drop_all i ms high)

with_one : (id : ℕ) (t : Shape) (x : Option (Shape × Val)) (h : Head) (ms : Members) (xs : List (Option Part)) → h.id ≡ id → parts_by_id (member h t ms) (option_map (λ y. projected t y.0 y.1) x ∷ xs) ≡ with_part id (λ t2 w. projected t t2 w) x (parts_by_id ms xs)
with_one id t None h ms xs e = refl
with_one id t (Some y) h ms xs e = ap (λ (i : ℕ). (i, projected t y.0 y.1) ∷ parts_by_id ms xs) e

-- the parts that are built are those of the projection
pub parts_are : (ms ns : Members) (ss : Slots) → parts_by_id ms (parts_built ms ns ss) ≡ projected_members ms ns ss
unfolding projected_members
parts_are no_members ns ss = refl
parts_are (member h t ms) ns ss =
    with_one h.id t (part_at ns ss h.id) h ms (parts_built ms ns ss) refl
    ∙ ap (with_part h.id (λ t2 w. projected t t2 w) (part_at ns ss h.id)) (parts_are ms ns ss)

-- all members
pub structure_starts : (ms ns : Members) (ss : Slots) → distinct_members ms ≡ true → slots_then ms (Some [], false) (parts_built ms ns ss) ≡ whole_structure ms (projected_members ms ns ss) false
structure_starts ms ns ss ok = slots_whole ms (parts_built ms ns ss) ok ∙ ap (λ ps. whole_structure ms ps false) (parts_are ms ns ss)

-- what is unseen beside the members
pub and_unseen : (ms : Members) (ps : List (ℕ × Part)) (u : Bool) (x : Part) → x ≡ whole_structure ms ps false → (x.0, x.1 || u) ≡ whole_structure ms ps u
and_unseen ms ps u x e = ap (λ (y : Part). (y.0, y.1 || u)) e ∙ ap (λ b. ((whole_structure ms ps u).0, b || u)) (or_false (any_unseen ps))

-- a sound member of those that are left
pub sound_step : (ms : List Member) (i : ℕ) (m : Member) → i < length ms → m ≡ get_or ms i m → sound_members (members_shape (drop i ms)) ≡ true → (sound (type_shape m.ty) ≡ true) × (sound_members (members_shape (drop (i + 1) ms)) ≡ true)
sound_step ms i m low is ok = and_parts (sound (type_shape m.ty)) (sound_members (members_shape (drop (i + 1) ms))) (sym (ap sound_members (members_shape_at ms i m low is)) ∙ ok)

pub sound_at : (ms : List Member) (i : ℕ) (m : Member) → i < length ms → m ≡ get_or ms i m → sound_members (members_shape ms) ≡ true → sound (type_shape m.ty) ≡ true
sound_at [] i m low is ok = absurd (omega (arith, low))
sound_at (x ∷ ms) zero m low is ok = ap (λ (y : Member). sound (type_shape y.ty)) is ∙ (and_parts (sound (type_shape x.ty)) (sound_members (members_shape ms)) (sym (ap sound_members (members_shape_first x ms)) ∙ ok)).0
sound_at (x ∷ ms) (suc i) m low is ok = sound_at ms i m (omega (arith, low)) is (and_parts (sound (type_shape x.ty)) (sound_members (members_shape ms)) (sym (ap sound_members (members_shape_first x ms)) ∙ ok)).1

pub sound_case_step : (cs : List Case) (i : ℕ) (c : Case) → i < length cs → c ≡ get_or cs i c → sound_cases (cases_shape (drop i cs)) ≡ true → (sound (type_shape c.ty) ≡ true) × (sound_cases (cases_shape (drop (i + 1) cs)) ≡ true)
sound_case_step cs i c low is ok = and_parts (sound (type_shape c.ty)) (sound_cases (cases_shape (drop (i + 1) cs))) (sym (ap sound_cases (cases_shape_at cs i c low is)) ∙ ok)

-- ---- what was found

pub found_before : (ms : List Member) (id k : ℕ) (r : Option ℕ) → MatchOption r (LacksBetween ms id 0 k) (λ i. IsAt ms id i) → LacksBetween ms id k (length ms) → IsFound ms id r
found_before ms id k None low high = lacks_both ms id k high low
found_before ms id k (Some i) at high = at

or_true : (a b : Bool) → b ≡ true → (a || b) ≡ true
or_true true b e = refl
or_true false b e = e

pub at_has : (ms : List Member) (id i : ℕ) → IsAt ms id i → has_member (members_shape ms) id ≡ true
at_has [] id i at = absurd (omega (arith, at.0))
at_has (m ∷ ms) id zero at = ap (λ s. has_member s id) (members_shape_first m ms) ∙ ap (λ b. b || has_member (members_shape ms) id) (eq-eqb m.id id (at.1 m refl))
at_has (m ∷ ms) id (suc i) at = ap (λ s. has_member s id) (members_shape_first m ms) ∙ or_true (m.id == id) (has_member (members_shape ms) id) (at_has ms id i (omega (arith, at.0), λ n e. at.1 n e))

pub not_needed : (a b c : Bool) → c ≡ true → false ≡ (a && (b && not c))
not_needed true true c e = ap not (sym e)
not_needed true false c e = refl
not_needed false b c e = refl

at_member : (ms : List Member) (id i : ℕ) → IsAt ms id i → (m : Member) × ((m ≡ get_or ms i m) × (m.id ≡ id))
at_member [] id i at = absurd (omega (arith, at.0))
at_member (m ∷ ms) id zero at = (m, (refl, at.1 m refl))
at_member (m ∷ ms) id (suc i) at = at_member ms id i (omega (arith, at.0), λ n e. at.1 n e)

pub found_at : (ms : List Member) (ss : List Slot) (id i : ℕ) → IsAt ms id i → distinct_members (members_shape ms) ≡ true → (m : Member) → m ≡ get_or ms i m → part_at (members_shape ms) (slots_val ss) id ≡ with_shape (type_shape m.ty) (slot_at (slots_val ss) i)
found_at ms ss id i at ok m is =
    let same : m.id ≡ id = sym (same_at ms i m (at_member ms id i at).0 at.0 is (at_member ms id i at).1.0) ∙ (at_member ms id i at).1.1 in
    ap (part_at (members_shape ms) (slots_val ss)) (sym same) ∙ found_here ms ss i m at.0 is ok
  where
    same_at : (ms : List Member) (i : ℕ) (m n : Member) → i < length ms → m ≡ get_or ms i m → n ≡ get_or ms i n → n.id ≡ m.id
    same_at [] i m n low p q = absurd (omega (arith, low))
    same_at (x ∷ ms) zero m n low p q = ap (λ (y : Member). y.id) (q ∙ sym p)
    same_at (x ∷ ms) (suc i) m n low p q = same_at ms i m n (omega (arith, low)) p q

pub found_absent : (ms : List Member) (ss : List Slot) (id i : ℕ) → IsAt ms id i → distinct_members (members_shape ms) ≡ true → absent ≡ slot_at (slots_val ss) i → part_at (members_shape ms) (slots_val ss) id ≡ None
found_absent ms ss id i at ok none =
    let m = at_member ms id i at in
    found_at ms ss id i at ok m.0 m.1.0 ∙ ap (with_shape (type_shape m.0.ty)) (sym none)
