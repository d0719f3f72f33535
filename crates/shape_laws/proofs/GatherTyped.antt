-- What is gathered from typed parts is typed.
use Rattle.std.proofs.Common.{◌≡◌, ℕ, zero, suc, ℤ, Bool, true, false, cond, not, ◌&&◌, List, [], ◌∷◌, map, length, take, Option, Some, None, refl, sym, ap, ◌∙◌, arith, inl, inr, ◌==◌, nat_lt}
use Rattle.std.proofs.lemmas.Bool.{cases_Bool, and_parts, and_from, eq-eqb, le-ltb, not_from_false}
use Rattle.std.proofs.lemmas.List.{length-take}
use Rattle.std.specs.Option.{option_map}
use Rattle.xt_shapes.specs.declared.leaves.Ext.{Ext}
use Rattle.xt_shapes.specs.declared.leaves.Try.{Try}
use Rattle.xt_shapes.specs.declared.leaves.Try.TheVariants.{Discard, UseDefault, Trim}
use Rattle.xt_shapes.specs.Defaults.{default_of}
use Rattle.xt_shapes.specs.Lists.{all}
use Rattle.xt_shapes.specs.Select.{select}
use Rattle.xt_shapes.specs.Shape.{Head, Shape, sequence, array, map_of, structure, union, Members, no_members, member, Cases, product}
use Rattle.xt_shapes.specs.Typing.{is_past, repeats, of_slot, of_body, has_type, have_types, case_type}
use Rattle.xt_shapes.specs.Vals.{Val, int, listed, mapped, struct_of, Slots, no_slots, one_slot, Slot, absent, present, vals_of, pairs_of, each_val, each_pair}
use Rattle.xcdr_model.specs.Premises.{own_default, member_defaults, defaults_typed}
use Rattle.xcdr_model.specs.Projection.{Built, got, over, failed, settled, both, all_some, kept, within, gather_items, gather_entries, then_entries, slot_default, slot_from, gather_slots, gather_members, Body, no_body, one_sided, settled_body, union_built}
use Rattle.shape_laws.proofs.NodesBuilt.{both_parts}
use Rattle.shape_laws.proofs.Rules.{left, right}

-- what is built, if anything is, has the type
abbrev pub ok : Shape → Built → Bool
ok t (got v) = has_type t v
ok t (over v) = has_type t v
ok t failed = true

settled_typed : (tc : Try) (t : Shape) (d : Val) (b : Built) (v : Val) → ok t b ≡ true → has_type t d ≡ true → settled tc d (λ x. x) b ≡ Some v → has_type t v ≡ true
settled_typed tc t d (got x) v h k e = (let z : x ≡ v = cc in ap (has_type t) (sym z) ∙ h)
settled_typed Trim t d (over x) v h k e = (let z : x ≡ v = cc in ap (has_type t) (sym z) ∙ h)
settled_typed UseDefault t d (over x) v h k e = (let z : d ≡ v = cc in ap (has_type t) (sym z) ∙ k)
settled_typed Discard t d (over x) v h k e = absurd cc
settled_typed UseDefault t d failed v h k e = (let z : d ≡ v = cc in ap (has_type t) (sym z) ∙ k)
settled_typed Trim t d failed v h k e = absurd cc
settled_typed Discard t d failed v h k e = absurd cc

all_typed : (tc : Try) (t : Shape) (d : Val) (bs : List Built) (vs : List Val) → all (ok t) bs ≡ true → has_type t d ≡ true → all_some (map (settled tc d (λ x. x)) bs) ≡ Some vs → (all (λ w. has_type t w) vs ≡ true) × (length vs ≡ length bs)
all_typed tc t d [] vs h k e = (let z : [] ≡ vs = cc in (ap (all (λ w. has_type t w)) (sym z), ap length (sym z)))
all_typed tc t d (b ∷ bs) vs h k e =
    let z = both_parts (λ (y : Val) (ys : List Val). y ∷ ys) (settled tc d (λ x. x) b) (all_some (map (settled tc d (λ x. x)) bs)) vs e in
    let p = and_parts (ok t b) (all (ok t) bs) h in
    let r = all_typed tc t d bs z.1 p.1 k z.3 in
    (ap (all (λ w. has_type t w)) (sym z.4) ∙ and_from (has_type t z.0) (all (λ w. has_type t w) z.1) (settled_typed tc t d b z.0 p.0 k z.2) r.0, omega (arith, ap length z.4, r.1))

pub take_ok : {A : Type 0} (p : A → Bool) (n : ℕ) (bs : List A) → all p bs ≡ true → all p (take n bs) ≡ true
take_ok p zero bs h = refl
take_ok p (suc n) [] h = refl
take_ok p (suc n) (b ∷ bs) h = and_from (p b) (all p (take n bs)) (left (p b) (all p bs) h) (take_ok p n bs (right (p b) (all p bs) h))

pub kept_ok : {A : Type 0} (p : A → Bool) (bound : ℕ) (bs : List A) → all p bs ≡ true → all p (kept bound bs) ≡ true
kept_ok p bound bs h = by_test (bound == 0)
  where
    by_test : (c : Bool) → all p (cond c bs (take bound bs)) ≡ true
    by_test true = h
    by_test false = take_ok p bound bs h

-- what is kept is within the bound
pub kept_within : {A : Type 0} (bound : ℕ) (bs : List A) → is_past bound (length (kept bound bs)) ≡ false
kept_within bound bs = elim (cases_Bool (bound == 0)) [
  | inl y ↦ ap (λ (c : Bool). not c && nat_lt bound (length (cond c bs (take bound bs)))) y
  | inr n ↦ ap (λ (c : Bool). not c && nat_lt bound (length (cond c bs (take bound bs)))) n ∙ le-ltb bound (length (take bound bs)) (omega (arith, length-take bound bs))
]

pub vals_each : (xs : List Val) → each_val (vals_of xs) ≡ xs
vals_each [] = refl
vals_each (x ∷ xs) = ap (λ (ys : List Val). x ∷ ys) (vals_each xs)

abbrev pair_up : Val → Val → Val × Val
pair_up a b = (a, b)

pub pairs_each : (xs : List (Val × Val)) → each_pair (pairs_of xs) ≡ xs
pairs_each [] = refl
pairs_each (x ∷ xs) = ap (λ (ys : List (Val × Val)). pair_up x.0 x.1 ∷ ys) (pairs_each xs)

within_ok : (t : Shape) (p : Bool) (v : Val) → has_type t v ≡ true → ok t (within p (Some v)) ≡ true
within_ok t true v h = h
within_ok t false v h = h

pub sequence_ok : (bound : ℕ) (tc : Try) (t : Shape) (bs : List Built) → all (ok t) bs ≡ true → own_default t ≡ true → ok (sequence bound tc t) (gather_items bound tc (default_of t) bs) ≡ true
unfolding has_type
sequence_ok bound tc t bs h k = by_all (all_some (map (settled tc (default_of t) (λ v. v)) (kept bound bs))) refl
  where
    by_all : (o : Option (List Val)) → all_some (map (settled tc (default_of t) (λ v. v)) (kept bound bs)) ≡ o → ok (sequence bound tc t) (within (is_past bound (length bs)) (option_map (λ vs. listed (vals_of vs)) o)) ≡ true
    by_all None e = refl
    by_all (Some vs) e =
        let z = all_typed tc t (default_of t) (kept bound bs) vs (kept_ok (ok t) bound bs h) k e in
        within_ok (sequence bound tc t) (is_past bound (length bs)) (listed (vals_of vs))
        (ap (λ (xs : List Val). not (is_past bound (length xs)) && all (λ w. has_type t w) xs) (vals_each vs)
        ∙ and_from (not (is_past bound (length vs))) (all (λ w. has_type t w) vs) (not_from_false _ (ap (is_past bound) z.1 ∙ kept_within bound bs)) z.0)

pub array_ok : (dims : List ℕ) (tc : Try) (t : Shape) (bs : List Built) → all (ok t) bs ≡ true → own_default t ≡ true → length bs ≡ product dims → ok (array dims tc t) (gather_items 0 tc (default_of t) bs) ≡ true
unfolding has_type
array_ok dims tc t bs h k n = by_all (all_some (map (settled tc (default_of t) (λ v. v)) bs)) refl
  where
    by_all : (o : Option (List Val)) → all_some (map (settled tc (default_of t) (λ v. v)) bs) ≡ o → ok (array dims tc t) (within false (option_map (λ vs. listed (vals_of vs)) o)) ≡ true
    by_all None e = refl
    by_all (Some vs) e =
        let z = all_typed tc t (default_of t) bs vs h k e in
        ap (λ (xs : List Val). (length xs == product dims) && all (λ w. has_type t w) xs) (vals_each vs) ∙ and_from (length vs == product dims) (all (λ w. has_type t w) vs) (eq-eqb (length vs) (product dims) (z.1 ∙ n)) z.0

-- ---- maps

abbrev pub ok2 : Shape → Shape → Built × Built → Bool
ok2 k t x = ok k x.0 && ok t x.1

abbrev entry : Try → Val → Try → Val → Built × Built → Option (Val × Val)
entry kc kd vc vd x = both (λ k v. (k, v)) (settled kc kd (λ v. v) x.0) (settled vc vd (λ v. v) x.1)

abbrev typed2 : Shape → Shape → Val × Val → Bool
typed2 k t e = has_type k e.0 && has_type t e.1

all_typed2 : (kc vc : Try) (k t : Shape) (kd vd : Val) (bs : List (Built × Built)) (vs : List (Val × Val)) → all (ok2 k t) bs ≡ true → has_type k kd ≡ true → has_type t vd ≡ true → all_some (map (entry kc kd vc vd) bs) ≡ Some vs → (all (typed2 k t) vs ≡ true) × (length vs ≡ length bs)
all_typed2 kc vc k t kd vd [] vs h g l e = (let z : [] ≡ vs = cc in (ap (all (typed2 k t)) (sym z), ap length (sym z)))
all_typed2 kc vc k t kd vd (b ∷ bs) vs h g l e =
    let z = both_parts (λ (y : Val × Val) (ys : List (Val × Val)). y ∷ ys) (entry kc kd vc vd b) (all_some (map (entry kc kd vc vd) bs)) vs e in
    let y = both_parts pair_up (settled kc kd (λ v. v) b.0) (settled vc vd (λ v. v) b.1) z.0 z.2 in
    let p = and_parts (ok2 k t b) (all (ok2 k t) bs) h in
    let q = and_parts (ok k b.0) (ok t b.1) p.0 in
    let r = all_typed2 kc vc k t kd vd bs z.1 p.1 g l z.3 in
    (ap (all (typed2 k t)) (sym z.4) ∙ and_from (typed2 k t z.0) (all (typed2 k t) z.1) (ap (typed2 k t) (sym y.4) ∙ and_from (has_type k y.0) (has_type t y.1) (settled_typed kc k kd b.0 y.0 q.0 g y.2) (settled_typed vc t vd b.1 y.1 q.1 l y.3)) r.0, omega (arith, ap length z.4, r.1))

repeats_ok : (t : Shape) (p c : Bool) (v : Val) → (c ≡ false → has_type t v ≡ true) → ok t (within p (cond c None (Some v))) ≡ true
repeats_ok t p true v h = refl
repeats_ok t p false v h = within_ok t p v (h refl)

pub map_ok : (bound : ℕ) (kc : Try) (k : Shape) (vc : Try) (t : Shape) (bs : List (Built × Built)) → all (ok2 k t) bs ≡ true → own_default k ≡ true → own_default t ≡ true → ok (map_of bound kc k vc t) (gather_entries bound kc (default_of k) vc (default_of t) bs) ≡ true
unfolding has_type
map_ok bound kc k vc t bs h g l = by_all (all_some (map (entry kc (default_of k) vc (default_of t)) (kept bound bs))) refl
  where
    by_all : (o : Option (List (Val × Val))) → all_some (map (entry kc (default_of k) vc (default_of t)) (kept bound bs)) ≡ o → ok (map_of bound kc k vc t) (within (is_past bound (length bs)) (then_entries o)) ≡ true
    by_all None e = refl
    by_all (Some vs) e =
        let z = all_typed2 kc vc k t (default_of k) (default_of t) (kept bound bs) vs (kept_ok (ok2 k t) bound bs h) g l e in
        repeats_ok (map_of bound kc k vc t) (is_past bound (length bs)) (repeats vs) (mapped (pairs_of vs)) (λ r.
        ap (λ (xs : List (Val × Val)). (not (is_past bound (length xs)) && not (repeats xs)) && all (λ e. has_type k e.0 && has_type t e.1) xs) (pairs_each vs)
        ∙ and_from (not (is_past bound (length vs)) && not (repeats vs)) (all (typed2 k t) vs) (and_from (not (is_past bound (length vs))) (not (repeats vs)) (not_from_false _ (ap (is_past bound) z.1 ∙ kept_within bound bs)) (not_from_false _ r)) z.0)

-- ---- structures

abbrev pub Gathers : Members → (ℕ → Option Built) → Type 0
Gathers no_members f = Unit {0}
Gathers (member h t ms) f = ((b : Built) → f h.id ≡ Some b → ok t b ≡ true) × Gathers ms f

default_slot : (o : Bool) (t : Shape) → own_default t ≡ true → of_slot o (λ w. has_type t w) (cond o absent (present (default_of t))) ≡ true
default_slot true t k = refl
default_slot false t k = k

settled_slot : (tc : Try) (o : Bool) (t : Shape) (d : Slot) (b : Built) (s : Slot) → ok t b ≡ true → of_slot o (λ w. has_type t w) d ≡ true → settled tc d present b ≡ Some s → of_slot o (λ w. has_type t w) s ≡ true
settled_slot tc o t d (got x) s h k e = (let z : present x ≡ s = cc in ap (of_slot o (λ w. has_type t w)) (sym z) ∙ h)
settled_slot Trim o t d (over x) s h k e = (let z : present x ≡ s = cc in ap (of_slot o (λ w. has_type t w)) (sym z) ∙ h)
settled_slot UseDefault o t d (over x) s h k e = (let z : d ≡ s = cc in ap (of_slot o (λ w. has_type t w)) (sym z) ∙ k)
settled_slot Discard o t d (over x) s h k e = absurd cc
settled_slot UseDefault o t d failed s h k e = (let z : d ≡ s = cc in ap (of_slot o (λ w. has_type t w)) (sym z) ∙ k)
settled_slot Trim o t d failed s h k e = absurd cc
settled_slot Discard o t d failed s h k e = absurd cc

slot_ok : (h : Head) (t : Shape) (o : Option Built) (s : Slot) → own_default t ≡ true → ((b : Built) → o ≡ Some b → ok t b ≡ true) → slot_from h t o ≡ Some s → of_slot h.optional (λ w. has_type t w) s ≡ true
slot_ok h t None s k f e = (let z : slot_default h t ≡ s = cc in ap (of_slot h.optional (λ w. has_type t w)) (sym z) ∙ default_slot h.optional t k)
slot_ok h t (Some b) s k f e = settled_slot h.tc h.optional t (slot_default h t) b s (f b refl) (default_slot h.optional t k) e

slots_ok : (ms : Members) (f : ℕ → Option Built) (ss : Slots) → member_defaults ms ≡ true → Gathers ms f → gather_slots ms f ≡ Some ss → have_types ms ss ≡ true
unfolding have_types
slots_ok no_members f ss k g e = (let z : no_slots ≡ ss = cc in ap (have_types no_members) (sym z))
slots_ok (member h t ms) f ss k g e =
    let z = both_parts one_slot (slot_from h t (f h.id)) (gather_slots ms f) ss e in
    let p = and_parts (own_default t && defaults_typed t) (member_defaults ms) k in
    ap (have_types (member h t ms)) (sym z.4) ∙ and_from (of_slot h.optional (λ w. has_type t w) z.0) (have_types ms z.1) (slot_ok h t (f h.id) z.0 (left (own_default t) (defaults_typed t) p.0) g.0 z.2) (slots_ok ms f z.1 p.1 g.1 z.3)

pub structure_ok : (e : Ext) (ms : Members) (f : ℕ → Option Built) → member_defaults ms ≡ true → Gathers ms f → ok (structure e ms) (gather_members ms f) ≡ true
unfolding has_type
structure_ok x ms f k g = by_slots (gather_slots ms f) refl
  where
    by_slots : (o : Option Slots) → gather_slots ms f ≡ o → ok (structure x ms) (within false (option_map struct_of o)) ≡ true
    by_slots None e = refl
    by_slots (Some ss) e = slots_ok ms f ss k g e

-- ---- unions

abbrev pub body_ok : Cases → Option ℕ → Body → Bool
body_ok cs None no_body = true
body_ok cs (Some i) no_body = false
body_ok cs i one_sided = true
body_ok cs i (settled_body None) = true
body_ok cs None (settled_body (Some w)) = false
body_ok cs (Some i) (settled_body (Some w)) = case_type cs i w

pub union_ok : (e : Ext) (key : Bool) (disc : Shape) (cs : Cases) (b : Built) (d : ℤ) (y : Body) → ((v : Val) → b ≡ got v → has_type disc (int d) ≡ true) → body_ok cs (select cs d) y ≡ true → ok (union e key disc cs) (union_built b d y) ≡ true
unfolding has_type
union_ok e key disc cs failed d y f g = refl
union_ok e key disc cs (over v) d y f g = refl
union_ok e key disc cs (got v) d no_body f g = and_from (has_type disc (int d)) (of_body (select cs d) (λ i w. case_type cs i w) absent) (f v refl) (none_typed (select cs d) g)
  where
    none_typed : (o : Option ℕ) → body_ok cs o no_body ≡ true → of_body o (λ i w. case_type cs i w) absent ≡ true
    none_typed None g = refl
    none_typed (Some i) g = absurd cc
union_ok e key disc cs (got v) d one_sided f g = refl
union_ok e key disc cs (got v) d (settled_body None) f g = refl
union_ok e key disc cs (got v) d (settled_body (Some w)) f g = and_from (has_type disc (int d)) (of_body (select cs d) (λ i z. case_type cs i z) (present w)) (f v refl) (some_typed (select cs d) g)
  where
    some_typed : (o : Option ℕ) → body_ok cs o (settled_body (Some w)) ≡ true → of_body o (λ i z. case_type cs i z) (present w) ≡ true
    some_typed None g = absurd cc
    some_typed (Some i) g = g

pub case_ok : (tc : Try) (t : Shape) (b : Built) (i : ℕ) (cs : Cases) → ok t b ≡ true → own_default t ≡ true → ((w : Val) → has_type t w ≡ true → case_type cs i w ≡ true) → body_ok cs (Some i) (settled_body (settled tc (default_of t) (λ y. y) b)) ≡ true
case_ok tc t b i cs h k f = by_settled (settled tc (default_of t) (λ y. y) b) refl
  where
    by_settled : (o : Option Val) → settled tc (default_of t) (λ y. y) b ≡ o → body_ok cs (Some i) (settled_body o) ≡ true
    by_settled None e = refl
    by_settled (Some v) e = f v (settled_typed tc t (default_of t) b v h k e)
