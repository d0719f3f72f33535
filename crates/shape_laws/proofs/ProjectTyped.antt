-- What a reader makes of a typed value of an agreeing type has the reader's type.
use Rattle.std.proofs.Common.{◌≡◌, ℕ, ℤ, Bool, true, false, zero, suc, nat_lt, take, cond, not, ◌&&◌, List, [], ◌∷◌, length, map, Option, Some, None, refl, sym, ap, ap₂, subst, ◌∙◌, inl, inr, ◌==◌}
use Rattle.std.proofs.lemmas.Bool.{cases_Bool, and_parts, and_from, eq-eqb, not-true, not_from_false, or_parts, or_from}
use Rattle.std.proofs.lemmas.List.{length-map}
use Rattle.xt_shapes.specs.declared.leaves.Ext.{Ext}
use Rattle.xt_shapes.specs.Lists.{has, all}
use Rattle.xt_shapes.specs.Select.{is_literal, select, has_member, case_at, shape_at}
use Rattle.xt_shapes.specs.Shape.{Shape, str, structure, union, Members, no_members, member, Cases, no_cases, one_case}
use Rattle.xt_shapes.specs.Typing.{is_past, is_text_within, of_slot, of_body, has_type, have_types, case_type}
use Rattle.xt_shapes.specs.Vals.{Val, int, text, Slots, no_slots, one_slot, Slot, absent, present}
use Rattle.xcdr_model.specs.Premises.{distinct_members, own_default, defaults_typed, member_defaults, case_defaults}
use Rattle.xcdr_model.specs.Projection.{Built, gather_members, got, failed, Part, kept, within, gather_text, built_list, built_at, projected, projected_members, projected_case, part_at, with_shape, by_sides, Body, disc_across, settled_case}
use Rattle.shape_laws.proofs.Agreement.{Agree, same_prim, both_str, same_bits, same_mask, both_sequence, same_dims, both_map, both_final, both_appendable, both_mutable, final_union, appendable_union}
use Rattle.shape_laws.proofs.AnyOrder.{expected, just_built, built_projected}
use Rattle.shape_laws.proofs.Cases.{selected_case}
use Rattle.shape_laws.proofs.GatherTyped.{ok, ok2, kept_ok, kept_within, Gathers, structure_ok, body_ok, union_ok, case_ok}
use Rattle.shape_laws.proofs.KeyKept.{later_shape}
use Rattle.shape_laws.proofs.Rules.{left, right}
use Rattle.shape_laws.proofs.Self.{union_is}

-- ---- parts of a typed value

part_typed : (ns : Members) (ss : Slots) (id : ℕ) (x : Shape × Val) → have_types ns ss ≡ true → part_at ns ss id ≡ Some x → (shape_at ns id ≡ Some x.0) × (has_type x.0 x.1 ≡ true)
unfolding have_types
part_typed no_members ss id x h e = absurd cc
part_typed (member a u ns) no_slots id x h e = absurd cc
part_typed (member a u ns) (one_slot s ss) id x h e =
    let p = and_parts (of_slot a.optional (λ w. has_type u w) s) (have_types ns ss) h in
    elim (cases_Bool (a.id == id)) [
      | inl y ↦ (let f = here s (ap (λ (c : Bool). cond c (with_shape u s) (part_at ns ss id)) (sym y) ∙ e) p.0 in (ap (λ (c : Bool). cond c (Some u) (shape_at ns id)) y ∙ f.0, f.1))
      | inr n ↦ (let f = part_typed ns ss id x p.1 (ap (λ (c : Bool). cond c (with_shape u s) (part_at ns ss id)) (sym n) ∙ e) in (ap (λ (c : Bool). cond c (Some u) (shape_at ns id)) n ∙ f.0, f.1))
    ]
  where
    whole : Val → Shape × Val
    whole w = (u, w)

    here : (s : Slot) → with_shape u s ≡ Some x → of_slot a.optional (λ w. has_type u w) s ≡ true → (Some u ≡ Some x.0) × (has_type x.0 x.1 ≡ true)
    here absent f g = absurd cc
    here (present w) f g = (ap (λ (z : Option (Shape × Val)). shape_of z) f, ap (λ (z : Option (Shape × Val)). typed_of z) (sym f) ∙ g)
      where
        shape_of : Option (Shape × Val) → Option Shape
        shape_of None = None
        shape_of (Some z) = Some z.0

        typed_of : Option (Shape × Val) → Bool
        typed_of None = true
        typed_of (Some z) = has_type z.0 z.1

-- each of the reader's members is typed by the writer's of its id
abbrev pub Pairs : Members → Members → Type 0
Pairs ms ns = (id : ℕ) (t u : Shape) (w : Val) → shape_at ms id ≡ Some t → shape_at ns id ≡ Some u → has_type u w ≡ true → ok t (projected t u w).0 ≡ true

from_option : (t : Shape) (y : Option (Shape × Val)) (b : Built) → ((x : Shape × Val) → y ≡ Some x → ok t (projected t x.0 x.1).0 ≡ true) → just_built (expected (Some t) y) ≡ Some b → ok t b ≡ true
from_option t None b f e = absurd cc
from_option t (Some x) b f e = (let z : (projected t x.0 x.1).0 ≡ b = cc in ap (ok t) (sym z) ∙ f x refl)

gathers : (ms whole ns : Members) (ss : Slots) → distinct_members ms ≡ true → have_types ns ss ≡ true → ((id : ℕ) (t : Shape) → shape_at ms id ≡ Some t → shape_at whole id ≡ Some t) → Pairs whole ns → Gathers ms (built_at (projected_members whole ns ss))
gathers no_members whole ns ss d h a p = tt
gathers (member m t ms) whole ns ss d h a p =
    let n = and_parts (not (has_member ms m.id)) (distinct_members ms) d in
    let here = a m.id t (ap (λ (c : Bool). cond c (Some t) (shape_at ms m.id)) (eq-eqb m.id m.id refl)) in (
      (λ b e. from_option t (part_at ns ss m.id) b (λ x f. let y = part_typed ns ss m.id x h f in p m.id t x.0 x.1 here y.0 y.1)
          (sym (ap (λ (z : Option Shape). just_built (expected z (part_at ns ss m.id))) here) ∙ sym (built_projected whole ns ss m.id) ∙ e)),
      gathers ms whole ns ss n.1 h (λ id u e. a id u (later_shape m t ms id u (not-true (has_member ms m.id) n.0) e)) p,
    )

pub whole_ok : (e : Ext) (ms ns : Members) (ss : Slots) → distinct_members ms ≡ true → member_defaults ms ≡ true → have_types ns ss ≡ true → Pairs ms ns → ok (structure e ms) (gather_members ms (built_at (projected_members ms ns ss))) ≡ true
whole_ok e ms ns ss d k h p = structure_ok e ms (built_at (projected_members ms ns ss)) k (gathers ms ms ns ss d h (λ id t z. z) p)

-- ---- leaves

pub number_ok : (t : Shape) (c : Bool) (i : ℤ) → (c ≡ true → has_type t (int i) ≡ true) → ok t (cond c (got (int i)) failed) ≡ true
number_ok t true i f = f refl
number_ok t false i f = refl

disc_ok : {t u : Shape} → Agree t u → (d : ℤ) → has_type u (int d) ≡ true → (v : Val) → disc_across t u d ≡ got v → has_type t (int d) ≡ true
unfolding has_type
disc_ok (same_prim p) d h v e = h
disc_ok (same_bits x x2 bits ls ls2) d h v e = by_test (is_literal ls d) e
  where
    by_test : (c : Bool) → cond c (got (int d)) failed ≡ got v → c ≡ true
    by_test true e = refl
    by_test false e = absurd cc
disc_ok (same_mask bits fs fs2) d h v e = h
disc_ok (both_str a b) d h v e = absurd cc
disc_ok (both_sequence a b ca cb t t2 g) d h v e = absurd cc
disc_ok (same_dims dims ca cb t t2 g) d h v e = absurd cc
disc_ok (both_map a b ca cb da db k k2 t t2 gk g) d h v e = absurd cc
disc_ok (both_final ms ms2 g) d h v e = absurd cc
disc_ok (both_appendable ms ms2 g) d h v e = absurd cc
disc_ok (both_mutable ms ms2 apart g) d h v e = absurd cc
disc_ok (final_union k k2 disc disc2 cs cs2 gd sides g) d h v e = absurd cc
disc_ok (appendable_union k k2 disc disc2 cs cs2 fill gd g) d h v e = absurd cc

pub text_ok : (a b : ℕ) (t : List ℕ) → is_text_within b t ≡ true → ok (str a) (gather_text a t) ≡ true
unfolding has_type
text_ok a b t h =
    let p = and_parts (all (λ c. nat_lt c 256) t) (not (has (λ c. c == 0) t)) (right (not (is_past b (length t))) (all (λ c. nat_lt c 256) t && not (has (λ c. c == 0) t)) h) in
    let typed : is_text_within a (kept a t) ≡ true = and_from (not (is_past a (length (kept a t)))) (all (λ c. nat_lt c 256) (kept a t) && not (has (λ c. c == 0) (kept a t))) (not_from_false _ (kept_within a t))
    (and_from (all (λ c. nat_lt c 256) (kept a t)) (not (has (λ c. c == 0) (kept a t))) (kept_ok (λ c. nat_lt c 256) a t p.0) (kept_clean t p.1)) in
    by_past (is_past a (length t)) typed
  where
    by_past : (c : Bool) → is_text_within a (kept a t) ≡ true → ok (str a) (within c (Some (text (kept a t)))) ≡ true
    by_past true h = h
    by_past false h = h

    clean : (n : ℕ) (t : List ℕ) → not (has (λ c. c == 0) t) ≡ true → not (has (λ c. c == 0) (take n t)) ≡ true
    clean zero t h = refl
    clean (suc n) [] h = refl
    clean (suc n) (c ∷ t) h =
        let q = or_parts (c == 0) (has (λ c. c == 0) t) (not-true _ h) in
        not_from_false _ (or_from (c == 0) (has (λ c. c == 0) (take n t)) q.0 (not-true _ (clean n t (not_from_false _ q.1))))

    kept_clean : (t : List ℕ) → not (has (λ c. c == 0) t) ≡ true → not (has (λ c. c == 0) (kept a t)) ≡ true
    kept_clean t h = by_test (a == 0)
      where
        by_test : (c : Bool) → not (has (λ c. c == 0) (cond c t (take a t))) ≡ true
        by_test true = h
        by_test false = clean a t h

pub each_ok : (t : Shape) (f : Val → Part) (p : Val → Bool) (xs : List Val) → all p xs ≡ true → ((w : Val) → p w ≡ true → ok t (f w).0 ≡ true) → all (ok t) (built_list (map f xs)) ≡ true
each_ok t f p [] h g = refl
each_ok t f p (x ∷ xs) h g = and_from (ok t (f x).0) (all (ok t) (built_list (map f xs))) (g x (left (p x) (all p xs) h)) (each_ok t f p xs (right (p x) (all p xs) h) g)

abbrev pair_built : Part × Part → Built × Built
pair_built x = (x.0.0, x.1.0)

pub each_ok2 : (k t : Shape) (f : Val × Val → Part × Part) (p : Val × Val → Bool) (xs : List (Val × Val)) → all p xs ≡ true → ((w : Val × Val) → p w ≡ true → ok2 k t (pair_built (f w)) ≡ true) → all (ok2 k t) (map pair_built (map f xs)) ≡ true
each_ok2 k t f p [] h g = refl
each_ok2 k t f p (x ∷ xs) h g = and_from (ok2 k t (pair_built (f x))) (all (ok2 k t) (map pair_built (map f xs))) (g x (left (p x) (all p xs) h)) (each_ok2 k t f p xs (right (p x) (all p xs) h) g)

pub length_parts : (f : Val → Part) (xs : List Val) → length (built_list (map f xs)) ≡ length xs
length_parts f xs = length-map (map f xs) (λ x. x.0) ∙ length-map xs f

-- a case that is selected on both sides
sides_ok : (cs : Cases) (a c : Option ℕ) (f : ℕ → ℕ → Body × Bool) → ((i j : ℕ) → a ≡ Some i → c ≡ Some j → body_ok cs (Some i) (f i j).0 ≡ true) → body_ok cs a (by_sides a c f).0 ≡ true
sides_ok cs None None f g = refl
sides_ok cs None (Some j) f g = refl
sides_ok cs (Some i) None f g = refl
sides_ok cs (Some i) (Some j) f g = g i j refl refl

body_typed : (cs : Cases) (o : Option ℕ) (j : ℕ) (b : Slot) → o ≡ Some j → of_body o (λ i w. case_type cs i w) b ≡ true → (w : Val) × (b ≡ present w) × (case_type cs j w ≡ true)
body_typed cs None j b e h = absurd cc
body_typed cs (Some i) j absent e h = absurd cc
body_typed cs (Some i) j (present w) e h = (let z : i ≡ j = cc in (w, refl, ap (λ (n : ℕ). case_type cs n w) (sym z) ∙ h))

case_typed : (cs : Cases) (j : ℕ) (w : Val) → case_type cs j w ≡ true → (u : Shape) × (case_at cs j ≡ Some u) × (has_type u w ≡ true)
unfolding case_type
case_typed no_cases j w h = absurd cc
case_typed (one_case a u cs) j w h = elim (cases_Bool (a.id == j)) [
  | inl y ↦ (u, ap (λ (c : Bool). cond c (Some u) (case_at cs j)) y, ap (λ (c : Bool). cond c (has_type u w) (case_type cs j w)) (sym y) ∙ h)
  | inr n ↦ (let x = case_typed cs j w (ap (λ (c : Bool). cond c (has_type u w) (case_type cs j w)) (sym n) ∙ h) in (x.0, ap (λ (c : Bool). cond c (Some u) (case_at cs j)) n ∙ x.1, x.2))
]

pub case_default : (cs : Cases) (i : ℕ) (t : Shape) → case_defaults cs ≡ true → case_at cs i ≡ Some t → (own_default t ≡ true) × (defaults_typed t ≡ true)
case_default no_cases i t k e = absurd cc
case_default (one_case h u cs) i t k e = elim (cases_Bool (h.id == i)) [
  | inl y ↦ (let f : Some u ≡ Some t = ap (λ (c : Bool). cond c (Some u) (case_at cs i)) (sym y) ∙ e in
      let z : u ≡ t = cc in let p = and_parts (own_default u) (defaults_typed u) (left (own_default u && defaults_typed u) (case_defaults cs) k) in (ap own_default (sym z) ∙ p.0, ap defaults_typed (sym z) ∙ p.1))
  | inr n ↦ case_default cs i t (right (own_default u && defaults_typed u) (case_defaults cs) k) (ap (λ (c : Bool). cond c (Some u) (case_at cs i)) (sym n) ∙ e)
]

pub member_default : (ms : Members) (id : ℕ) (t : Shape) → member_defaults ms ≡ true → shape_at ms id ≡ Some t → (own_default t ≡ true) × (defaults_typed t ≡ true)
member_default no_members id t k e = absurd cc
member_default (member h u ms) id t k e = elim (cases_Bool (h.id == id)) [
  | inl y ↦ (let f : Some u ≡ Some t = ap (λ (c : Bool). cond c (Some u) (shape_at ms id)) (sym y) ∙ e in
      let z : u ≡ t = cc in let p = and_parts (own_default u) (defaults_typed u) (left (own_default u && defaults_typed u) (member_defaults ms) k) in (ap own_default (sym z) ∙ p.0, ap defaults_typed (sym z) ∙ p.1))
  | inr n ↦ member_default ms id t (right (own_default u && defaults_typed u) (member_defaults ms) k) (ap (λ (c : Bool). cond c (Some u) (shape_at ms id)) (sym n) ∙ e)
]

-- the reader's case, by its id
named_case : (cs : Cases) (i : ℕ) (t u : Shape) (w : Val) → case_at cs i ≡ Some t → own_default t ≡ true → ok t (projected t u w).0 ≡ true → ((z : Val) → has_type t z ≡ true → case_type cs i z ≡ true) → (whole : Cases) → ((z : Val) → case_type cs i z ≡ true → case_type whole i z ≡ true) → body_ok whole (Some i) (projected_case cs i (Some u) (present w)).0 ≡ true
unfolding projected_case case_type
named_case no_cases i t u w e k h f whole g = absurd cc
named_case (one_case a x cs) i t u w e k h f whole g = elim (cases_Bool (a.id == i)) [
  | inl y ↦ (let z : Some x ≡ Some t = ap (λ (c : Bool). cond c (Some x) (case_at cs i)) (sym y) ∙ e in
      let one : t ≡ x = cc in
      ap (λ (c : Bool). body_ok whole (Some i) (cond c (settled_case a x (projected x u w)) (projected_case cs i (Some u) (present w))).0) y
      ∙ case_ok a.tc x (projected x u w).0 i whole (subst (λ (s : Shape). ok s (projected s u w).0 ≡ true) one h) (subst (λ (s : Shape). own_default s ≡ true) one k) (λ v q. g v (ap (λ (c : Bool). cond c (has_type x v) (case_type cs i v)) y ∙ q)))
  | inr n ↦ ap (λ (c : Bool). body_ok whole (Some i) (cond c (settled_case a x (projected x u w)) (projected_case cs i (Some u) (present w))).0) n
      ∙ named_case cs i t u w (ap (λ (c : Bool). cond c (Some x) (case_at cs i)) (sym n) ∙ e) k h (λ v q. sym (ap (λ (c : Bool). cond c (has_type x v) (case_type cs i v)) n) ∙ f v q) whole (λ v q. g v (ap (λ (c : Bool). cond c (has_type x v) (case_type cs i v)) n ∙ q))
]

of_case_at : (cs : Cases) (i : ℕ) (t : Shape) (z : Val) → case_at cs i ≡ Some t → has_type t z ≡ true → case_type cs i z ≡ true
unfolding case_type
of_case_at no_cases i t z e h = absurd cc
of_case_at (one_case a x cs) i t z e h = elim (cases_Bool (a.id == i)) [
  | inl y ↦ (let f : Some x ≡ Some t = ap (λ (c : Bool). cond c (Some x) (case_at cs i)) (sym y) ∙ e in
      let one : t ≡ x = cc in ap (λ (c : Bool). cond c (has_type x z) (case_type cs i z)) y ∙ subst (λ (s : Shape). has_type s z ≡ true) one h)
  | inr n ↦ ap (λ (c : Bool). cond c (has_type x z) (case_type cs i z)) n ∙ of_case_at cs i t z (ap (λ (c : Bool). cond c (Some x) (case_at cs i)) (sym n) ∙ e) h
]

abbrev pub CasePairs : Cases → Cases → Type 0
CasePairs cs cs2 = (d : ℤ) (i j : ℕ) (t u : Shape) (w : Val) → select cs d ≡ Some i → select cs2 d ≡ Some j → case_at cs i ≡ Some t → case_at cs2 j ≡ Some u → has_type u w ≡ true → ok t (projected t u w).0 ≡ true

pub union_typed : (e e2 : Ext) (k k2 : Bool) (disc disc2 : Shape) (cs cs2 : Cases) (v : Val) → Agree disc disc2 → case_defaults cs ≡ true → CasePairs cs cs2 → has_type (union e2 k2 disc2 cs2) v ≡ true → ok (union e k disc cs) (projected (union e k disc cs) (union e2 k2 disc2 cs2) v).0 ≡ true
unfolding has_type projected
union_typed e e2 k k2 disc disc2 cs cs2 v gd kd g h =
    let x = union_is v (λ d b. has_type disc2 (int d) && of_body (select cs2 d) (λ i w. case_type cs2 i w) b) h in
    let p = and_parts (has_type disc2 (int x.0)) (of_body (select cs2 x.0) (λ i w. case_type cs2 i w) x.1) x.3 in
    let f = λ (i j : ℕ). projected_case cs i (case_at cs2 j) x.1 in
    ap (λ (z : Val). ok (union e k disc cs) (projected (union e k disc cs) (union e2 k2 disc2 cs2) z).0) x.2
    ∙ union_ok e k disc cs (disc_across disc disc2 x.0) x.0 (by_sides (select cs x.0) (select cs2 x.0) f).0 (λ w z. disc_ok gd x.0 p.0 w z) (sides_ok cs (select cs x.0) (select cs2 x.0) f (λ i j a b.
    let c = body_typed cs2 (select cs2 x.0) j x.1 b p.1 in
    let u = case_typed cs2 j c.0 c.2 in
    let t = selected_case cs x.0 i a in
    let y = g x.0 i j t.0 u.0 c.0 a b t.1 u.1 u.2 in
    ap₂ (λ (m : Option Shape) (s : Slot). body_ok cs (Some i) (projected_case cs i m s).0) u.1 c.1
    ∙ named_case cs i t.0 u.0 c.0 t.1 (case_default cs i t.0 kd t.1).0 y (λ z q. of_case_at cs i t.0 z t.1 q) cs (λ z q. q)))
