-- Under its own type a value is projected to itself.
use Rattle.std.proofs.Common.{◌≡◌, ℕ, ℤ, Bool, true, false, cond, not, ◌||◌, ◌&&◌, List, [], ◌∷◌, ◌++◌, map, length, take, Option, Some, None, refl, sym, ap, ap₂, ◌∙◌, inl, inr, ◌==◌, nat_lt, ltb}
use Rattle.std.proofs.lemmas.Bool.{cases_Bool, eq-eqb, ne_eqb, or_parts, and_parts, and_from, not-true, or_from, or_left, or_right, ltb-false, both_ways, and_right, not_from_true}
use Rattle.std.proofs.lemmas.List.{take_all, length-map}
use Rattle.xt_shapes.specs.declared.leaves.Try.{Try}
use Rattle.xt_shapes.specs.Defaults.{default_of}
use Rattle.xt_shapes.specs.Kinds.{kind_code}
use Rattle.xt_shapes.specs.Lists.{has, all}
use Rattle.xt_shapes.specs.Select.{is_literal, select, has_member, is_must, case_at}
use Rattle.xt_shapes.specs.Shape.{Head, Shape, prim, str, enumeration, bitmask, sequence, array, map_of, structure, union, Members, no_members, member, Cases, no_cases, one_case, product}
use Rattle.xt_shapes.specs.Typing.{is_past, repeats, on_int, on_text, on_list, on_map, on_struct, on_union, is_text_within, of_slot, of_body, has_type, have_types, case_type}
use Rattle.xt_shapes.specs.Vals.{Val, int, text, listed, mapped, struct_of, union_of, Vals, no_vals, one_val, Pairs, no_pairs, one_pair, Slots, no_slots, one_slot, Slot, absent, present, vals_of, each_val, pairs_of, each_pair, number_in, octets_in, items_in, entries_in, slots_in, disc_in, body_in, first, others}
use Rattle.xcdr_model.specs.Premises.{sound, sound_members, sound_cases, some_member, distinct_members}
use Rattle.xcdr_model.specs.Projection.{Built, got, failed, Part, settled, all_some, both, kept, within, gather_text, gather_entries, slot_from, gather_slots, built_at, any_unseen, whole_structure, whole_items, whole_entries, whole_union, built_list, unseen_list, disc_built, disc_across, lacks_must, is_present, is_mutable, by_sides, of_case, settled_case, settled_body, projected, projected_members, projected_case}
use Rattle.xcdr_model.specs.Rules.{ids_within}
use Rattle.shape_laws.proofs.InOrder.{slot_part, projected_next}
use Rattle.shape_laws.proofs.Law.{pair_of, across_kind, same_prim_built}
use Rattle.shape_laws.proofs.Rules.{left, right}
use Rattle.std.specs.Option.{option_map}

-- ---- the kind of a value

pub int_is : (v : Val) (f : ℤ → Bool) → on_int v f ≡ true → (i : ℤ) × (v ≡ int i) × (f i ≡ true)
int_is (int i) f e = (i, refl, e)
int_is _ f e = absurd cc

pub text_is : (v : Val) (f : List ℕ → Bool) → on_text v f ≡ true → (t : List ℕ) × (v ≡ text t) × (f t ≡ true)
text_is (text t) f e = (t, refl, e)
text_is _ f e = absurd cc

pub list_is : (v : Val) (f : List Val → Bool) → on_list v f ≡ true → (vs : Vals) × (v ≡ listed vs) × (f (each_val vs) ≡ true)
list_is (listed vs) f e = (vs, refl, e)
list_is _ f e = absurd cc

pub map_is : (v : Val) (f : List (Val × Val) → Bool) → on_map v f ≡ true → (ps : Pairs) × (v ≡ mapped ps) × (f (each_pair ps) ≡ true)
map_is (mapped ps) f e = (ps, refl, e)
map_is _ f e = absurd cc

pub struct_is : (v : Val) (f : Slots → Bool) → on_struct v f ≡ true → (ss : Slots) × (v ≡ struct_of ss) × (f ss ≡ true)
struct_is (struct_of ss) f e = (ss, refl, e)
struct_is _ f e = absurd cc

pub union_is : (v : Val) (f : ℤ → Slot → Bool) → on_union v f ≡ true → (d : ℤ) × (s : Slot) × (v ≡ union_of d s) × (f d s ≡ true)
union_is (union_of d s) f e = (d, s, refl, e)
union_is _ f e = absurd cc

pub vals_back : (vs : Vals) → vals_of (each_val vs) ≡ vs
vals_back no_vals = refl
vals_back (one_val v vs) = ap (one_val v) (vals_back vs)

pub pairs_back : (ps : Pairs) → pairs_of (each_pair ps) ≡ ps
pairs_back no_pairs = refl
pairs_back (one_pair k v ps) = ap (one_pair k v) (pairs_back ps)

-- ---- collections

pub kept_all : {X : Type 0} (bound : ℕ) (xs : List X) → is_past bound (length xs) ≡ false → kept bound xs ≡ xs
kept_all bound xs e = elim (cases_Bool (bound == 0)) [
  | inl y ↦ ap (λ (c : Bool). cond c xs (take bound xs)) y
  | inr n ↦ (let f : ltb bound (length xs) ≡ false = ap (λ (c : Bool). not c && nat_lt bound (length xs)) (sym n) ∙ e in
      ap (λ (c : Bool). cond c xs (take bound xs)) n ∙ take_all bound xs (ltb-false bound (length xs) f))
]

abbrev pub own : Val → Part
own w = (got w, false)

own_builts : (xs : List Val) → built_list (map own xs) ≡ map got xs
own_builts [] = refl
own_builts (x ∷ xs) = ap (λ (r : List Built). got x ∷ r) (own_builts xs)

own_seen : (xs : List Val) → unseen_list (map own xs) ≡ false
own_seen [] = refl
own_seen (x ∷ xs) = own_seen xs

own_settled : (tc : Try) (d : Val) (xs : List Val) → all_some (map (settled tc d (λ v. v)) (map got xs)) ≡ Some xs
own_settled tc d [] = refl
own_settled tc d (x ∷ xs) = ap (both (λ y ys. y ∷ ys) (Some x)) (own_settled tc d xs)

pub own_items : (bound : ℕ) (tc : Try) (d : Val) (xs : List Val) → is_past bound (length xs) ≡ false → whole_items bound tc d (map own xs) ≡ (got (listed (vals_of xs)), false)
own_items bound tc d xs e =
    let len : length (map got xs) ≡ length xs = length-map xs got in
    let short : is_past bound (length (map got xs)) ≡ false = ap (is_past bound) len ∙ e in
    rw (own_builts xs, own_seen xs, short, kept_all bound (map got xs) short, own_settled tc d xs) refl

pub own_map : (f : Val → Part) (t : Val → Bool) (xs : List Val) → all t xs ≡ true → ((w : Val) → t w ≡ true → f w ≡ own w) → map f xs ≡ map own xs
own_map f t [] e r = refl
own_map f t (x ∷ xs) e r = ap₂ (λ (y : Part) (ys : List Part). y ∷ ys) (r x (left (t x) (all t xs) e)) (own_map f t xs (right (t x) (all t xs) e) r)

abbrev pub own2 : Val × Val → Part × Part
own2 e = (own e.0, own e.1)

pub own_map2 : (f : Val × Val → Part × Part) (t : Val × Val → Bool) (xs : List (Val × Val)) → all t xs ≡ true → ((w : Val × Val) → t w ≡ true → f w ≡ own2 w) → map f xs ≡ map own2 xs
own_map2 f t [] e r = refl
own_map2 f t (x ∷ xs) e r = ap₂ (λ (y : Part × Part) (ys : List (Part × Part)). y ∷ ys) (r x (left (t x) (all t xs) e)) (own_map2 f t xs (right (t x) (all t xs) e) r)

abbrev got2 : Val × Val → Built × Built
got2 e = (got e.0, got e.1)

abbrev pair_built : Built → Built → Built × Built
pair_built a b = (a, b)

own2_builts : (xs : List (Val × Val)) → map (λ (x : Part × Part). pair_built x.0.0 x.1.0) (map own2 xs) ≡ map got2 xs
own2_builts [] = refl
own2_builts (x ∷ xs) = ap (λ (r : List (Built × Built)). got2 x ∷ r) (own2_builts xs)

own2_seen : (xs : List (Val × Val)) → has (λ (x : Part × Part). x.0.1 || x.1.1) (map own2 xs) ≡ false
own2_seen [] = refl
own2_seen (x ∷ xs) = own2_seen xs

own2_settled : (kc : Try) (kd : Val) (vc : Try) (vd : Val) (xs : List (Val × Val)) → all_some (map (λ (x : Built × Built). both (λ k v. (k, v)) (settled kc kd (λ v. v) x.0) (settled vc vd (λ v. v) x.1)) (map got2 xs)) ≡ Some xs
own2_settled kc kd vc vd [] = refl
own2_settled kc kd vc vd (x ∷ xs) = ap (both (λ y ys. y ∷ ys) (Some x)) (own2_settled kc kd vc vd xs)

pub own_entries : (bound : ℕ) (kc : Try) (kd : Val) (vc : Try) (vd : Val) (xs : List (Val × Val)) → is_past bound (length xs) ≡ false → repeats xs ≡ false → whole_entries bound kc kd vc vd (map own2 xs) ≡ (got (mapped (pairs_of xs)), false)
own_entries bound kc kd vc vd xs e d =
    let len : length (map got2 xs) ≡ length xs = length-map xs got2 in
    let short : is_past bound (length (map got2 xs)) ≡ false = ap (is_past bound) len ∙ e in
    let builts : gather_entries bound kc kd vc vd (map got2 xs) ≡ got (mapped (pairs_of xs)) = rw (short, kept_all bound (map got2 xs) short, own2_settled kc kd vc vd xs, d) refl in
    ap₂ (λ (bs : List (Built × Built)) (u : Bool). (gather_entries bound kc kd vc vd bs, u)) (own2_builts xs) (own2_seen xs) ∙ ap (λ (z : Built). (z, false)) builts

-- ---- structures

abbrev typed_parts : Members → Slots → List (ℕ × Part)
typed_parts no_members ss = []
typed_parts (member h t ms) ss = slot_part h.id own (first ss) ++ typed_parts ms (others ss)

slot_own : (id : ℕ) (f : Val → Part) (g : Val → Bool) (opt : Bool) (s : Slot) → of_slot opt g s ≡ true → ((w : Val) → g w ≡ true → f w ≡ own w) → slot_part id f s ≡ slot_part id own s
slot_own id f g opt absent e r = refl
slot_own id f g opt (present w) e r = ap (λ (x : Part). (id, x) ∷ []) (r w e)

parts_other : (h : Head) (s : Slot) (ps : List (ℕ × Part)) (id : ℕ) → (h.id == id) ≡ false → built_at (slot_part h.id own s ++ ps) id ≡ built_at ps id
parts_other h absent ps id n = refl
parts_other h (present w) ps id n = ap (λ (c : Bool). cond c (Some (got w)) (built_at ps id)) n

none_built : (ms : Members) (ss : Slots) (id : ℕ) → has_member ms id ≡ false → built_at (typed_parts ms ss) id ≡ None
none_built no_members ss id e = refl
none_built (member h t ms) ss id e =
    let p = or_parts (h.id == id) (has_member ms id) e in
    parts_other h (first ss) (typed_parts ms (others ss)) id p.0 ∙ none_built ms (others ss) id p.1

same_gather : (ms : Members) (f g : ℕ → Option Built) → ((id : ℕ) → has_member ms id ≡ true → f id ≡ g id) → gather_slots ms f ≡ gather_slots ms g
same_gather no_members f g e = refl
same_gather (member h t ms) f g e = ap₂ (λ (x : Option Built) (y : Option Slots). both one_slot (slot_from h t x) y) (e h.id (or_left (h.id == h.id) (has_member ms h.id) (eq-eqb h.id h.id refl)))
    (same_gather ms f g (λ id m. e id (or_right (h.id == id) (has_member ms id) m)))

own_slot : (h : Head) (t : Shape) (g : Val → Bool) (s : Slot) (ps : List (ℕ × Part)) → of_slot h.optional g s ≡ true → built_at ps h.id ≡ None → slot_from h t (built_at (slot_part h.id own s ++ ps) h.id) ≡ Some s
own_slot h t g absent ps e n = ap (slot_from h t) n ∙ ap (λ (c : Bool). Some (cond c absent (present (default_of t)))) e
own_slot h t g (present w) ps e n = ap (λ (c : Bool). slot_from h t (cond c (Some (got w)) (built_at ps h.id))) (eq-eqb h.id h.id refl)

own_gather : (ms : Members) (ss : Slots) → distinct_members ms ≡ true → have_types ms ss ≡ true → gather_slots ms (built_at (typed_parts ms ss)) ≡ Some ss
unfolding have_types
own_gather no_members no_slots d e = refl
own_gather no_members (one_slot s ss) d e = absurd cc
own_gather (member h t ms) no_slots d e = absurd cc
own_gather (member h t ms) (one_slot s ss) d e =
    let p = and_parts (of_slot h.optional (λ w. has_type t w) s) (have_types ms ss) e in
    let apart : has_member ms h.id ≡ false = not-true (has_member ms h.id) (left (not (has_member ms h.id)) (distinct_members ms) d) in
    let rest = typed_parts ms ss in
    ap₂ (both one_slot) (own_slot h t (λ w. has_type t w) s rest p.0 (none_built ms ss h.id apart))
    (same_gather ms (built_at (slot_part h.id own s ++ rest)) (built_at rest) (λ id m. parts_other h s rest id (ne_eqb h.id id (λ z. both_ways (has_member ms id) (ap (has_member ms) (sym z) ∙ apart) m)))
    ∙ own_gather ms ss (right (not (has_member ms h.id)) (distinct_members ms) d) p.1)

own_unseen : (ms : Members) (ss : Slots) → any_unseen (typed_parts ms ss) ≡ false
own_unseen no_members ss = refl
own_unseen (member h t ms) ss = by_slot (first ss) (own_unseen ms (others ss))
  where
    by_slot : (s : Slot) → any_unseen (typed_parts ms (others ss)) ≡ false → any_unseen (slot_part h.id own s ++ typed_parts ms (others ss)) ≡ false
    by_slot absent e = e
    by_slot (present w) e = e

within_more : (ns : Members) (h : Head) (t : Shape) (ms : Members) → ids_within ns ms ≡ true → ids_within ns (member h t ms) ≡ true
within_more no_members h t ms e = refl
within_more (member k u ns) h t ms e = and_from ((h.id == k.id) || has_member ms k.id) (ids_within ns (member h t ms)) (or_right (h.id == k.id) (has_member ms k.id) (left (has_member ms k.id) (ids_within ns ms) e)) (within_more ns h t ms (right (has_member ms k.id) (ids_within ns ms) e))

within_self : (ms : Members) → ids_within ms ms ≡ true
within_self no_members = refl
within_self (member h t ms) = and_from ((h.id == h.id) || has_member ms h.id) (ids_within ms (member h t ms)) (or_left (h.id == h.id) (has_member ms h.id) (eq-eqb h.id h.id refl)) (within_more ms h t ms (within_self ms))

lacks_none : (ms ns : Members) (ss : Slots) → ids_within ns ms ≡ true → lacks_must ms ns ss ≡ false
lacks_none ms no_members ss e = refl
lacks_none ms (member h t ns) ss e =
    let p = and_parts (has_member ms h.id) (ids_within ns ms) e in
    or_from (is_present (first ss) && (is_must h && not (has_member ms h.id))) (lacks_must ms ns (others ss))
    (and_right (is_present (first ss)) (is_must h && not (has_member ms h.id)) (and_right (is_must h) (not (has_member ms h.id)) (not_from_true (has_member ms h.id) p.0))) (lacks_none ms ns (others ss) p.1)

-- ---- unions

pub disc_own : (t : Shape) (d : ℤ) → has_type t (int d) ≡ true → disc_built t d ≡ got (int d)
unfolding has_type
disc_own (enumeration e bits ls) d h = ap (λ (c : Bool). cond c (got (int d)) failed) h
disc_own _ d h = refl

self_body : (cs : Cases) → ((i : ℕ) (w : Val) → case_type cs i w ≡ true → projected_case cs i (case_at cs i) (present w) ≡ (settled_body (Some w), false)) → (i : Option ℕ) (b : Slot) (d : ℤ) → of_body i (λ j w. case_type cs j w) b ≡ true
    → whole_union (got (int d)) d (by_sides i i (λ k j. projected_case cs k (case_at cs j) b)) ≡ (got (union_of d b), false)
self_body cs r None absent d e = refl
self_body cs r None (present w) d e = absurd cc
self_body cs r (Some i) absent d e = absurd cc
self_body cs r (Some i) (present w) d e = ap (whole_union (got (int d)) d) (r i w e)

mutual
  unfolding has_type projected

  pub self : (t : Shape) → sound t ≡ true → (v : Val) → has_type t v ≡ true → projected t t v ≡ (got v, false)
  self (prim p) s v h = let x = int_is v _ h in sym (same_prim_built p v) ∙ ap (λ (z : Val). (got z, false)) (ap (λ (z : Val). int (number_in z)) x.1 ∙ sym x.1)
  self (str bound) s v h =
      let x = text_is v (is_text_within bound) h in
      let short : is_past bound (length x.0) ≡ false = not-true _ (left (not (is_past bound (length x.0))) (all (λ b. nat_lt b 256) x.0 && not (has (λ b. b == 0) x.0)) x.2) in
      let built : gather_text bound x.0 ≡ got (text x.0) = rw (short, kept_all bound x.0 short) refl in
      ap (λ (z : Val). (gather_text bound (octets_in z), false)) x.1 ∙ ap (λ (z : Built). (z, false)) built ∙ ap (λ (z : Val). (got z, false)) (sym x.1)
  self (enumeration e bits ls) s v h =
      let x = int_is v (is_literal ls) h in
      let known : is_literal ls (number_in v) ≡ true = ap (λ (z : Val). is_literal ls (number_in z)) x.1 ∙ x.2 in
      ap (λ (c : Bool). (cond c (got (int (number_in v))) failed, false)) known ∙ ap (λ (z : Val). (got z, false)) (ap (λ (z : Val). int (number_in z)) x.1 ∙ sym x.1)
  self (bitmask bits fs) s v h = let x = int_is v _ h in ap (λ (z : Val). (got z, false)) (ap (λ (z : Val). int (number_in z)) x.1 ∙ sym x.1)
  self (sequence bound tc t) s v h =
      let x = list_is v (λ xs. not (is_past bound (length xs)) && all (λ w. has_type t w) xs) h in
      let xs = each_val x.0 in
      let p = and_parts (not (is_past bound (length xs))) (all (λ w. has_type t w) xs) x.2 in
      ap (λ (z : Val). whole_items bound tc (default_of t) (map (λ w. projected t t w) (items_in z))) x.1
      ∙ ap (whole_items bound tc (default_of t)) (own_map (λ w. projected t t w) (λ w. has_type t w) xs p.1 (λ w e. self t s w e))
      ∙ own_items bound tc (default_of t) xs (not-true _ p.0) ∙ ap (λ (z : Vals). (got (listed z), false)) (vals_back x.0) ∙ ap (λ (z : Val). (got z, false)) (sym x.1)
  self (array dims tc t) s v h =
      let x = list_is v (λ xs. (length xs == product dims) && all (λ w. has_type t w) xs) h in
      let xs = each_val x.0 in
      let p = and_parts (length xs == product dims) (all (λ w. has_type t w) xs) x.2 in
      ap (λ (z : Val). whole_items 0 tc (default_of t) (map (λ w. projected t t w) (items_in z))) x.1
      ∙ ap (whole_items 0 tc (default_of t)) (own_map (λ w. projected t t w) (λ w. has_type t w) xs p.1 (λ w e. self t (right (nat_lt 0 (product dims)) (sound t) s) w e))
      ∙ own_items 0 tc (default_of t) xs refl ∙ ap (λ (z : Vals). (got (listed z), false)) (vals_back x.0) ∙ ap (λ (z : Val). (got z, false)) (sym x.1)
  self (map_of bound kc k vc t) s v h =
      let x = map_is v (λ xs. (not (is_past bound (length xs)) && not (repeats xs)) && all (λ e. has_type k e.0 && has_type t e.1) xs) h in
      let xs = each_pair x.0 in
      let p = and_parts (not (is_past bound (length xs)) && not (repeats xs)) (all (λ e. has_type k e.0 && has_type t e.1) xs) x.2 in
      let q = and_parts (not (is_past bound (length xs))) (not (repeats xs)) p.0 in
      ap (λ (z : Val). whole_entries bound kc (default_of k) vc (default_of t) (map (λ w. pair_of (projected k k w.0) (projected t t w.1)) (entries_in z))) x.1
      ∙ ap (whole_entries bound kc (default_of k) vc (default_of t)) (own_map2 (λ w. pair_of (projected k k w.0) (projected t t w.1)) (λ e. has_type k e.0 && has_type t e.1) xs p.1
      (λ w e. ap₂ pair_of (self k (left (sound k) (sound t) s) w.0 (left (has_type k w.0) (has_type t w.1) e)) (self t (right (sound k) (sound t) s) w.1 (right (has_type k w.0) (has_type t w.1) e))))
      ∙ own_entries bound kc (default_of k) vc (default_of t) xs (not-true _ q.0) (not-true _ q.1) ∙ ap (λ (z : Pairs). (got (mapped z), false)) (pairs_back x.0) ∙ ap (λ (z : Val). (got z, false)) (sym x.1)
  self (structure e ms) s v h =
      let x = struct_is v (λ ss. have_types ms ss) h in
      let a = right (some_member ms) (distinct_members ms && sound_members ms) s in
      let d = left (distinct_members ms) (sound_members ms) a in
      let parts = self_members ms d (right (distinct_members ms) (sound_members ms) a) x.0 x.2 in
      let none : (is_mutable e && lacks_must ms ms x.0) ≡ false = and_right (is_mutable e) (lacks_must ms ms x.0) (lacks_none ms ms x.0 (within_self ms)) in
      ap (λ (z : Val). whole_structure ms (projected_members ms ms (slots_in z)) (is_mutable e && lacks_must ms ms (slots_in z))) x.1
      ∙ ap₂ (whole_structure ms) parts none
      ∙ ap₂ (λ (z : Option Slots) (u : Bool). (within false (option_map struct_of z), u || false)) (own_gather ms x.0 d x.2) (own_unseen ms x.0)
      ∙ ap (λ (z : Val). (got z, false)) (sym x.1)
  self (union e key disc cs) s v h =
      let x = union_is v (λ d b. has_type disc (int d) && of_body (select cs d) (λ i w. case_type cs i w) b) h in
      let d = x.0 in
      let p = and_parts (has_type disc (int d)) (of_body (select cs d) (λ i w. case_type cs i w) x.1) x.3 in
      let c = right (sound disc) (sound_cases cs) (right (not (is_mutable e)) (sound disc && sound_cases cs) s) in
      let body = self_body cs (λ i w z. self_case cs c i w z) (select cs d) x.1 d p.1 in
      ap (λ (z : Val). whole_union (disc_across disc disc (disc_in z)) (disc_in z) (by_sides (select cs (disc_in z)) (select cs (disc_in z)) (λ i j. projected_case cs i (case_at cs j) (body_in z)))) x.2
      ∙ ap (λ (z : Built). whole_union z d (by_sides (select cs d) (select cs d) (λ i j. projected_case cs i (case_at cs j) x.1))) (sym (across_kind disc disc d (eq-eqb (kind_code disc) (kind_code disc) refl)) ∙ disc_own disc d p.0)
      ∙ body ∙ ap (λ (z : Val). (got z, false)) (sym x.2)

  self_members : (ms : Members) → distinct_members ms ≡ true → sound_members ms ≡ true → (ss : Slots) → have_types ms ss ≡ true → projected_members ms ms ss ≡ typed_parts ms ss
  self_members no_members d s ss e = refl
  self_members (member h t ms) d s no_slots e = absurd cc
  self_members (member h t ms) d s (one_slot b ss) e =
      let p = and_parts (of_slot h.optional (λ w. has_type t w) b) (have_types ms ss) e in
      projected_next h h t t ms ms (one_slot b ss) refl (not-true (has_member ms h.id) (left (not (has_member ms h.id)) (distinct_members ms) d))
      ∙ ap₂ (λ (x y : List (ℕ × Part)). x ++ y) (slot_own h.id (λ w. projected t t w) (λ w. has_type t w) h.optional b p.0 (λ w f. self t (left (sound t) (sound_members ms) s) w f))
      (self_members ms (right (not (has_member ms h.id)) (distinct_members ms) d) (right (sound t) (sound_members ms) s) ss p.1)

  self_case : (cs : Cases) → sound_cases cs ≡ true → (i : ℕ) (w : Val) → case_type cs i w ≡ true → projected_case cs i (case_at cs i) (present w) ≡ (settled_body (Some w), false)
  self_case no_cases s i w e = absurd cc
  self_case (one_case h t cs) s i w e = elim (cases_Bool (h.id == i)) [
    | inl y ↦ (let typed : has_type t w ≡ true = ap (λ (c : Bool). cond c (has_type t w) (case_type cs i w)) (sym y) ∙ e in
        ap (λ (c : Bool). cond c (of_case (λ x u. settled_case h t (projected t x u)) (cond c (Some t) (case_at cs i)) (present w)) (projected_case cs i (cond c (Some t) (case_at cs i)) (present w))) y
        ∙ ap (settled_case h t) (self t (left (sound t) (sound_cases cs) s) w typed))
    | inr n ↦ (let typed : case_type cs i w ≡ true = ap (λ (c : Bool). cond c (has_type t w) (case_type cs i w)) (sym n) ∙ e in
        ap (λ (c : Bool). cond c (of_case (λ x u. settled_case h t (projected t x u)) (cond c (Some t) (case_at cs i)) (present w)) (projected_case cs i (cond c (Some t) (case_at cs i)) (present w))) n
        ∙ self_case cs (right (sound t) (sound_cases cs) s) i w typed)
  ]
