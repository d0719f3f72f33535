-- A counted member at its place.
use Rattle.std.proofs.Common.{◌≡◌, ℕ, zero, suc, ◌+◌, ◌≤◌, ◌<◌, Bool, true, false, cond, not, ◌&&◌, ◌||◌, ◌==◌, List, [], ◌∷◌, length, get_or, drop, Option, Some, None, IfSome, refl, sym, ap, ap₂, ◌∙◌, inl, inr, arith}
use Rattle.std.proofs.lemmas.Bool.{cases_Bool, and_parts, or_parts, or_left, or_right, not-true, eqb-true, eq-eqb, both_ways}
use Rattle.xt_shapes.specs.Keyable.{counted, keyable, counted_keyable}
use Rattle.xt_shapes.specs.Select.{has_member}
use Rattle.xt_shapes.specs.Shape.{Head, Shape, Members, no_members, member}
use Rattle.xt_shapes.specs.Typing.{of_slot, has_type, have_types}
use Rattle.xt_shapes.specs.Vals.{Val, Slots, no_slots, one_slot, Slot, absent, present, first, others}
use Rattle.type_trees.specs.declared.types.Member as declared
use Rattle.type_trees.specs.declared.values.Slot as values
use Rattle.type_trees.specs.Bridge.{type_shape, members_shape, member_head}
use Rattle.type_trees.specs.View.{slots_val}
use Rattle.type_trees.proofs.Views.{member_tree_is}
use Rattle.xcdr_model.specs.KeyOctets.{key_type, key_types}
use Rattle.xcdr_model.specs.Keys.{key_part, key_parts, counts_id}
use Rattle.xcdr_model.specs.Premises.{sound, sound_members, distinct_members}
use Rattle.shape_laws.proofs.KeyAt.{part_of, key_at, needs, lookup_parts, rising_parts, not_counted}
use Rattle.shape_laws.proofs.KeySort.{lookup}
use Rattle.shape_laws.proofs.KeyTypes.{type_at, lookup_types, rising_types}
use Rattle.key_instances.specs.declared.octets.order.Counted.{Counted}
use Rattle.key_instances.specs.octets.Orders.{IsLeast, IsNext, member_in}
use Rattle.key_instances.proofs.OfOctets.From.{from, next_from, none_from}

-- ---- the program's members

pub member_is : (ms : List declared.Member) (i : ℕ) (m : declared.Member) → i < length ms → m ≡ get_or ms i m → member_in (members_shape ms) i ≡ Some (member_head m, type_shape m.ty)
member_is [] i m within is = absurd (omega (arith, within))
member_is (x ∷ ms) zero m within is = rw (member_tree_is x) (ap (λ (y : declared.Member). Some (member_head y, type_shape y.ty)) (sym is))
member_is (x ∷ ms) (suc i) m within is = rw (member_tree_is x) (member_is ms i m (omega (arith, within)) is)

pub member_within : (ms : List declared.Member) (i : ℕ) (x : Head × Shape) → member_in (members_shape ms) i ≡ Some x → i < length ms
member_within [] i x e = absurd cc
member_within (m ∷ ms) zero x e = omega arith
member_within (m ∷ ms) (suc i) x e = let rest : member_in (members_shape ms) i ≡ Some x = rw (member_tree_is m) at e in omega (arith, member_within ms i x rest)

pub next_within : (keyed : Bool) (ms : List declared.Member) (n : ℕ) (o : Option Counted) → IsNext keyed (members_shape ms) n o → IfSome o (λ c. c.at < length ms)
next_within keyed ms n None e = tt
next_within keyed ms n (Some c) e = member_within ms c.at (e.head, e.type) e.there

-- ---- a member among others

has_there : (ms : Members) (i : ℕ) (h : Head) (t : Shape) → member_in ms i ≡ Some (h, t) → has_member ms h.id ≡ true
has_there no_members i h t e = absurd cc
has_there (member g u ms) zero h t e = let same : (g, u) ≡ (h, t) = cc in or_left (g.id == h.id) (has_member ms h.id) (eq-eqb g.id h.id (ap (λ (x : Head × Shape). x.0.id) same))
has_there (member g u ms) (suc i) h t e = or_right (g.id == h.id) (has_member ms h.id) (has_there ms i h t e)

-- an earlier member has another id
apart : (g : Head) (ms : Members) (i : ℕ) (h : Head) (t : Shape) → not (has_member ms g.id) ≡ true → member_in ms i ≡ Some (h, t) → (g.id == h.id) ≡ false
apart g ms i h t d e = elim (cases_Bool (g.id == h.id)) [
  | inl y ↦ absurd (both_ways (has_member ms g.id) (not-true (has_member ms g.id) d) (ap (has_member ms) (eqb-true g.id h.id y) ∙ has_there ms i h t e))
  | inr m ↦ m
]

sound_there : (ms : Members) (i : ℕ) (h : Head) (t : Shape) → member_in ms i ≡ Some (h, t) → sound_members ms ≡ true → sound t ≡ true
sound_there no_members i h t e s = absurd cc
sound_there (member g u ms) zero h t e s = let same : (g, u) ≡ (h, t) = cc in ap (λ (x : Head × Shape). sound x.1) (sym same) ∙ (and_parts (sound u) (sound_members ms) s).0
sound_there (member g u ms) (suc i) h t e s = sound_there ms i h t e (and_parts (sound u) (sound_members ms) s).1

pub keyable_there : (keyed : Bool) (ms : Members) (i : ℕ) (h : Head) (t : Shape) → member_in ms i ≡ Some (h, t) → counted_keyable keyed ms ≡ true → counted keyed h ≡ true → (h.optional ≡ false) × (keyable t ≡ true)
keyable_there keyed no_members i h t e k c = absurd cc
keyable_there keyed (member g u ms) zero h t e k c =
    let same : (g, u) ≡ (h, t) = cc in
    let own = (and_parts (not (counted keyed g) || (not g.optional && keyable u)) (counted_keyable keyed ms) k).0 in
    needs (counted keyed h) h.optional (keyable t) (ap (λ (x : Head × Shape). not (counted keyed x.0) || (not x.0.optional && keyable x.1)) (sym same) ∙ own) c
keyable_there keyed (member g u ms) (suc i) h t e k c = keyable_there keyed ms i h t e (and_parts (not (counted keyed g) || (not g.optional && keyable u)) (counted_keyable keyed ms) k).1 c

-- ---- what stands at its id

abbrev pub slot_in : Slots → ℕ → Slot
slot_in ss zero = first ss
slot_in ss (suc i) = slot_in (others ss) i

-- a slot by its place in the program's list
pub none_in : (i : ℕ) → slot_in no_slots i ≡ absent
none_in zero = refl
none_in (suc i) = none_in i

pub slot_is : (ss : List values.Slot) (i : ℕ) → first (slots_val (drop i ss)) ≡ slot_in (slots_val ss) i
slot_is ss zero = refl
slot_is [] (suc i) = sym (none_in i)
slot_is (s ∷ ss) (suc i) = slot_is ss i

typed_there : (ms : Members) (ss : Slots) (i : ℕ) (h : Head) (t : Shape) → member_in ms i ≡ Some (h, t) → have_types ms ss ≡ true → of_slot h.optional (λ w. has_type t w) (slot_in ss i) ≡ true
unfolding have_types
typed_there no_members ss i h t e y = absurd cc
typed_there (member g u ms) no_slots i h t e y = absurd cc
typed_there (member g u ms) (one_slot s ss) zero h t e y =
    let same : (g, u) ≡ (h, t) = cc in
    ap (λ (x : Head × Shape). of_slot x.0.optional (λ w. has_type x.1 w) s) (sym same) ∙ (and_parts (of_slot g.optional (λ w. has_type u w) s) (have_types ms ss) y).0
typed_there (member g u ms) (one_slot s ss) (suc i) h t e y = typed_there ms ss i h t e (and_parts (of_slot g.optional (λ w. has_type u w) s) (have_types ms ss) y).1

present_in : (s : Slot) (o : Bool) (f : Val → Bool) → of_slot o f s ≡ true → o ≡ false → (w : Val) × (s ≡ present w) × (f w ≡ true)
present_in absent o f e n = absurd (both_ways o n e)
present_in (present w) o f e n = (w, refl, e)

-- a counted member is present, and its value has its type
pub present_there : (keyed : Bool) (ms : Members) (ss : Slots) (n : ℕ) (c : Counted) (h : Head) (t : Shape) → IsLeast keyed ms n c → member_in ms c.at ≡ Some (h, t) → counted_keyable keyed ms ≡ true → have_types ms ss ≡ true
    → (w : Val) × (slot_in ss c.at ≡ present w) × (has_type t w ≡ true)
present_there keyed ms ss n c h t l e k y =
    let same : (l.head, l.type) ≡ (h, t) = (let both : Some (l.head, l.type) ≡ Some (h, t) = sym l.there ∙ e in cc) in
    let is_counted = ap (λ (x : Head × Shape). counted keyed x.0) (sym same) ∙ l.is_counted in
    present_in (slot_in ss c.at) h.optional (λ w. has_type t w) (typed_there ms ss c.at h t e y) (keyable_there keyed ms c.at h t e k is_counted).0

type_there : (keyed : Bool) (ms : Members) (i : ℕ) (h : Head) (t : Shape) → member_in ms i ≡ Some (h, t) → distinct_members ms ≡ true → counted keyed h ≡ true → type_at keyed ms h.id ≡ Some (key_type t)
type_there keyed no_members i h t e d c = absurd cc
type_there keyed (member g u ms) zero h t e d c =
    let same : (g, u) ≡ (h, t) = cc in
    let here : type_at keyed (member h t ms) h.id ≡ Some (key_type t) = ap₂ (λ (a b : Bool). cond (a && b) (Some (key_type t)) (type_at keyed ms h.id)) c (eq-eqb h.id h.id refl) in
    ap (λ (x : Head × Shape). type_at keyed (member x.0 x.1 ms) h.id) same ∙ here
type_there keyed (member g u ms) (suc i) h t e d c =
    let p = and_parts (not (has_member ms g.id)) (distinct_members ms) d in
    ap (λ (b : Bool). cond (counted keyed g && b) (Some (key_type u)) (type_at keyed ms h.id)) (apart g ms i h t p.0 e) ∙ no_and (counted keyed g) (Some (key_type u)) (type_at keyed ms h.id) ∙ type_there keyed ms i h t e p.1 c
  where
    no_and : (b : Bool) (x y : Option Shape) → cond (b && false) x y ≡ y
    no_and true x y = refl
    no_and false x y = refl

no_type : (keyed : Bool) (ms : Members) (id : ℕ) → counts_id keyed ms id ≡ false → type_at keyed ms id ≡ None
no_type keyed no_members id e = refl
no_type keyed (member h t ms) id e =
    let p = or_parts (counted keyed h && (h.id == id)) (counts_id keyed ms id) e in
    ap (λ (b : Bool). cond b (Some (key_type t)) (type_at keyed ms id)) p.0 ∙ no_type keyed ms id p.1

value_there : (keyed : Bool) (ms : Members) (ss : Slots) (i : ℕ) (h : Head) (t : Shape) → member_in ms i ≡ Some (h, t) → distinct_members ms ≡ true → counted keyed h ≡ true → key_at keyed ms ss h.id ≡ part_of t (slot_in ss i)
value_there keyed no_members ss i h t e d c = absurd cc
value_there keyed (member g u ms) ss zero h t e d c =
    let same : (g, u) ≡ (h, t) = cc in
    let here : key_at keyed (member h t ms) ss h.id ≡ part_of t (first ss) = ap₂ (λ (a b : Bool). cond (a && b) (part_of t (first ss)) (key_at keyed ms (others ss) h.id)) c (eq-eqb h.id h.id refl) in
    ap (λ (x : Head × Shape). key_at keyed (member x.0 x.1 ms) ss h.id) same ∙ here
value_there keyed (member g u ms) ss (suc i) h t e d c =
    let p = and_parts (not (has_member ms g.id)) (distinct_members ms) d in
    ap (λ (b : Bool). cond (counted keyed g && b) (part_of u (first ss)) (key_at keyed ms (others ss) h.id)) (apart g ms i h t p.0 e) ∙ no_and (counted keyed g) (part_of u (first ss)) (key_at keyed ms (others ss) h.id) ∙ value_there keyed ms (others ss) i h t e p.1 c
  where
    no_and : (b : Bool) (x y : Option Val) → cond (b && false) x y ≡ y
    no_and true x y = refl
    no_and false x y = refl

-- ---- the next of the parts that are left

counted_there : (keyed : Bool) (ms : Members) (n : ℕ) (c : Counted) (h : Head) (t : Shape) → IsLeast keyed ms n c → member_in ms c.at ≡ Some (h, t) → counted keyed h ≡ true
counted_there keyed ms n c h t l e =
    let same : (l.head, l.type) ≡ (h, t) = (let both : Some (l.head, l.type) ≡ Some (h, t) = sym l.there ∙ e in cc) in
    ap (λ (x : Head × Shape). counted keyed x.0) (sym same) ∙ l.is_counted

pub next_type : (keyed : Bool) (ms : Members) (n : ℕ) (c : Counted) (t : Shape) (h : Head) → IsLeast keyed ms n c → member_in ms c.at ≡ Some (h, t) → distinct_members ms ≡ true
    → from n (key_types keyed ms) ≡ (c.id, key_type t) ∷ from (suc c.id) (key_types keyed ms)
next_type keyed ms n c t h l e d =
    let same : (l.head, l.type) ≡ (h, t) = (let both : Some (l.head, l.type) ≡ Some (h, t) = sym l.there ∙ e in cc) in
    let own : lookup (key_types keyed ms) c.id ≡ Some (key_type t) = ap (lookup (key_types keyed ms)) (sym l.id) ∙ lookup_types keyed ms d l.head.id ∙ type_there keyed ms c.at l.head l.type l.there d l.is_counted ∙ ap (λ (x : Head × Shape). Some (key_type x.1)) same in
    next_from (key_types keyed ms) n c.id (key_type t) (rising_types keyed ms d) own l.late (λ j late below. lookup_types keyed ms d j ∙ no_type keyed ms j (l.least j late below))

pub next_value : (keyed : Bool) (ms : Members) (ss : Slots) (n : ℕ) (c : Counted) (t : Shape) (h : Head) (w : Val) → IsLeast keyed ms n c → member_in ms c.at ≡ Some (h, t) → slot_in ss c.at ≡ present w → distinct_members ms ≡ true
    → from n (key_parts keyed ms ss) ≡ (c.id, key_part t w) ∷ from (suc c.id) (key_parts keyed ms ss)
next_value keyed ms ss n c t h w l e there d =
    let same : (l.head, l.type) ≡ (h, t) = (let both : Some (l.head, l.type) ≡ Some (h, t) = sym l.there ∙ e in cc) in
    let own : lookup (key_parts keyed ms ss) c.id ≡ Some (key_part t w) =
    ap (lookup (key_parts keyed ms ss)) (sym l.id) ∙ lookup_parts keyed ms ss d l.head.id ∙ value_there keyed ms ss c.at l.head l.type l.there d l.is_counted ∙ ap (λ (x : Head × Shape). part_of x.1 (slot_in ss c.at)) same ∙ ap (part_of t) there in
    next_from (key_parts keyed ms ss) n c.id (key_part t w) (rising_parts keyed ms ss d) own l.late (λ j late below. lookup_parts keyed ms ss d j ∙ not_counted keyed ms ss j (l.least j late below))

pub no_more_types : (keyed : Bool) (ms : Members) (n : ℕ) → ((id : ℕ) → n ≤ id → counts_id keyed ms id ≡ false) → distinct_members ms ≡ true → from n (key_types keyed ms) ≡ []
no_more_types keyed ms n none d = none_from (key_types keyed ms) n (λ j late. lookup_types keyed ms d j ∙ no_type keyed ms j (none j late))

pub no_more_values : (keyed : Bool) (ms : Members) (ss : Slots) (n : ℕ) → ((id : ℕ) → n ≤ id → counts_id keyed ms id ≡ false) → distinct_members ms ≡ true → from n (key_parts keyed ms ss) ≡ []
no_more_values keyed ms ss n none d = none_from (key_parts keyed ms ss) n (λ j late. lookup_parts keyed ms ss d j ∙ not_counted keyed ms ss j (none j late))

-- there are fewer behind it
fewer : {A : Type 0} (xs : List (ℕ × A)) (n id m : ℕ) (x : A) → from n xs ≡ (id, x) ∷ from (suc id) xs → m ≡ suc id → length (from m xs) < length (from n xs)
fewer xs n id m x e same = omega (arith, ap length e, ap (λ k. length (from k xs)) same)

-- what holds of the program's member that comes next
pub record Here (keyed : Bool) (ms : Members) (n : ℕ) (c : Counted) (t : Shape) : Type 0 where
  pub sound : sound t ≡ true
  pub keyable : keyable t ≡ true
  pub next : from n (key_types keyed ms) ≡ (c.id, key_type t) ∷ from (suc c.id) (key_types keyed ms)
  pub fewer : (m : ℕ) → m ≡ c.id → length (from (m + 1) (key_types keyed ms)) < length (from n (key_types keyed ms))

pub here : (keyed : Bool) (members : List declared.Member) (n : ℕ) (c : Counted) (m : declared.Member) → IsLeast keyed (members_shape members) n c → c.at < length members → m ≡ get_or members c.at m
    → distinct_members (members_shape members) ≡ true → sound_members (members_shape members) ≡ true → counted_keyable keyed (members_shape members) ≡ true → Here keyed (members_shape members) n c (type_shape m.ty)
here keyed members n c m l within same d s k =
    let ms = members_shape members in
    let t = type_shape m.ty in
    let is = member_is members c.at m within same in
    let next = next_type keyed ms n c t (member_head m) l is d in
    record {
      sound = sound_there ms c.at (member_head m) t is s;
      keyable = (keyable_there keyed ms c.at (member_head m) t is k (counted_there keyed ms n c (member_head m) t l is)).1;
      next = next;
      fewer = λ j e. fewer (key_types keyed ms) n c.id (j + 1) (key_type t) next (omega (arith, e));
    }
