-- What is gathered as parts come is what is gathered at the end.
use Rattle.std.proofs.Common.{◌≡◌, refl, sym, ap, ap₂, ◌∙◌, ℕ, zero, suc, ◌+◌, ◌-◌, ◌≤◌, Bool, true, false, cond, nat_lt, ◌==◌, ◌||◌, List, [], ◌∷◌, ◌++◌, length, take, Option, Some, None, map, append_assoc, append-nil, length-append, arith, inl, inr}
use Rattle.std.specs.Option.{option_map}
use Rattle.std.proofs.lemmas.Bool.{cases_Bool, ltb-true, ltb-false, lt-ltb, le-ltb}
use Rattle.std.proofs.lemmas.List.{length-map}
use Rattle.xt_shapes.specs.declared.leaves.Try.{Try}
use Rattle.xt_shapes.specs.Lists.{has}
use Rattle.xt_shapes.specs.Typing.{is_past}
use Rattle.xt_shapes.specs.Vals.{Val, listed, vals_of}
use Rattle.xcdr_model.specs.Projection.{Built, failed, Part, both, settled, all_some, kept, within, then_entries, whole_items, whole_entries}
use Rattle.try_construct.specs.Gathering.{Gathered, none_yet, has_room, one_more, and_part, and_parts}
use Rattle.try_construct.specs.Items.{items_then}
use Rattle.try_construct.specs.Entries.{entries_then, pair_up}

pub or_assoc : (a b c : Bool) → ((a || b) || c) ≡ (a || (b || c))
or_assoc true b c = refl
or_assoc false b c = refl

pub or_false : (a : Bool) → (a || false) ≡ a
or_false true = refl
or_false false = refl

abbrev state : {A : Type 0} → Option (List A) → Bool → Bool → Gathered A
state k p u = record { kept = k; past = p; unseen = u }

after_failed : {A P : Type 0} (bound : ℕ) (f : P → Option A) (u : P → Bool) (p w : Bool) (xs : List P) → and_parts bound f u (state None p w) xs ≡ state None p (w || has u xs)
after_failed bound f u p w [] = ap (state None p) (sym (or_false w))
after_failed bound f u p w (x ∷ xs) = after_failed bound f u p (w || u x) xs ∙ ap (state None p) (or_assoc w (u x) (has u xs))

after_full : {A P : Type 0} (bound : ℕ) (f : P → Option A) (u : P → Bool) (vs : List A) (w : Bool) (xs : List P) → has_room bound (length vs) ≡ false → and_parts bound f u (state (Some vs) true w) xs ≡ state (Some vs) true (w || has u xs)
after_full bound f u vs w [] full = ap (state (Some vs) true) (sym (or_false w))
after_full bound f u vs w (x ∷ xs) full =
    rw full (after_full bound f u vs (w || u x) xs full ∙ ap (state (Some vs) true) (or_assoc w (u x) (has u xs)))

-- ---- while there is room

-- the parts that are kept, behind i that were
abbrev later : {P : Type 0} → ℕ → ℕ → List P → List P
later bound i xs = cond (bound == 0) xs (take (bound - i) xs)

abbrev joined : {A : Type 0} → List A → Option (List A) → Option (List A)
joined vs ws = option_map (λ zs. vs ++ zs) ws

abbrev whole : {A : Type 0} → (Option (List A) → Option Val) → Gathered A → Part
whole k g = (within g.past (k g.kept), g.unseen)

no_room : (bound n : ℕ) → has_room bound n ≡ false → ((bound == 0) ≡ false) × (bound ≤ n)
no_room bound n e = elim (cases_Bool (bound == 0)) [
  | inl none ↦ (let z : true ≡ false = rw none at e in absurd cc)
  | inr some ↦ (some, (let ge : nat_lt n bound ≡ false = rw some at e in omega (arith, ltb-false n bound ge)))
]

room_first : {P : Type 0} (bound i : ℕ) (x : P) (xs : List P) → has_room bound i ≡ true → later bound i (x ∷ xs) ≡ x ∷ later bound (i + 1) xs
room_first bound i x xs e = elim (cases_Bool (bound == 0)) [
  | inl none ↦ rw none refl
  | inr some ↦ (
      let lt : nat_lt i bound ≡ true = rw some at e in
      let next : bound - i ≡ suc (bound - (i + 1)) = omega (arith, ltb-true i bound lt) in
      rw (some, next) refl)
]

room_after : (bound i : ℕ) → has_room bound i ≡ true → is_past bound (i + 1) ≡ false
room_after bound i e = elim (cases_Bool (bound == 0)) [
  | inl none ↦ rw none refl
  | inr some ↦ (
      let lt : nat_lt i bound ≡ true = rw some at e in
      rw some (le-ltb bound (i + 1) (omega (arith, ltb-true i bound lt))))
]

take_none : {P : Type 0} (n : ℕ) → take {A = P} n [] ≡ []
take_none zero = refl
take_none (suc n) = refl

later_none : {P : Type 0} (bound i : ℕ) → later {P = P} bound i [] ≡ []
later_none {P = P} bound i = elim (cases_Bool (bound == 0)) [ inl e ↦ rw e refl | inr e ↦ rw e (take_none {P = P} (bound - i)) ]

full_later : {P : Type 0} (bound i : ℕ) (xs : List P) → has_room bound i ≡ false → later bound i xs ≡ []
full_later bound i xs e =
    let (some, le) = no_room bound i e in
    let zero_left : bound - i ≡ 0 = omega (arith, le) in
    rw (some, zero_left) refl

full_past : (bound i n : ℕ) → has_room bound i ≡ false → is_past bound (i + suc n) ≡ true
full_past bound i n e =
    let (some, le) = no_room bound i e in
    rw some (lt-ltb bound (i + suc n) (omega (arith, le)))

none_within : (p : Bool) → within p None ≡ failed
none_within true = refl
none_within false = refl

-- the whole of what was gathered with room left, and of the parts behind it
abbrev Open : {A P : Type 0} → (Option (List A) → Option Val) → ℕ → (P → Option A) → (P → Bool) → List A → Bool → List P → Type 0
Open k bound f u vs w xs = whole k (and_parts bound f u (state (Some vs) false w) xs) ≡ (within (is_past bound (length vs + length xs)) (k (joined vs (all_some (map f (later bound (length vs) xs))))), w || has u xs)

open_end : {A P : Type 0} (k : Option (List A) → Option Val) (bound : ℕ) (f : P → Option A) (u : P → Bool) (vs : List A) (w : Bool) → is_past bound (length vs) ≡ false → Open k bound f u vs w []
open_end {P = P} k bound f u vs w room =
    let count : length vs + 0 ≡ length vs = omega arith in
    rw (count, room, later_none {P = P} bound (length vs), append-nil vs, or_false w) refl

step_room : {A : Type 0} (bound : ℕ) (vs : List A) (w : Bool) (o : Option A) (v : Bool) → has_room bound (length vs) ≡ true → and_part bound (state (Some vs) false w) o v ≡ state (one_more (Some vs) o) false (w || v)
step_room bound vs w o v room = rw room refl

step_full : {A : Type 0} (bound : ℕ) (vs : List A) (w : Bool) (o : Option A) (v : Bool) → has_room bound (length vs) ≡ false → and_part bound (state (Some vs) false w) o v ≡ state (Some vs) true (w || v)
step_full bound vs w o v full = rw full refl

abbrev paired : Built → Bool → Part
paired b u = (b, u)

lost_within : (k : Option Val) (p : Bool) → k ≡ None → within false k ≡ within p None
lost_within k p none = ap (within false) none ∙ sym (none_within p)

open_failed : {A P : Type 0} (k : Option (List A) → Option Val) (bound : ℕ) (f : P → Option A) (u : P → Bool) (vs : List A) (w : Bool) (x : P) (xs : List P) → k None ≡ None → has_room bound (length vs) ≡ true → f x ≡ None → Open k bound f u vs w (x ∷ xs)
open_failed {A = A} k bound f u vs w x xs none room lost =
    let first : and_part bound (state (Some vs) false w) (f x) (u x) ≡ state None false (w || u x) = step_room bound vs w (f x) (u x) room ∙ ap (λ (o : Option A). state (one_more (Some vs) o) false (w || u x)) lost in
    let rest : all_some (map f (later bound (length vs) (x ∷ xs))) ≡ None = ap (λ l. all_some (map f l)) (room_first bound (length vs) x xs room) ∙ ap (λ (o : Option A). both (λ y ys. y ∷ ys) o (all_some (map f (later bound (length vs + 1) xs)))) lost in
    let p = is_past bound (length vs + suc (length xs)) in
    ap (whole k) (ap (λ g. and_parts bound f u g xs) first ∙ after_failed bound f u false (w || u x) xs)
    ∙ ap₂ paired (lost_within (k None) p none ∙ ap (within p) (sym (ap (λ o. k (joined vs o)) rest ∙ none))) (or_assoc w (u x) (has u xs))

joined_one : {A : Type 0} (vs : List A) (v : A) (o : Option (List A)) → joined (vs ++ v ∷ []) o ≡ joined vs (both (λ y ys. y ∷ ys) (Some v) o)
joined_one vs v None = refl
joined_one vs v (Some ws) = ap (λ l. Some l) (append_assoc vs (v ∷ []) ws)

open_kept : {A P : Type 0} (k : Option (List A) → Option Val) (bound : ℕ) (f : P → Option A) (u : P → Bool) (vs : List A) (w : Bool) (x : P) (xs : List P) (v : A) → has_room bound (length vs) ≡ true → f x ≡ Some v → Open k bound f u (vs ++ v ∷ []) (w || u x) xs → Open k bound f u vs w (x ∷ xs)
open_kept {A = A} k bound f u vs w x xs v room here more =
    let count : length (vs ++ v ∷ []) ≡ length vs + 1 = length-append vs (v ∷ []) in
    let first : and_part bound (state (Some vs) false w) (f x) (u x) ≡ state (Some (vs ++ v ∷ [])) false (w || u x) = step_room bound vs w (f x) (u x) room ∙ ap (λ (o : Option A). state (one_more (Some vs) o) false (w || u x)) here in
    let past : is_past bound (length (vs ++ v ∷ []) + length xs) ≡ is_past bound (length vs + suc (length xs)) = ap (is_past bound) (omega (arith, count)) in
    let behind = all_some (map f (later bound (length vs + 1) xs)) in
    let parts : joined (vs ++ v ∷ []) (all_some (map f (later bound (length (vs ++ v ∷ [])) xs))) ≡ joined vs (all_some (map f (later bound (length vs) (x ∷ xs)))) =
    ap (λ (n : ℕ). joined (vs ++ v ∷ []) (all_some (map f (later bound n xs)))) count
    ∙ joined_one vs v behind
    ∙ ap (λ (o : Option A). joined vs (both (λ y ys. y ∷ ys) o behind)) (sym here)
    ∙ ap (λ l. joined vs (all_some (map f l))) (sym (room_first bound (length vs) x xs room)) in
    ap (λ g. whole k (and_parts bound f u g xs)) first ∙ more ∙ ap₂ paired (ap₂ (λ (p : Bool) (o : Option (List A)). within p (k o)) past parts) (or_assoc w (u x) (has u xs))

open_full : {A P : Type 0} (k : Option (List A) → Option Val) (bound : ℕ) (f : P → Option A) (u : P → Bool) (vs : List A) (w : Bool) (x : P) (xs : List P) → has_room bound (length vs) ≡ false → Open k bound f u vs w (x ∷ xs)
open_full {A = A} k bound f u vs w x xs full =
    let parts : joined vs (all_some (map f (later bound (length vs) (x ∷ xs)))) ≡ Some vs = ap (λ l. joined vs (all_some (map f l))) (full_later bound (length vs) (x ∷ xs) full) ∙ ap (λ l. Some l) (append-nil vs) in
    ap (whole k) (ap (λ g. and_parts bound f u g xs) (step_full bound vs w (f x) (u x) full) ∙ after_full bound f u vs (w || u x) xs full)
    ∙ ap₂ paired (ap₂ (λ (p : Bool) (o : Option (List A)). within p (k o)) (sym (full_past bound (length vs) (length xs) full)) (sym parts)) (or_assoc w (u x) (has u xs))

open_next : {A P : Type 0} (k : Option (List A) → Option Val) (bound : ℕ) (f : P → Option A) (u : P → Bool) (vs : List A) (w : Bool) (x : P) (xs : List P) → k None ≡ None
    → ((v : A) → has_room bound (length vs) ≡ true → Open k bound f u (vs ++ v ∷ []) (w || u x) xs) → (b : Bool) → has_room bound (length vs) ≡ b → (o : Option A) → f x ≡ o → Open k bound f u vs w (x ∷ xs)
open_next k bound f u vs w x xs none more false full o is = open_full k bound f u vs w x xs full
open_next k bound f u vs w x xs none more true room None is = open_failed k bound f u vs w x xs none room is
open_next k bound f u vs w x xs none more true room (Some v) is = open_kept k bound f u vs w x xs v room is (more v room)

opened : {A P : Type 0} (k : Option (List A) → Option Val) (bound : ℕ) (f : P → Option A) (u : P → Bool) (vs : List A) (w : Bool) (xs : List P) → k None ≡ None → is_past bound (length vs) ≡ false → Open k bound f u vs w xs
opened k bound f u vs w [] none room = open_end k bound f u vs w room
opened {A = A} k bound f u vs w (x ∷ xs) none room =
    open_next k bound f u vs w x xs none
    (λ (v : A) there. opened k bound f u (vs ++ v ∷ []) (w || u x) xs none (ap (is_past bound) (length-append vs (v ∷ [])) ∙ room_after bound (length vs) there))
    (has_room bound (length vs)) refl (f x) refl

-- ---- from the start

take_mapped : {A B : Type 0} (g : A → B) (n : ℕ) (xs : List A) → take n (map g xs) ≡ map g (take n xs)
take_mapped g zero xs = refl
take_mapped g (suc n) [] = refl
take_mapped g (suc n) (x ∷ xs) = ap (λ l. g x ∷ l) (take_mapped g n xs)

kept_mapped : {A B : Type 0} (g : A → B) (bound : ℕ) (xs : List A) → kept bound (map g xs) ≡ map g (kept bound xs)
kept_mapped g bound xs = by_test (bound == 0)
  where
    by_test : (b : Bool) → cond b (map g xs) (take bound (map g xs)) ≡ map g (cond b xs (take bound xs))
    by_test true = refl
    by_test false = take_mapped g bound xs

map_mapped : {A B C : Type 0} (g : A → B) (h : B → C) (xs : List A) → map h (map g xs) ≡ map (λ x. h (g x)) xs
map_mapped g h [] = refl
map_mapped g h (x ∷ xs) = ap (λ l. h (g x) ∷ l) (map_mapped g h xs)

settled_kept : {A B C : Type 0} (g : A → B) (h : B → C) (bound : ℕ) (xs : List A) → map (λ x. h (g x)) (kept bound xs) ≡ map h (kept bound (map g xs))
settled_kept g h bound xs = sym (map_mapped g h (kept bound xs)) ∙ ap (map h) (sym (kept_mapped g bound xs))

joined_first : {A : Type 0} (o : Option (List A)) → joined [] o ≡ o
joined_first None = refl
joined_first (Some vs) = refl

later_first : {P : Type 0} (bound : ℕ) (xs : List P) → later bound 0 xs ≡ kept bound xs
later_first bound xs = ap (λ (n : ℕ). cond (bound == 0) xs (take n xs)) (omega arith)

none_past : (bound : ℕ) → is_past bound 0 ≡ false
none_past bound = elim (cases_Bool (bound == 0)) [ inl e ↦ rw e refl | inr e ↦ rw e (le-ltb bound 0 (omega arith)) ]

from_none : {A P : Type 0} (k : Option (List A) → Option Val) (bound : ℕ) (f : P → Option A) (u : P → Bool) (xs : List P) → k None ≡ None
    → whole k (and_parts bound f u none_yet xs) ≡ (within (is_past bound (length xs)) (k (all_some (map f (kept bound xs)))), has u xs)
from_none k bound f u xs none =
    let count : 0 + length xs ≡ length xs = omega arith in
    let r = opened k bound f u [] false xs none (none_past bound) in
    rw (count, later_first bound xs, joined_first (all_some (map f (kept bound xs)))) at r

-- the items that come one after another make the collection of all of them
pub items_whole : (bound : ℕ) (tc : Try) (d : Val) (xs : List Part) → items_then bound tc d none_yet xs ≡ whole_items bound tc d xs
items_whole bound tc d xs =
    let first : Part → Built = λ x. x.0 in
    let settle : Built → Option Val = settled tc d (λ v. v) in
    from_none (option_map (λ vs. listed (vals_of vs))) bound (λ x. settle x.0) (λ x. x.1) xs refl
    ∙ ap₂ (λ (n : ℕ) (o : List (Option Val)). (within (is_past bound n) (option_map (λ vs. listed (vals_of vs)) (all_some o)), has (λ (x : Part). x.1) xs)) (sym (length-map xs first)) (settled_kept first settle bound xs)

-- and the entries the map of all of them
pub entries_whole : (bound : ℕ) (kc : Try) (kd : Val) (vc : Try) (vd : Val) (xs : List (Part × Part)) → entries_then bound kc kd vc vd none_yet xs ≡ whole_entries bound kc kd vc vd xs
entries_whole bound kc kd vc vd xs =
    let parts : Part × Part → Built × Built = λ x. (x.0.0, x.1.0) in
    let settle : Built × Built → Option (Val × Val) = λ x. pair_up (settled kc kd (λ v. v) x.0) (settled vc vd (λ v. v) x.1) in
    from_none then_entries bound (λ x. settle (x.0.0, x.1.0)) (λ x. x.0.1 || x.1.1) xs refl
    ∙ ap₂ (λ (n : ℕ) (o : List (Option (Val × Val))). (within (is_past bound n) (then_entries (all_some o)), has (λ (x : Part × Part). x.0.1 || x.1.1) xs)) (sym (length-map xs parts)) (settled_kept parts settle bound xs)
