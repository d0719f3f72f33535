-- The fixed spelling is a spelling.
use Rattle.std.proofs.Common.{◌≡◌, ℕ, zero, suc, ◌+◌, ◌-◌, ◌*◌, ◌^◌, ◌<◌, ◌≤◌, ℤ, pos, negsuc, Bool, true, false, not, ◌&&◌, List, [], ◌∷◌, ◌++◌, length, min, replicate, Option, Some, None, refl, sym, ap, subst, ◌∙◌, arith, inl, inr, nat_lt, nat_le, ◌==◌, pow-suc, pow_mono}
use Rattle.std.proofs.lemmas.Bool.{cases_Bool, and_parts, or_cases, eqb-true, ltb-true, leb-true, not-true}
use Rattle.std.specs.Ordering.{int_eq}
use Rattle.std.proofs.lemmas.Bool.Decides.{Decides-int_eq}
use Rattle.xt_shapes.specs.declared.leaves.Ext.TheVariants.{Final, Appendable, Mutable}
use Rattle.xt_shapes.specs.declared.leaves.Order.{Order}
use Rattle.xt_shapes.specs.declared.leaves.Primitive.{Primitive}
use Rattle.xt_shapes.specs.declared.leaves.Primitive.TheVariants.{Boolean}
use Rattle.xt_shapes.specs.Kinds.{is_number}
use Rattle.xt_shapes.specs.Lists.{has, all}
use Rattle.xt_shapes.specs.Select.{is_literal, select}
use Rattle.xt_shapes.specs.Shape.{Literal, Shape, prim, str, enumeration, bitmask, sequence, array, map_of, structure, union, Members, no_members, member, Cases, no_cases, one_case, product}
use Rattle.xt_shapes.specs.Sizes.{size, is_signed, enum_size, mask_size, half}
use Rattle.xt_shapes.specs.Typing.{in_range, is_below, of_prim, is_text_within, of_slot, of_body, has_type, have_types, case_type, is_past}
use Rattle.xt_shapes.specs.Vals.{Val, int, Slots, no_slots, one_slot, Slot, absent, present, number_in, octets_in, items_in, entries_in, slots_in, disc_in, body_in, each_val, each_pair}
use Rattle.xcdr_model.specs.FixedSpelling.{Fixed, number_fixed, then_fixed, headed_fixed, each_fixed, collection_fixed, counted_fixed, scalar_fixed, text_fixed, slot_fixed, if_selected_fixed, fixed, members_fixed, case_fixed, pieces_fixed}
use Rattle.xcdr_model.specs.Numbers.{octets, padding, raw}
use Rattle.xcdr_model.specs.Premises.{sound, sound_members, sound_cases, some_member, distinct_members, storable, members_storable, cases_storable}
use Rattle.xcdr_model.specs.Spelling.{IsNumber, Then, Headed, Each, Octets}
use Rattle.xcdr_model.specs.Xcdr2Reading.{is_primitive}
use Rattle.xcdr_model.specs.Xcdr2Spelling.{InRange, scalar, Scalar, Bounded, IsText, Collection, Counted, slot_of, if_selected, AnyOrder, writes, writes_pieces, writes_members, writes_case}
use Rattle.shape_laws.proofs.FixedPieces.{pieces_of, Laws, SlotLaw, all_pieces, distinct_pieces, sent_fixed, no_others_fixed}
use Rattle.shape_laws.proofs.Leaves.{enum_size_pos}
use Rattle.shape_laws.proofs.Nonempty.{nonempty, of_left}
use Rattle.shape_laws.proofs.Rules.{left, right, is_solid}
use Rattle.shape_laws.proofs.Self.{int_is, text_is, list_is, map_is, struct_is, union_is}
use Rattle.shape_laws.proofs.Steps.{length-octets}
use Rattle.std.proofs.lemmas.List.{length-append, length-replicate}

-- what f writes is spelled by P, where it is not too long to be counted
abbrev pub Spells : Fixed → (ℕ → List ℕ → Type 0) → Type 0
Spells f P = (p : ℕ) → length (f p) < 2 ^ 32 → P p (f p)

pub number_spells : (most : ℕ) (o : Order) (k n : ℕ) → n < 256 ^ k → (p : ℕ) → IsNumber most o k n p (number_fixed most o k n p)
unfolding number_fixed
number_spells most o k n lt p = record { pad = replicate (padding (min k most) p) 0; aligned = length-replicate (padding (min k most) p) 0; fits = lt; parts = refl }

pub length_number : (most : ℕ) (o : Order) (k n p : ℕ) → length (number_fixed most o k n p) ≡ padding (min k most) p + k
unfolding number_fixed
length_number most o k n p = omega (arith, length-append (replicate (padding (min k most) p) 0) (octets o k n), length-replicate {A = ℕ} (padding (min k most) p) 0, length-octets o k n)

pub length_then : (f g : Fixed) (p : ℕ) → length (then_fixed f g p) ≡ length (f p) + length (g (p + length (f p)))
unfolding then_fixed
length_then f g p = length-append (f p) (g (p + length (f p)))

pub then_spells : (f g : Fixed) (P Q : ℕ → List ℕ → Type 0) → Spells f P → Spells g Q → Spells (then_fixed f g) (Then P Q)
unfolding then_fixed
then_spells f g P Q a c p l =
    let len = length_then f g p in
    record { left = f p; right = g (p + length (f p)); parts = refl; one = a p (omega arith); two = c (p + length (f p)) (omega arith) }

headed_spells : (o : Order) (f : Fixed) (P : ℕ → List ℕ → Type 0) → Spells f P → Spells (headed_fixed o f) (Headed o P)
unfolding headed_fixed
headed_spells o f P a p l =
    let b = f (p + (padding 4 p + 4)) in
    let h = number_fixed 4 o 4 (length b) p in
    let len : length (h ++ b) ≡ length h + length b = length-append h b in
    let small : length b < 2 ^ 32 = omega arith in
    let place : p + (padding 4 p + 4) ≡ p + length h = ap (λ (n : ℕ). p + n) (sym (length_number 4 o 4 (length b) p)) in
    record { head = h; body = b; parts = refl; count = number_spells 4 o 4 (length b) (omega arith) p; inside = subst (λ (q : ℕ). P q b) place (a (p + (padding 4 p + 4)) small) }

collection_spells : (plain : Bool) (o : Order) (f : Fixed) (P : ℕ → List ℕ → Type 0) → Spells f P → Spells (collection_fixed plain o f) (Collection plain o P)
collection_spells true o f P a p l = a p l
collection_spells false o f P a p l = headed_spells o f P a p l

pub each_spells : {A : Type 0} (f : A → Fixed) (P : A → ℕ → List ℕ → Type 0) (t : A → Bool) (xs : List A) → all t xs ≡ true → ((x : A) → t x ≡ true → Spells (f x) (P x)) → Spells (each_fixed f xs) (Each P xs)
each_spells f P t [] e a p l = refl
each_spells f P t (x ∷ xs) e a p l = then_spells (f x) (each_fixed f xs) (P x) (Each P xs) (a x (left (t x) (all t xs) e)) (each_spells f P t xs (right (t x) (all t xs) e) a) p l

-- as many octets as there are items, at least
each_long : {A : Type 0} (P : A → ℕ → List ℕ → Type 0) (xs : List A) → ((x : A) (p : ℕ) (b : List ℕ) → P x p b → 0 < length b) → (p : ℕ) (b : List ℕ) → Each P xs p b → length xs ≤ length b
each_long P [] full p b h = omega arith
each_long P (x ∷ xs) full p b h = omega (arith, ap length h.parts ∙ length-append h.left h.right, full x p h.left h.one, each_long P xs full (p + length h.left) h.right h.two)

pub counted_spells : {A : Type 0} (o : Order) (f : A → Fixed) (P : A → ℕ → List ℕ → Type 0) (t : A → Bool) (xs : List A) → all t xs ≡ true → ((x : A) → t x ≡ true → Spells (f x) (P x)) → ((x : A) (p : ℕ) (b : List ℕ) → P x p b → 0 < length b) → Spells (counted_fixed o f xs) (Counted o P xs)
counted_spells o f P t xs e a full p l =
    let n = number_fixed 4 o 4 (length xs) in
    let len = length_then n (each_fixed f xs) p in
    let items = each_spells f P t xs e a (p + length (n p)) (omega arith) in
    let few : length xs < 256 ^ 4 = omega (arith, each_long P xs full (p + length (n p)) (each_fixed f xs (p + length (n p))) items) in
    then_spells n (each_fixed f xs) (IsNumber 4 o 4 (length xs)) (Each P xs) (λ q m. number_spells 4 o 4 (length xs) few q) (each_spells f P t xs e a) p l

-- ---- numbers and texts

power_pos : (k : ℕ) → 0 < 256 ^ k
power_pos zero = omega arith
power_pos (suc k) = omega (arith, pow-suc 256 k, power_pos k)

raw_fits : (k : ℕ) (signed : Bool) (i : ℤ) → 0 < k → in_range k signed i ≡ true → InRange k signed i × (raw k i < 256 ^ k)
unfolding raw
raw_fits k false (pos n) k-pos e = (ltb-true n (256 ^ k) e, ltb-true n (256 ^ k) e)
raw_fits (suc k) true (pos n) k-pos e =
    let h : n < half (suc k) = ltb-true n (half (suc k)) e in
    let same : suc k - 1 ≡ k = omega arith in
    let small : n < 128 * 256 ^ k = rw same at h in
    (h, omega (arith, pow-suc 256 k))
raw_fits zero true (pos n) k-pos e = absurd (omega arith)
raw_fits k false (negsuc m) k-pos e = absurd cc
raw_fits (suc k) true (negsuc m) k-pos e =
    let h : m < half (suc k) = ltb-true m (half (suc k)) e in
    let positive : 0 < 256 ^ suc k = power_pos (suc k) in
    (h, omega arith)
raw_fits zero true (negsuc m) k-pos e = absurd (omega arith)

signed_spells : (most : ℕ) (o : Order) (k : ℕ) (signed : Bool) (i : ℤ) → 0 < k → in_range k signed i ≡ true → Spells (number_fixed most o k (raw k i)) (Scalar most o k signed i)
signed_spells most o k signed i k-pos e p l = let r = raw_fits k signed i k-pos e in record { in_range = r.0; spelled = number_spells most o k (raw k i) r.1 p }

bounded_spells : (most : ℕ) (o : Order) (k limit : ℕ) (i : ℤ) → limit ≤ 256 ^ k → is_below limit i ≡ true → Spells (number_fixed most o k (raw k i)) (Bounded most o k limit i)
unfolding raw
bounded_spells most o k limit (pos n) le e p l = let lt = ltb-true n limit e in record { n = n; is = refl; below = lt; spelled = number_spells most o k n (omega arith) p }
bounded_spells most o k limit (negsuc n) le e p l = absurd cc

pub prim_spells : (most : ℕ) (o : Order) (t : Primitive) (i : ℤ) → of_prim t i ≡ true → Spells (number_fixed most o (size t) (raw (size t) i)) (scalar most o (prim t) i)
prim_spells most o Boolean i e p l = bounded_spells most o 1 2 i (omega arith) e p l
prim_spells most o t i e p l = signed_spells most o (size t) (is_signed t) i (omega arith) e p l

pub text_spells : (o : Order) (bound : ℕ) (t : List ℕ) → is_text_within bound t ≡ true → Spells (text_fixed o t) (IsText o t)
text_spells o bound t e p l =
    let n = number_fixed 4 o 4 (length t + 1) in
    let g = λ (q : ℕ). t ++ 0 ∷ [] in
    let len = length_then n g p in
    let tail : length (t ++ 0 ∷ []) ≡ length t + 1 = length-append t (0 ∷ []) in
    let clean = right (all (λ b. nat_lt b 256) t) (not (has (λ b. b == 0) t)) (right (not (is_past bound (length t))) (all (λ b. nat_lt b 256) t && not (has (λ b. b == 0) t)) e) in
    record { no_nul = not-true _ clean; spelled = then_spells n g (IsNumber 4 o 4 (length t + 1)) (Octets (t ++ 0 ∷ [])) (λ q m. number_spells 4 o 4 (length t + 1) (omega arith) q) (λ q m. refl) p l }

-- ---- slots

slot_spells : (opt : Bool) (o : Order) (f : Val → Fixed) (P : Val → ℕ → List ℕ → Type 0) (g : Val → Bool) (s : Slot) → of_slot opt g s ≡ true → ((w : Val) → g w ≡ true → Spells (f w) (P w)) → Spells (slot_fixed opt o f s) (slot_of opt o P s)
slot_spells false o f P g absent e a p l = absurd cc
slot_spells false o f P g (present w) e a p l = a w e p l
slot_spells true o f P g absent e a p l = number_spells 4 o 1 0 (omega arith) p
slot_spells true o f P g (present w) e a p l = then_spells (number_fixed 4 o 1 1) (f w) (IsNumber 4 o 1 1) (P w) (λ q m. number_spells 4 o 1 1 (omega arith) q) (a w e) p l

literal_in : (k : ℕ) (signed : Bool) (ls : List Literal) (i : ℤ) → all (λ l. in_range k signed l.value) ls ≡ true → is_literal ls i ≡ true → in_range k signed i ≡ true
literal_in k signed [] i a e = absurd cc
literal_in k signed (l ∷ ls) i a e = elim (or_cases (int_eq l.value i) (is_literal ls i) e) [
  | inl y ↦ ap (in_range k signed) (sym ((Decides-int_eq l.value i).0 y)) ∙ left (in_range k signed l.value) (all (λ l. in_range k signed l.value) ls) a
  | inr n ↦ literal_in k signed ls i (right (in_range k signed l.value) (all (λ l. in_range k signed l.value) ls) a) n
]

mask_fits : (bits : ℕ) → nat_le bits 64 ≡ true → 2 ^ bits ≤ 256 ^ mask_size bits
mask_fits bits e = elim (cases_Bool (nat_le bits 8)) [
  | inl a ↦ rw a (pow_mono {i = bits} {j = 8} (leb-true bits 8 a))
  | inr a ↦ elim (cases_Bool (nat_le bits 16)) [
    | inl b ↦ rw (a, b) (pow_mono {i = bits} {j = 16} (leb-true bits 16 b))
    | inr b ↦ elim (cases_Bool (nat_le bits 32)) [
      | inl c ↦ rw (a, b, c) (pow_mono {i = bits} {j = 32} (leb-true bits 32 c))
      | inr c ↦ rw (a, b, c) (pow_mono {i = bits} {j = 64} (leb-true bits 64 e))
    ]
  ]
]

abbrev union_spelled : Order → Shape → Cases → ℤ → Slot → ℕ → List ℕ → Type 0
union_spelled o disc cs d s = Then (scalar 4 o disc d) (if_selected (select cs d) (λ i. writes_case o cs i s))

abbrev union_fixed : Order → Shape → Cases → ℤ → Slot → Fixed
union_fixed o disc cs d s = then_fixed (scalar_fixed 4 o disc d) (if_selected_fixed (select cs d) (λ i. case_fixed o cs i s))

pub body_spells : (F : ℕ → Slot → Fixed) (W : ℕ → Slot → ℕ → List ℕ → Type 0) (T : ℕ → Val → Bool) (i : Option ℕ) (s : Slot) → of_body i T s ≡ true → ((j : ℕ) (w : Val) → T j w ≡ true → Spells (F j (present w)) (W j (present w))) → Spells (if_selected_fixed i (λ j. F j s)) (if_selected i (λ j. W j s))
body_spells F W T None absent e a p l = refl
body_spells F W T None (present w) e a p l = absurd cc
body_spells F W T (Some i) absent e a p l = absurd cc
body_spells F W T (Some i) (present w) e a p l = a i w e p l

pub scalar_spells : (most : ℕ) (o : Order) (t : Shape) (d : ℤ) → storable t ≡ true → is_number t ≡ true → has_type t (int d) ≡ true → Spells (scalar_fixed most o t d) (scalar most o t d)
unfolding has_type
scalar_spells most o (prim t) d s n h p l = prim_spells most o t d h p l
scalar_spells most o (enumeration e bits ls) d s n h p l = signed_spells most o (enum_size bits) (enum_size bits == 4) d (enum_size_pos bits) (literal_in (enum_size bits) (enum_size bits == 4) ls d s h) p l
scalar_spells most o (bitmask bits fs) d s n h p l = bounded_spells most o (mask_size bits) (2 ^ bits) d (mask_fits bits s) h p l
scalar_spells most o _ d s n h p l = absurd cc

union_spells : (o : Order) (disc : Shape) (cs : Cases) → (is_number disc && storable disc) ≡ true → (d : ℤ) (s : Slot) → ((j : ℕ) (w : Val) → case_type cs j w ≡ true → Spells (case_fixed o cs j (present w)) (writes_case o cs j (present w)))
    → (has_type disc (int d) && of_body (select cs d) (λ i w. case_type cs i w) s) ≡ true → Spells (union_fixed o disc cs d s) (union_spelled o disc cs d s)
union_spells o disc cs k d s a h p l =
    let q = and_parts (has_type disc (int d)) (of_body (select cs d) (λ i w. case_type cs i w) s) h in
    then_spells (scalar_fixed 4 o disc d) (if_selected_fixed (select cs d) (λ i. case_fixed o cs i s)) (scalar 4 o disc d) (if_selected (select cs d) (λ i. writes_case o cs i s))
    (scalar_spells 4 o disc d (right (is_number disc) (storable disc) k) (left (is_number disc) (storable disc) k) q.0) (body_spells (λ i b. case_fixed o cs i b) (λ i b. writes_case o cs i b) (λ i w. case_type cs i w) (select cs d) s q.1 a) p l

slot_law : (o : Order) (t : Shape) (opt : Bool) (s : Slot) → of_slot opt (λ w. has_type t w) s ≡ true → ((w : Val) → has_type t w ≡ true → Spells (fixed o t w) (writes o t w)) → SlotLaw o t s
slot_law o t opt absent e a = tt
slot_law o t opt (present w) e a = λ q l. a w e q l

mutual
  unfolding has_type writes fixed

  pub fixed_spells : (t : Shape) → sound t ≡ true → storable t ≡ true → (o : Order) (v : Val) → has_type t v ≡ true → Spells (fixed o t v) (writes o t v)
  fixed_spells (prim q) s k o v h p l =
      let x = int_is v _ h in
      prim_spells 4 o q (number_in v) (ap (λ (z : Val). of_prim q (number_in z)) x.1 ∙ x.2) p l
  fixed_spells (str bound) s k o v h p l =
      let x = text_is v _ h in
      text_spells o bound (octets_in v) (ap (λ (z : Val). is_text_within bound (octets_in z)) x.1 ∙ x.2) p l
  fixed_spells (enumeration e bits ls) s k o v h p l =
      let x = int_is v _ h in
      scalar_spells 4 o (enumeration e bits ls) (number_in v) k refl (ap (λ (z : Val). is_literal ls (number_in z)) x.1 ∙ x.2) p l
  fixed_spells (bitmask bits fs) s k o v h p l =
      let x = int_is v _ h in
      scalar_spells 4 o (bitmask bits fs) (number_in v) k refl (ap (λ (z : Val). is_below (2 ^ bits) (number_in z)) x.1 ∙ x.2) p l
  fixed_spells (sequence bound tc t) s k o v h p l =
      let x = list_is v _ h in
      let typed : all (λ w. has_type t w) (items_in v) ≡ true = ap (λ (z : Val). all (λ w. has_type t w) (items_in z)) x.1 ∙ right (not (is_past bound (length (each_val x.0)))) (all (λ w. has_type t w) (each_val x.0)) x.2 in
      collection_spells (is_primitive t) o (counted_fixed o (λ w. fixed o t w) (items_in v)) (Counted o (λ w. writes o t w) (items_in v))
      (counted_spells o (λ w. fixed o t w) (λ w. writes o t w) (λ w. has_type t w) (items_in v) typed (λ w e. fixed_spells t s k o w e) (λ w q b z. nonempty t (is_solid t s) o w q b z)) p l
  fixed_spells (array dims tc t) s k o v h p l =
      let x = list_is v _ h in
      let parts = and_parts (length (each_val x.0) == product dims) (all (λ w. has_type t w) (each_val x.0)) x.2 in
      let typed : all (λ w. has_type t w) (items_in v) ≡ true = ap (λ (z : Val). all (λ w. has_type t w) (items_in z)) x.1 ∙ parts.1 in (
        ap (λ (z : Val). length (items_in z)) x.1 ∙ eqb-true (length (each_val x.0)) (product dims) parts.0,
        collection_spells (is_primitive t) o (each_fixed (λ w. fixed o t w) (items_in v)) (Each (λ w. writes o t w) (items_in v))
            (each_spells (λ w. fixed o t w) (λ w. writes o t w) (λ w. has_type t w) (items_in v) typed (λ w e. fixed_spells t (right (nat_lt 0 (product dims)) (sound t) s) k o w e)) p l,
      )
  fixed_spells (map_of bound kc j vc t) s k o v h p l =
      let x = map_is v _ h in
      let test = λ (e : Val × Val). has_type j e.0 && has_type t e.1 in
      let typed : all test (entries_in v) ≡ true = ap (λ (z : Val). all test (entries_in z)) x.1 ∙ right _ (all test (each_pair x.0)) x.2 in
      let sj = left (sound j) (sound t) s in
      let st = right (sound j) (sound t) s in
      let f = λ (e : Val × Val). then_fixed (fixed o j e.0) (fixed o t e.1) in
      let P = λ (e : Val × Val). Then (writes o j e.0) (writes o t e.1) in
      collection_spells (is_primitive j && is_primitive t) o (counted_fixed o f (entries_in v)) (Counted o P (entries_in v))
      (counted_spells o f P test (entries_in v) typed
      (λ w e. then_spells (fixed o j w.0) (fixed o t w.1) (writes o j w.0) (writes o t w.1) (fixed_spells j sj (left (storable j) (storable t) k) o w.0 (left (has_type j w.0) (has_type t w.1) e)) (fixed_spells t st (right (storable j) (storable t) k) o w.1 (right (has_type j w.0) (has_type t w.1) e)))
      (λ w q b z. of_left (writes o j w.0) (writes o t w.1) q b z (nonempty j (is_solid j sj) o w.0 q z.left z.one))) p l
  fixed_spells (structure Final ms) s k o v h p l =
      let x = struct_is v _ h in
      let a = right (some_member ms) (distinct_members ms && sound_members ms) s in
      members_spell ms (right (distinct_members ms) (sound_members ms) a) k o (slots_in v) (ap (λ (z : Val). have_types ms (slots_in z)) x.1 ∙ x.2) p l
  fixed_spells (structure Appendable ms) s k o v h p l =
      let x = struct_is v _ h in
      let a = right (some_member ms) (distinct_members ms && sound_members ms) s in
      headed_spells o (members_fixed o ms (slots_in v)) (writes_members o ms (slots_in v)) (members_spell ms (right (distinct_members ms) (sound_members ms) a) k o (slots_in v) (ap (λ (z : Val). have_types ms (slots_in z)) x.1 ∙ x.2)) p l
  fixed_spells (structure Mutable ms) s k o v h p l =
      let x = struct_is v _ h in
      let ss = slots_in v in
      let a = right (some_member ms) (distinct_members ms && sound_members ms) s in
      let d = left (distinct_members ms) (sound_members ms) a in
      let laws = member_laws ms (right (distinct_members ms) (sound_members ms) a) k o ss (ap (λ (z : Val). have_types ms (slots_in z)) x.1 ∙ x.2) in
      headed_spells o (pieces_fixed o ms ss) (AnyOrder o ms ss (λ qs. writes_pieces o ms ss qs)) (λ q m. record {
        qs = pieces_of o ms ss q;
        spelled = all_pieces o ms ss q laws k m;
        distinct = distinct_pieces o ms ss q d;
        sent_each = sent_fixed o ms ss q (pieces_of o ms ss q) laws m d (λ id z. refl);
        no_others = no_others_fixed o ms ss q ms ss d (λ id z. refl);
      }) p l
  fixed_spells (union Final key disc cs) s k o v h p l =
      let x = union_is v _ h in
      let sc = right (sound disc) (sound_cases cs) s in
      let kc = right (is_number disc && storable disc) (cases_storable cs) k in
      union_spells o disc cs (left (is_number disc && storable disc) (cases_storable cs) k) (disc_in v) (body_in v) (λ j w e. case_spells cs sc kc o j w e) (ap (λ (z : Val). has_type disc (int (disc_in z)) && of_body (select cs (disc_in z)) (λ i w. case_type cs i w) (body_in z)) x.2 ∙ x.3) p l
  fixed_spells (union Appendable key disc cs) s k o v h p l =
      let x = union_is v _ h in
      let sc = right (sound disc) (sound_cases cs) s in
      let kc = right (is_number disc && storable disc) (cases_storable cs) k in
      headed_spells o (union_fixed o disc cs (disc_in v) (body_in v)) (union_spelled o disc cs (disc_in v) (body_in v))
      (union_spells o disc cs (left (is_number disc && storable disc) (cases_storable cs) k) (disc_in v) (body_in v) (λ j w e. case_spells cs sc kc o j w e) (ap (λ (z : Val). has_type disc (int (disc_in z)) && of_body (select cs (disc_in z)) (λ i w. case_type cs i w) (body_in z)) x.2 ∙ x.3)) p l
  fixed_spells (union Mutable key disc cs) s k o v h p l = absurd cc

  members_spell : (ms : Members) → sound_members ms ≡ true → members_storable ms ≡ true → (o : Order) (ss : Slots) → have_types ms ss ≡ true → Spells (members_fixed o ms ss) (writes_members o ms ss)
  members_spell no_members s k o ss h p l = refl
  members_spell (member a t ms) s k o no_slots h p l = absurd cc
  members_spell (member a t ms) s k o (one_slot b ss) h p l =
      let q = and_parts (of_slot a.optional (λ w. has_type t w) b) (have_types ms ss) h in
      let k2 = right (nat_lt a.id (2 ^ 28 - 1)) (storable t && members_storable ms) k in
      then_spells (slot_fixed a.optional o (λ w. fixed o t w) b) (members_fixed o ms ss) (slot_of a.optional o (λ w. writes o t w) b) (writes_members o ms ss)
      (slot_spells a.optional o (λ w. fixed o t w) (λ w. writes o t w) (λ w. has_type t w) b q.0 (λ w e. fixed_spells t (left (sound t) (sound_members ms) s) (left (storable t) (members_storable ms) k2) o w e))
      (members_spell ms (right (sound t) (sound_members ms) s) (right (storable t) (members_storable ms) k2) o ss q.1) p l

  member_laws : (ms : Members) → sound_members ms ≡ true → members_storable ms ≡ true → (o : Order) (ss : Slots) → have_types ms ss ≡ true → Laws o ms ss
  member_laws no_members s k o ss h = tt
  member_laws (member a t ms) s k o no_slots h = absurd cc
  member_laws (member a t ms) s k o (one_slot b ss) h =
      let q = and_parts (of_slot a.optional (λ w. has_type t w) b) (have_types ms ss) h in
      let k2 = right (nat_lt a.id (2 ^ 28 - 1)) (storable t && members_storable ms) k in (
        slot_law o t a.optional b q.0 (λ w e. fixed_spells t (left (sound t) (sound_members ms) s) (left (storable t) (members_storable ms) k2) o w e),
        member_laws ms (right (sound t) (sound_members ms) s) (right (storable t) (members_storable ms) k2) o ss q.1,
      )

  case_spells : (cs : Cases) → sound_cases cs ≡ true → cases_storable cs ≡ true → (o : Order) (i : ℕ) (w : Val) → case_type cs i w ≡ true → Spells (case_fixed o cs i (present w)) (writes_case o cs i (present w))
  case_spells no_cases s k o i w e p l = absurd cc
  case_spells (one_case a t cs) s k o i w e p l = elim (cases_Bool (a.id == i)) [
    | inl y ↦ rw y (fixed_spells t (left (sound t) (sound_cases cs) s) (left (storable t) (cases_storable cs) k) o w (rw y at e) p (rw y at l))
    | inr n ↦ rw n (case_spells cs (right (sound t) (sound_cases cs) s) (right (storable t) (cases_storable cs) k) o i w (rw n at e) p (rw n at l))
  ]
