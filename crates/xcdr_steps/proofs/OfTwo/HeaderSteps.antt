-- The headers of members, told their places.
use Rattle.std.proofs.Common.{◌≡◌, refl, sym, ap, ◌∙◌, ℕ, ◌+◌, ◌-◌, ◌/◌, ◌%◌, ◌^◌, ◌≤◌, ◌<◌, min, Bool, true, false, cond, ◌==◌, nat_lt, nat_le, List, length, take, drop, Option, Some, None, Result, Ok, Err, arith, subst, inl, inr, length-take}
use Rattle.std.specs.Prelude.{IfSome}
use Rattle.std.proofs.lemmas.List.{take-take}
use Rattle.std.proofs.lemmas.Bool.{cases_Bool, le-ltb, lt-ltb}
use Rattle.xt_shapes.specs.declared.leaves.Order.{Order}
use Rattle.xcdr_model.specs.declared.malformed.Fault.{Fault}
use Rattle.xcdr_model.specs.declared.malformed.Why.TheVariants.{Short}
use Rattle.xcdr_model.specs.Numbers.{number, padding}
use Rattle.xcdr_model.specs.Reading.{Spot, Reading, fault_at, ◌>>=◌, number_at, step}
use Rattle.xcdr_model.specs.Xcdr2Reading.{content_at, ends, holder}
use Rattle.xt_wire.specs.declared.cursor.reading.Placed.{Placed}
use Rattle.xt_wire.specs.declared.cursor.faults.DecodeFault.{DecodeFault}
use Rattle.xt_wire.specs.declared.cursor.faults.DecodeFault.TheVariants.{Malformed, ReadFault}
use Rattle.xt_wire.specs.declared.cursor.cursor.CutFault.{CutFault}
use Rattle.xt_wire.specs.declared.cursor.cursor.CutFault.TheVariants as cut
use Rattle.xt_wire.specs.cursor.Cuts.{cut_fault}
use Rattle.xt_wire.specs.cursor.Standing.{Standing, Stands, Stayed, Stopped, IsShort, room}
use Rattle.xt_wire.specs.cursor.Decoding.{Decodes, spot, after}
use Rattle.xt_wire.specs.cursor.Steps.{placed_at}
use Rattle.xt_wire.specs.cursor.Placing.{placed_view}
use Rattle.xt_wire.proofs.OfCursor.Ahead.{Ahead, begins, placed_bind, room_is, read_fault, malformed, rephrased}
use Rattle.xcdr_steps.specs.again.Peeking.{Peeked, Peeks, unheld}
use Rattle.xcdr_steps.proofs.OfAgain.Unheld.{settled}
use Rattle.xcdr_steps.specs.declared.reading.headings.Header.{Header}
use Rattle.xcdr_steps.specs.reading.Headings.{Told, header_view, ended, told}
use Rattle.xcdr_steps.specs.two.Headers.{counted_content, peeked_at, length_at, checked_header, header_at, next_at}

bind_bind : {A B C : Type 0} (r : Reading A) (f : A × Spot → Reading B) (h : B × Spot → Reading C) → ((r >>= f) >>= h) ≡ (r >>= λ x. f x >>= h)
unfolding ◌>>=◌
bind_bind (Ok x) f h = refl
bind_bind (Err e) f h = refl

bind_ok : {A : Type 0} (r : Reading A) → (r >>= λ x. Ok x) ≡ r
unfolding ◌>>=◌
bind_ok (Ok x) = refl
bind_ok (Err e) = refl

each_bind : {A B : Type 0} (r : Reading A) (f h : A × Spot → Reading B) → ((x : A × Spot) → r ≡ Ok x → f x ≡ h x) → (r >>= f) ≡ (r >>= h)
unfolding ◌>>=◌
each_bind (Ok x) f h same = same x refl
each_bind (Err e) f h same = refl

-- ---- after a number of four octets the place is aligned

aligned_after : (p : ℕ) → padding 4 (p + (padding 4 p + 4)) ≡ 0
unfolding padding
aligned_after p = omega arith

number_case : (t : Bool) (f : Fault) (n k : ℕ) (s : Spot) (x : ℕ × Spot) → cond t (Err f) (Ok (n, step k s)) ≡ Ok x → x.1.at ≡ s.at + k
unfolding step
number_case true f n k s x e = absurd cc
number_case false f n k s x e = (let p : (n, step k s) ≡ x = cc in ap (λ (y : ℕ × Spot). y.1.at) (sym p))

number_place : (o : Order) (s : Spot) (x : ℕ × Spot) → number_at 4 o 4 s ≡ Ok x → padding 4 x.1.at ≡ 0
unfolding number_at
number_place o s x e = ap (padding 4) (number_case (nat_lt (length s.rest) (padding 4 s.at + 4)) _ _ (padding 4 s.at + 4) s x e) ∙ aligned_after s.at

-- how a number is read behind that padding
abbrev padded : Order → ℕ → Spot → Reading ℕ
padded o pad s = cond (nat_lt (length s.rest) (pad + 4)) (fault_at (s.at + min pad (length s.rest)) Short) (Ok (number o (take 4 (drop pad s.rest)), step (pad + 4) s))

no_pad : (o : Order) (b : Bool) (s : Spot) → (cond {A = Reading ℕ} b (fault_at (s.at + min 0 (length s.rest)) Short) (Ok (number o (take 4 s.rest), step 4 s)) >>= λ n. Ok (n.0, s)) ≡ cond {A = Reading ℕ} b (fault_at s.at Short) (Ok (number o (take 4 s.rest), s))
unfolding ◌>>=◌
no_pad o true s = let none : min 0 (length s.rest) ≡ 0 = omega arith in ap (λ (k : ℕ). fault_at (s.at + k) Short) none ∙ ap (λ (k : ℕ). fault_at k Short) (omega arith)
no_pad o false s = refl

by_pad : (o : Order) (s : Spot) (pad : ℕ) → pad ≡ 0 → (padded o pad s >>= λ n. Ok (n.0, s)) ≡ peeked_at o s
by_pad o s pad z = rw z (no_pad o (nat_lt (length s.rest) 4) s)

-- a number where the place is aligned
number_here : (o : Order) (s : Spot) → padding 4 s.at ≡ 0 → (number_at 4 o 4 s >>= λ n. Ok (n.0, s)) ≡ peeked_at o s
unfolding number_at ◌>>=◌
number_here o s e = by_pad o s (padding 4 s.at) e

length_here : (o : Order) (code : ℕ) (s : Spot) → padding 4 s.at ≡ 0 → content_at o code s ≡ length_at code o s
unfolding ◌>>=◌
length_here o code s e = elim (cases_Bool (nat_lt code 4)) [
  | inl low ↦ rw low refl
  | inr high ↦ elim (cases_Bool (code == 4)) [
    | inl four ↦ rw (high, four) (bind_ok (number_at 4 o 4 s))
    | inr more ↦ rw (high, more) (sym (bind_bind (number_at 4 o 4 s) (λ n. Ok (n.0, s)) (λ n. Ok (counted_content code n.0, n.1))) ∙ ap (λ r. r >>= λ n. Ok (counted_content code n.0, n.1)) (number_here o s e))
  ]
]

-- ---- what is read behind the header's word

abbrev pub behind_word : ℕ × ℕ → Order → Spot → Reading Told
behind_word v o s = length_at (v.1 / 2 ^ 28 % 8) o s >>= λ n. checked_header v n.0 o n.1

abbrev by_content : ℕ × ℕ → Order → Spot → Reading Told
by_content v o s = content_at o (v.1 / 2 ^ 28 % 8) s >>= λ n. checked_header v n.0 o n.1

header_word : (o : Order) (s : Spot) → header_at o s ≡ (number_at 4 o 4 s >>= λ h. behind_word (holder 4 4 s, h.0) o h.1)
header_word o s = each_bind (number_at 4 o 4 s) (λ h. by_content (holder 4 4 s, h.0) o h.1) (λ h. behind_word (holder 4 4 s, h.0) o h.1)
    (λ h is. ap (λ r. r >>= λ n. checked_header (holder 4 4 s, h.0) n.0 o n.1) (length_here o (h.0 / 2 ^ 28 % 8) h.1 (number_place o s h is)))

pub header_starts : (a : Standing) → Ahead header_at (λ o s. placed_at 4 4 o s >>= λ n. behind_word n.0 o n.1) a a
header_starts a = begins header_at _ a (λ s. header_word a.order s ∙ placed_bind 4 4 a.order s (λ h. behind_word (holder 4 4 s, h.0) a.order h.1) behind_word (λ n. refl))

pub same_origin : (a b : Standing) (w : Placed) (n : ℕ) (r : Result Header DecodeFault) → b.origin ≡ a.origin → Decodes (header_view b) (checked_header (placed_view b w) n) b b r → Decodes (header_view a) (checked_header (placed_view a w) n) b b r
same_origin a b w n r e d = subst (λ (k : ℕ). Decodes {T = Header} (λ h. record { at = h.at - k; id = h.id; must = h.must; size = h.length }) (checked_header (w.at - k, w.number) n) b b r) e d

-- ---- lengths

pub length_short : (code : ℕ) (a : Standing) → code < 4 → Ahead (length_at code) (λ o s. Ok (2 ^ code, s)) a a
length_short code a low = begins (length_at code) (λ o s. Ok (2 ^ code, s)) a (λ s. rw (lt-ltb code 4 low) refl)

pub length_counted : (code : ℕ) (a : Standing) → 4 ≤ code → (code == 4) ≡ false → Ahead (length_at code) (λ o s. peeked_at o s >>= λ n. Ok (counted_content code n.0, n.1)) a a
length_counted code a high other = begins (length_at code) _ a (λ s. rw (le-ltb code 4 high, other) refl)

pub length_told : (code : ℕ) (a : Standing) → 4 ≤ code → (code == 4) ≡ true → (s : Spot) → length_at code a.order s ≡ number_at 4 a.order 4 s
length_told code a high four s = rw (le-ltb code 4 high, four) refl

-- ---- the next four octets

take_first : (n m : ℕ) (xs : List ℕ) → n ≤ m → take n (take m xs) ≡ take n xs
take_first n m xs le = take-take n m xs le

some_told : (octets : List ℕ) (o : Option (List ℕ)) (xs : List ℕ) → o ≡ Some xs → IfSome o (λ ys. octets ≡ take 4 ys) → octets ≡ take 4 xs
some_told octets None xs is g = absurd cc
some_told octets (Some ys) xs is g = g ∙ cc

same_spot : (a b : Standing) (xs : List ℕ) → Stayed a b → spot b (after a b xs) ≡ spot a xs
same_spot a b xs st =
    let none : b.place - a.place ≡ 0 = omega (arith, st.place) in
    rw (none, st.place, st.within.origin, st.within.region_end) refl

same_ahead : (a b : Standing) (xs : List ℕ) → Stayed a b → a.ahead ≡ Some xs → b.ahead ≡ Some (after a b xs)
same_ahead a b xs st e =
    let none : b.place - a.place ≡ 0 = omega (arith, st.place) in
    st.ahead ∙ e ∙ ap (λ (k : ℕ). Some (drop k xs)) (sym none)

pub stays : {A : Type 0} (f : Order → Spot → Reading A) {a b : Standing} → Stayed a b → Ahead f f a b
stays f {a} {b} st = record {
  within = st.within;
  later = omega (arith, st.place);
  inside = λ h. omega (arith, st.place);
  told = λ xs e. (same_ahead a b xs st e, ap (f a.order) (sym (same_spot a b xs st)));
}

pub peek_ok : {a b : Standing} (octets : List ℕ) (n : ℕ) → Stands a → Peeked a b octets → n ≡ number a.order octets → Decodes {T = ℕ} (λ n. n) peeked_at a (unheld a b) (Ok n)
peek_ok {a} {b} octets n st p is = record {
  within = p.stayed.within;
  later = omega (arith, p.stayed.place);
  inside = λ h. omega (arith, p.stayed.place);
  cause = tt;
  told = λ xs e.
      let long : nat_lt (length (take (room a) xs)) 4 ≡ false = le-ltb _ _ (omega (arith, room_is xs st e, p.fits)) in
      rw long (record { value = is ∙ ap (number a.order) (some_told octets a.ahead xs e p.told ∙ sym (take_first 4 (room a) xs p.fits)); ahead = same_ahead a (unheld a b) xs p.stayed e; spot = same_spot a (unheld a b) xs p.stayed });
}

pub peek_short : {a b : Standing} (said : ℕ) → Stands a → IsShort 4 a.place a b said → Decodes {T = ℕ} (λ n. n) peeked_at a b (Err (Malformed said Short))
peek_short {a} {b} said st p =
    let u = rephrased peeked_at (λ o s. fault_at s.at Short) (stays peeked_at p.stayed)
    (λ xs e. let few : nat_lt (length (take (room b) xs)) 4 ≡ true = lt-ltb _ _ (omega (arith, length-take (room b) xs, p.lacks, p.stayed.place, p.stayed.within.region_end)) in rw few refl) in
    malformed (λ n. n) (λ s. s.at) Short u (λ xs. omega (arith, p.at, p.stayed.place, p.stayed.within.origin, st.from_origin))

pub peek_fault : {a b : Standing} → Stands b → Stopped 4 a b → Decodes {T = ℕ} (λ n. n) peeked_at a b (Err ReadFault)
peek_fault {a} {b} st p = read_fault (λ n. n) (begins peeked_at peeked_at a (λ s. refl)) (record { along = p.within.along; later = p.later; inside = λ h. omega (arith, st.in_region, p.within.region_end); fault = refl; rose = p.rose })

-- ---- whether a header comes

pub ends_is : (a : Standing) (xs : List ℕ) → Stands a → a.ahead ≡ Some xs → ends (spot a xs) ≡ nat_le (room a) (padding 4 (a.place - a.origin))
ends_is a xs st e = ap (λ (n : ℕ). nat_le n (padding 4 (a.place - a.origin))) (room_is xs st e)

-- the cursor stayed where it is
moved_on : {A : Type 0} {f : Order → Spot → Reading A} (k : Order → Spot → Reading A) {a b : Standing} → Ahead f k a a → Stayed a b → Ahead f k a b
moved_on k {a} {b} u p = record {
  within = p.within;
  later = omega (arith, p.place);
  inside = λ h. omega (arith, p.place);
  told = λ xs e.
      let none : a.place - a.place ≡ 0 = omega arith in
      let (there, same) = u.told xs e in
      (same_ahead a b xs p e, same ∙ ap (λ (j : ℕ). k a.order (spot a (drop j xs))) none ∙ ap (k a.order) (sym (same_spot a b xs p)));
}

pub next_none : {a b : Standing} → Stands a → Stayed a b → true ≡ nat_le (room a) (padding 4 (a.place - a.origin)) → Ahead next_at (λ o s. Ok (ended, s)) a b
next_none {a} {b} st p is = moved_on (λ o s. Ok (ended, s)) (rephrased next_at (λ o s. Ok (ended, s)) (begins next_at next_at a (λ s. refl)) (λ xs e. rw (ends_is a xs st e, ← is) refl)) p

pub next_some : {a b : Standing} → Stands a → Stayed a b → false ≡ nat_le (room a) (padding 4 (a.place - a.origin)) → Ahead next_at (λ o s. header_at o s >>= λ h. Ok (told h.0, h.1)) a b
next_some {a} {b} st p is = moved_on (λ o s. header_at o s >>= λ h. Ok (told h.0, h.1)) (rephrased next_at (λ o s. header_at o s >>= λ h. Ok (told h.0, h.1)) (begins next_at next_at a (λ s. refl)) (λ xs e. rw (ends_is a xs st e, ← is) refl)) p

pub peek_err : {a b : Standing} (f : CutFault) → Stands a → Stands b → Peeks a b (Err f) → Decodes {T = ℕ} (λ n. n) peeked_at a (unheld a b) (Err (cut_fault f))
peek_err {a} {b} (cut.Short said) st st2 p = settled b.reach b (peek_short said st p)
peek_err {a} {b} cut.Fault st st2 p = settled b.reach b (peek_fault st2 p.1)
