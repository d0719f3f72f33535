-- What was read so far, and what is still to read.
use Rattle.std.proofs.Common.{◌≡◌, refl, sym, ap, ◌∙◌, ℕ, ◌+◌, ◌-◌, ◌≤◌, ◌<◌, min, Bool, true, false, List, length, take, drop, cond, nat_lt, Option, Some, None, Result, Ok, Err, arith, length-take, length-drop, inl, inr, add_assoc, nat_eq}
use Rattle.std.specs.Option.{option_map}
use Rattle.std.specs.Prelude.{IfSome}
use Rattle.std.proofs.lemmas.List.{drop-drop, drop-take, take-append-le, take-append-drop}
use Rattle.std.proofs.lemmas.Bool.{cases_Bool, le-ltb, lt-ltb, ltb-true, ltb-false, eq-eqb, ne_eqb, eqb-true, eqb-false}
use Rattle.xt_outside.specs.Outside.{Rose}
use Rattle.xt_shapes.specs.declared.leaves.Order.{Order}
use Rattle.xt_wire.specs.declared.cursor.cursor.Outer.{Outer}
use Rattle.xt_wire.specs.declared.cursor.cursor.CutFault.{CutFault}
use Rattle.xt_wire.specs.declared.cursor.cursor.CutFault.TheVariants as cut
use Rattle.xcdr_model.specs.declared.malformed.Why.{Why}
use Rattle.xcdr_model.specs.declared.malformed.Why.TheVariants as why
use Rattle.xt_wire.specs.declared.cursor.faults.DecodeFault.{DecodeFault}
use Rattle.xt_wire.specs.declared.cursor.faults.DecodeFault.TheVariants.{Malformed, ReadFault, OutOfMemory}
use Rattle.xcdr_model.specs.Numbers.{padding}
use Rattle.xcdr_model.specs.declared.malformed.Fault.{Fault}
use Rattle.xcdr_model.specs.Reading.{Spot, Reading, fault_at, ◌>>=◌, step, number_at, octets_at, front, passing, filling, dheader}
use Rattle.xt_wire.specs.cursor.Standing.{Standing, Stands, Along, Within, StaysInside, Moved, Entered, GoesOn, Gives, room}
use Rattle.xt_wire.specs.cursor.Decoding.{spot, after, Reads, IsFault, Answers, Decodes, Fails, Left}
use Rattle.xt_wire.specs.cursor.Steps.{going, align_at, pass_at, digits_at, placed_at, cut_result}

-- what was read, from an answer
pub reads_ok : {T A : Type 0} (view : T → A) (r : Reading A) (a b : Standing) (xs : List ℕ) (t : T) → Answers view a b xs r (Ok t) → (x : A × Spot) × Reads view a b xs x t × (r ≡ Ok x)
reads_ok view (Ok x) a b xs t d = (x, d, refl)
reads_ok view (Err f) a b xs t d = absurd d

reads_err : {T A : Type 0} (view : T → A) (r : Reading A) (a b : Standing) (xs : List ℕ) (p : ℕ) (w : Why) → Answers view a b xs r (Err (Malformed p w)) → (f : Fault) × IsFault a f p w × (r ≡ Err f)
reads_err view (Ok x) a b xs p w d = absurd d
reads_err view (Err f) a b xs p w d = (f, d, refl)

pub rose_more : {n m k : ℕ} → n ≤ m → Rose m k → Rose n k
rose_more le r = omega arith

-- ---- octets in a region

pub room_is : {a : Standing} (xs : List ℕ) → Stands a → a.ahead ≡ Some xs → length (take (room a) xs) ≡ room a
room_is {a} xs st e = omega (arith, length-take (room a) xs, st.told xs e, st.in_region, st.in_whole)

pub drop_of_take : (n m : ℕ) (xs : List ℕ) → n ≤ m → take (m - n) (drop n xs) ≡ drop n (take m xs)
drop_of_take n m xs le = sym (drop-take n (m - n) xs) ∙ ap (λ (k : ℕ). drop n (take k xs)) (omega arith)

-- ---- standings

pub along_trans : {a b c : Standing} → Along a b → Along b c → Along a c
along_trans p q = record { whole = q.whole ∙ p.whole; name = q.name ∙ p.name; faults = omega (arith, p.faults, q.faults) }

pub within_trans : {a b c : Standing} → Within a b → Within b c → b.place ≤ c.place → Within a c
within_trans p q later = record { along = along_trans p.along q.along; region_end = q.region_end ∙ p.region_end; origin = q.origin ∙ p.origin; order = q.order ∙ p.order; reach = omega (arith, p.reach, q.reach, later) }

-- in the region first, and then from there on
pub inside_trans : {a b : Standing} (c : Standing) → Within a b → StaysInside a b → StaysInside b c → StaysInside a c
inside_trans c w p q h = omega (arith, q (omega (arith, p h, w.region_end)), w.region_end)

-- in a region that was entered
pub inside_entered : {n : ℕ} {a b : Standing} {outer : Outer} (c : Standing) → Entered n a b outer → StaysInside b c → StaysInside a c
inside_entered c en q h = omega (arith, q (omega (arith, en.place, en.region_end)), en.place, en.region_end, en.fits)

pub within_refl : (a : Standing) → Within a a
within_refl a = record { along = record { whole = refl; name = refl; faults = omega arith }; region_end = refl; origin = refl; order = refl; reach = omega arith }

-- the octets ahead, n octets on
pub moved_ahead : {n : ℕ} {a b : Standing} (xs : List ℕ) → Moved n a b → a.ahead ≡ Some xs → b.ahead ≡ Some (after a b xs)
moved_ahead {n} {a} {b} xs m e =
    let k : b.place - a.place ≡ n = omega (arith, m.place) in
    m.ahead ∙ ap (option_map (drop n)) e ∙ ap (λ (j : ℕ). Some (drop j xs)) (sym k)

pub moved_spot : {n : ℕ} {a b : Standing} (xs : List ℕ) → Stands a → Moved n a b → spot b (after a b xs) ≡ step n (spot a xs)
unfolding step
moved_spot {n} {a} {b} xs st m =
    let k : b.place - a.place ≡ n = omega (arith, m.place) in
    let at : b.place - b.origin ≡ a.place - a.origin + n = omega (arith, m.place, m.within.origin, st.from_origin) in
    let left : room b ≡ room a - n = omega (arith, m.place, m.within.region_end) in
    rw (at, left, k, drop_of_take n (room a) xs m.fits) refl

-- ---- a cursor's own calls

pub decodes_going : {T A : Type 0} (view : T → A) (n : Spot → ℕ) (q : Spot → ℕ) (x : Spot → A) {m p : ℕ} {a b : Standing} {r : Result T CutFault} → Stands a → Stands b → GoesOn m p a b r
    → ((xs : List ℕ) → a.ahead ≡ Some xs → (n (spot a xs) ≡ m) × (p ≡ a.origin + q (spot a xs)))
    → ((t : T) (xs : List ℕ) → r ≡ Ok t → a.ahead ≡ Some xs → view t ≡ x (spot a xs))
    → Decodes view (λ o s. going (n s) (q s) (x s) s) a b (cut_result r)
decodes_going view n q x {m} {p} {a} {b} {r = Ok t} st st2 g here value = record {
  within = g.within;
  later = omega (arith, g.place);
  inside = λ h. omega (arith, g.place, g.fits);
  cause = tt;
  told = λ xs e.
      let (same, place) = here xs e in
      let long : nat_lt (length (take (room a) xs)) (n (spot a xs)) ≡ false = le-ltb _ _ (omega (arith, room_is xs st e, g.fits, same)) in
      rw (long, same) (record { value = value t xs refl e; ahead = moved_ahead xs g e; spot = moved_spot xs st g });
}
decodes_going view n q x {m} {p} {a} {b} {r = Err (cut.Short said)} st st2 g here value = record {
  within = g.stayed.within.along;
  later = omega (arith, g.stayed.place);
  inside = λ h. omega (arith, g.stayed.place);
  cause = tt;
  told = λ xs e.
      let (same, place) = here xs e in
      let short : nat_lt (length (take (room a) xs)) (n (spot a xs)) ≡ true = lt-ltb _ _ (omega (arith, room_is xs st e, g.lacks, same)) in
      rw short (record { at = g.at ∙ place; why = refl });
}
decodes_going view n q x {m} {p} {a} {b} {r = Err cut.Fault} st st2 g here value = record {
  within = g.1.within.along;
  later = g.1.later;
  inside = λ h. omega (arith, st2.in_region, g.1.within.region_end);
  cause = g.1.rose;
  told = λ xs e.
      let (same, place) = here xs e in
      let long : nat_lt (length (take (room a) xs)) (n (spot a xs)) ≡ false = le-ltb _ _ (omega (arith, room_is xs st e, g.0, same)) in
      rw long tt;
}

pub decodes_align : {T : Type 0} (view : T → Unit {0}) (m : ℕ) (a b : Standing) (r : Result T CutFault) → Stands a → Stands b → GoesOn (padding m (a.place - a.origin)) a.region_end a b r → Decodes view (align_at m) a b (cut_result r)
decodes_align view m a b r st st2 g = decodes_going view (λ s. padding m s.at) (λ s. s.at + length s.rest) (λ s. tt) st st2 g
    (λ xs e. (refl, omega (arith, room_is xs st e, st.in_region, st.from_origin)))
    (λ t xs is e. refl)

pub decodes_pass : {T : Type 0} (view : T → Unit {0}) (n : ℕ) (a b : Standing) (r : Result T CutFault) → Stands a → Stands b → GoesOn n a.place a b r → Decodes view (pass_at n) a b (cut_result r)
decodes_pass view n a b r st st2 g = decodes_going view (λ s. n) (λ s. s.at) (λ s. tt) st st2 g
    (λ xs e. (refl, omega (arith, st.from_origin)))
    (λ t xs is e. refl)

pub take_of_take : (n m : ℕ) (xs : List ℕ) → n ≤ m → m ≤ length xs → take n (take m xs) ≡ take n xs
take_of_take n m xs le within =
    let inside : n ≤ length (take m xs) = omega (arith, length-take m xs) in
    sym (take-append-le n (take m xs) (drop m xs) inside) ∙ ap (take n) (take-append-drop m xs)

some_told : (octets : List ℕ) (o : Option (List ℕ)) (xs : List ℕ) → o ≡ Some xs → IfSome o (λ ys. octets ≡ take (length octets) ys) → octets ≡ take (length octets) xs
some_told octets None xs is g = absurd cc
some_told octets (Some ys) xs is g = g ∙ cc

fits_of : {T : Type 0} (n p : ℕ) (a b : Standing) {r : Result T CutFault} (t : T) → r ≡ Ok t → GoesOn n p a b r → n ≤ room a
fits_of n p a b {r = Ok u} t e g = g.fits
fits_of n p a b {r = Err f} t e g = absurd cc

given : {T : Type 0} (octets : List ℕ) (a : Standing) {r : Result T CutFault} (t : T) (xs : List ℕ) → r ≡ Ok t → a.ahead ≡ Some xs → Gives a octets r → octets ≡ take (length octets) xs
given octets a {r = Ok u} t xs e is g = some_told octets a.ahead xs is g
given octets a {r = Err f} t xs e is g = absurd cc

pub decodes_octets : {T : Type 0} (octets : List ℕ) (a b : Standing) (r : Result T CutFault) → Stands a → Stands b → GoesOn (length octets) a.place a b r → Gives a octets r → Decodes {T = T} (λ t. octets) (λ o s. octets_at (length octets) s) a b (cut_result r)
unfolding octets_at
decodes_octets {T} octets a b r st st2 g gives = decodes_going (λ t. octets) (λ s. length octets) (λ s. s.at) (λ s. take (length octets) s.rest) st st2 g
    (λ xs e. (refl, omega (arith, st.from_origin)))
    (λ t xs is e. given octets a t xs is e gives ∙ sym (take_of_take (length octets) (room a) xs (fits_of (length octets) a.place a b t is g) (omega (arith, st.told xs e, st.in_region, st.in_whole))))

-- ---- one after the other

-- From a on the cursor came to b; what f reads from a is what k reads from b.
pub record Ahead {A : Type 0} (f k : Order → Spot → Reading A) (a b : Standing) : Type 0 where
  pub within : Within a b
  pub later : a.place ≤ b.place
  pub inside : StaysInside a b
  pub told : (xs : List ℕ) → a.ahead ≡ Some xs → (b.ahead ≡ Some (after a b xs)) × (f a.order (spot a xs) ≡ k a.order (spot b (after a b xs)))

pub begins : {A : Type 0} (f k : Order → Spot → Reading A) (a : Standing) → ((s : Spot) → f a.order s ≡ k a.order s) → Ahead f k a a
begins f k a same = record {
  within = within_refl a;
  later = omega arith;
  inside = λ h. h;
  told = λ xs e.
      let none : a.place - a.place ≡ 0 = omega arith in
      (e ∙ ap (λ (j : ℕ). Some (drop j xs)) (sym none), same (spot a xs) ∙ ap (λ (j : ℕ). k a.order (spot a (drop j xs))) (sym none));
}

after_after : (a b c : Standing) (xs : List ℕ) → a.place ≤ b.place → b.place ≤ c.place → after b c (after a b xs) ≡ after a c xs
after_after a b c xs p q = drop-drop (c.place - b.place) (b.place - a.place) xs ∙ ap (λ (j : ℕ). drop j xs) (omega arith)

-- a part was read
pub goes_on : {T A B : Type 0} {f : Order → Spot → Reading B} (view : T → A) (h : Order → Spot → Reading A) (k : A → Order → Spot → Reading B) {a b c : Standing} {t : T}
    → Ahead f (λ o s. h o s >>= λ x. k x.0 o x.1) a b → Decodes view h b c (Ok t) → Ahead f (k (view t)) a c
unfolding ◌>>=◌
goes_on {f = f} view h k {a} {b} {c} {t} u d = record {
  within = within_trans u.within d.within d.later;
  later = omega (arith, u.later, d.later);
  inside = inside_trans c u.within u.inside d.inside;
  told = λ xs e.
      let (there, same) = u.told xs e in
      let read = d.told (after a b xs) there in
      let one = reads_ok view (h b.order (spot b (after a b xs))) b c (after a b xs) t read in (
        one.1.ahead ∙ ap (λ (l : List ℕ). Some l) (after_after a b c xs u.later d.later),
        same ∙ rw (← u.within.order, one.2) (ap (λ v. k v b.order one.0.1) (sym one.1.value) ∙ ap (k (view t) b.order) (sym one.1.spot ∙ ap (spot c) (after_after a b c xs u.later d.later))),
      );
}

-- a part was not read
pub fails : {T S A B : Type 0} {f : Order → Spot → Reading B} (view : T → A) (wanted : S → B) (h : Order → Spot → Reading A) (k : A → Order → Spot → Reading B) {a b c : Standing} {d : DecodeFault}
    → Ahead f (λ o s. h o s >>= λ x. k x.0 o x.1) a b → Decodes view h b c (Err d) → Decodes wanted f a c (Err d)
unfolding ◌>>=◌
fails {f = f} view wanted h k {a} {b} {c} {d = Malformed at why} u p = record {
  within = along_trans u.within.along p.within;
  later = omega (arith, u.later, p.later);
  inside = inside_trans c u.within u.inside p.inside;
  cause = tt;
  told = λ xs e.
      let (there, same) = u.told xs e in
      let one = reads_err view (h b.order (spot b (after a b xs))) b c (after a b xs) at why (p.told (after a b xs) there) in
      let place : at ≡ a.origin + one.0.at = one.1.at ∙ ap (λ (n : ℕ). n + one.0.at) u.within.origin in
      rw (same, ← u.within.order, one.2) (record { at = place; why = one.1.why });
}
fails {f = f} view wanted h k {a} {b} {c} {d = ReadFault} u p = record {
  within = along_trans u.within.along p.within;
  later = omega (arith, u.later, p.later);
  inside = inside_trans c u.within u.inside p.inside;
  cause = rose_more u.within.along.faults p.cause;
  told = λ xs e. elim (f a.order (spot a xs)) as (λ r. Answers wanted a c xs r (Err ReadFault)) [ Ok x ↦ tt | Err x ↦ tt ];
}
fails {f = f} view wanted h k {a} {b} {c} {d = OutOfMemory} u p = record {
  within = along_trans u.within.along p.within;
  later = omega (arith, u.later, p.later);
  inside = inside_trans c u.within u.inside p.inside;
  cause = tt;
  told = λ xs e. elim (f a.order (spot a xs)) as (λ r. Answers wanted a c xs r (Err OutOfMemory)) [ Ok x ↦ tt | Err x ↦ tt ];
}

-- all is read
pub ends : {S B : Type 0} {f : Order → Spot → Reading B} (wanted : S → B) (v : Order → B) {a b : Standing} {t : S} → Ahead f (λ o s. Ok (v o, s)) a b → wanted t ≡ v a.order → Decodes wanted f a b (Ok t)
ends {f = f} wanted v {a} {b} {t} u e = record {
  within = u.within;
  later = u.later;
  inside = u.inside;
  cause = tt;
  told = λ xs is.
      let (there, same) = u.told xs is in
      rw same (record { value = e; ahead = there; spot = refl });
}

bind_ok : {B : Type 0} (r : Reading B) → r ≡ (r >>= λ x. Ok (x.0, x.1))
unfolding ◌>>=◌
bind_ok (Ok x) = refl
bind_ok (Err f) = refl

through : {B : Type 0} {f : Order → Spot → Reading B} (k : Order → Spot → Reading B) {a b : Standing} → Ahead f k a b → Ahead f (λ o s. k o s >>= λ x. Ok (x.0, x.1)) a b
through k {a} {b} u = record { within = u.within; later = u.later; inside = u.inside; told = λ xs e. let (there, same) = u.told xs e in (there, same ∙ bind_ok (k a.order (spot b (after a b xs)))) }

-- what is left was read
pub last : {S B : Type 0} {f : Order → Spot → Reading B} (wanted : S → B) (k : Order → Spot → Reading B) {a b c : Standing} {r : Result S DecodeFault} → Ahead f k a b → Decodes wanted k b c r → Decodes wanted f a c r
unfolding ◌>>=◌
last {f = f} wanted k {a} {b} {c} {r = Ok t} u d = ends wanted (λ o. wanted t) (goes_on wanted k (λ v o s. Ok (v, s)) (through k u) d) refl
last {f = f} wanted k {a} {b} {c} {r = Err e} u d = fails wanted wanted k (λ v o s. Ok (v, s)) (through k u) d

-- it is malformed here
pub malformed : {S B : Type 0} {f : Order → Spot → Reading B} (wanted : S → B) (q : Spot → ℕ) (w : Why) {a b : Standing} {at : ℕ} → Ahead f (λ o s. fault_at (q s) w) a b
    → ((xs : List ℕ) → at ≡ b.origin + q (spot b xs)) → Decodes wanted f a b (Err (Malformed at w))
malformed {f = f} wanted q w {a} {b} {at} u e = record {
  within = u.within.along;
  later = u.later;
  inside = u.inside;
  cause = tt;
  told = λ xs is.
      let (there, same) = u.told xs is in
      rw same (record { at = e (after a b xs) ∙ ap (λ (n : ℕ). n + q (spot b (after a b xs))) u.within.origin; why = refl });
}

pub no_memory : {S B : Type 0} {f k : Order → Spot → Reading B} (wanted : S → B) {a b : Standing} → Ahead f k a b → Decodes wanted f a b (Err OutOfMemory)
no_memory {f = f} wanted {a} {b} u = record {
  within = u.within.along;
  later = u.later;
  inside = u.inside;
  cause = tt;
  told = λ xs e. elim (f a.order (spot a xs)) as (λ r. Answers wanted a b xs r (Err OutOfMemory)) [ Ok x ↦ tt | Err x ↦ tt ];
}

-- the device failed on the way
pub read_fault : {S B : Type 0} {f k : Order → Spot → Reading B} (wanted : S → B) {a b c : Standing} {d : DecodeFault} → Ahead f k a b → Fails b c d → Decodes wanted f a c (Err d)
read_fault {f = f} wanted {a} {b} {c} {d} u e = rw e.fault (record {
  within = along_trans u.within.along e.along;
  later = omega (arith, u.later, e.later);
  inside = inside_trans c u.within u.inside e.inside;
  cause = rose_more u.within.along.faults e.rose;
  told = λ xs is. elim (f a.order (spot a xs)) as (λ r. Answers wanted a c xs r (Err ReadFault)) [ Ok x ↦ tt | Err x ↦ tt ];
})

-- the same reading in other words, at this spot
pub rephrased : {B : Type 0} {f : Order → Spot → Reading B} (k l : Order → Spot → Reading B) {a b : Standing} → Ahead f k a b → ((xs : List ℕ) → b.ahead ≡ Some xs → k b.order (spot b xs) ≡ l b.order (spot b xs)) → Ahead f l a b
rephrased k l {a} {b} u same = record {
  within = u.within;
  later = u.later;
  inside = u.inside;
  told = λ xs e. let (there, is) = u.told xs e in (there, is ∙ rw (← u.within.order) (same (after a b xs) there));
}

-- ---- regions

entered_spot : (n : ℕ) (a b : Standing) (outer : Outer) (xs : List ℕ) → Stands a → Entered n a b outer → a.ahead ≡ Some xs → spot b xs ≡ front n (spot a xs)
entered_spot n a b outer xs st t e =
    let at : b.place - b.origin ≡ a.place - a.origin = omega (arith, t.place, t.origin) in
    let left : room b ≡ n = omega (arith, t.place, t.region_end) in
    rw (at, left) (ap (λ (l : List ℕ). record { at = a.place - a.origin; rest = l }) (sym (take_of_take n (room a) xs t.fits (omega (arith, st.told xs e, st.in_region, st.in_whole)))))

left_within : (n : ℕ) (a b c d : Standing) (outer : Outer) → Stands c → Entered n a b outer → Within b c → Left outer.end c d → Within a d
left_within n a b c d outer st t w l = record {
  along = along_trans t.along (along_trans w.along l.along);
  region_end = l.region_end ∙ t.outer;
  origin = l.origin ∙ w.origin ∙ t.origin;
  order = l.order ∙ w.order ∙ t.order;
  reach = omega (arith, l.reach, l.place, w.reach, t.reach, st.in_region);
}

left_place : (n : ℕ) (a b c d : Standing) (outer : Outer) → Entered n a b outer → Within b c → Left outer.end c d → d.place ≡ a.place + n
left_place n a b c d outer t w l = l.place ∙ w.region_end ∙ t.region_end

left_ahead : (n : ℕ) (a b c d : Standing) (outer : Outer) (xs : List ℕ) → Stands c → Entered n a b outer → Within b c → b.place ≤ c.place → Left outer.end c d → c.ahead ≡ Some (after b c xs) → d.ahead ≡ Some (after a d xs)
left_ahead n a b c d outer xs st t w later l e =
    l.ahead ∙ ap (option_map (drop (room c))) e ∙ ap (λ (ys : List ℕ). Some ys) (drop-drop (room c) (c.place - b.place) xs ∙ ap (λ (k : ℕ). drop k xs) (omega (arith, st.in_region, left_place n a b c d outer t w l, l.place, t.place, t.fits, later)))

left_spot : (n : ℕ) (a b c d : Standing) (outer : Outer) (xs : List ℕ) → Stands a → Stands c → Entered n a b outer → Within b c → Left outer.end c d → spot d (after a d xs) ≡ step n (spot a xs)
unfolding step
left_spot n a b c d outer xs st stc t w l =
    let k : d.place - a.place ≡ n = omega (arith, left_place n a b c d outer t w l) in
    let all = left_within n a b c d outer stc t w l in
    let at : d.place - d.origin ≡ a.place - a.origin + n = omega (arith, left_place n a b c d outer t w l, all.origin, st.from_origin) in
    let left : room d ≡ room a - n = omega (arith, left_place n a b c d outer t w l, all.region_end) in
    rw (at, left, k, drop_of_take n (room a) xs t.fits) refl

-- a region was read, and what was left of it passed over
pub region_passed : {T A : Type 0} (view : T → A) (f : Order → Spot → Reading A) (n : ℕ) (a b c d : Standing) (outer : Outer) (t : T) → Stands a → Stands c → Entered n a b outer → Decodes view f b c (Ok t) → Left outer.end c d
    → Decodes view (λ o s. passing n (f o) s) a d (Ok t)
unfolding passing ◌>>=◌
region_passed view f n a b c d outer t st stc en r l = record {
  within = left_within n a b c d outer stc en r.within l;
  later = omega (arith, left_place n a b c d outer en r.within l);
  inside = λ h. omega (arith, left_place n a b c d outer en r.within l, en.fits);
  cause = tt;
  told = λ xs e.
      let one = reads_ok view (f b.order (spot b xs)) b c xs t (r.told xs (en.ahead ∙ e)) in
      let same : f a.order (front n (spot a xs)) ≡ Ok one.0 = rw (← en.order, ← entered_spot n a b outer xs st en e) one.2 in
      rw same (record { value = one.1.value; ahead = left_ahead n a b c d outer xs stc en r.within r.later l one.1.ahead; spot = left_spot n a b c d outer xs st stc en r.within l });
}

-- a region was read to its end
pub region_filled : {T A : Type 0} (view : T → A) (f : Order → Spot → Reading A) (n : ℕ) (a b c d : Standing) (outer : Outer) (t : T) → Stands a → Stands c → Entered n a b outer → Decodes view f b c (Ok t) → room c ≡ 0 → Left outer.end c d
    → Decodes view (λ o s. filling n (f o) s) a d (Ok t)
unfolding filling ◌>>=◌
region_filled view f n a b c d outer t st stc en r none l = record {
  within = left_within n a b c d outer stc en r.within l;
  later = omega (arith, left_place n a b c d outer en r.within l);
  inside = λ h. omega (arith, left_place n a b c d outer en r.within l, en.fits);
  cause = tt;
  told = λ xs e.
      let one = reads_ok view (f b.order (spot b xs)) b c xs t (r.told xs (en.ahead ∙ e)) in
      let same : f a.order (front n (spot a xs)) ≡ Ok one.0 = rw (← en.order, ← entered_spot n a b outer xs st en e) one.2 in
      let empty : length one.0.1.rest ≡ 0 = ap (λ (s : Spot). length s.rest) (sym one.1.spot) ∙ ap (λ (k : ℕ). length (take k (after b c xs))) none in
      let test : nat_eq (length one.0.1.rest) 0 ≡ true = eq-eqb _ _ empty in
      rw (same, test) (record { value = one.1.value; ahead = left_ahead n a b c d outer xs stc en r.within r.later l one.1.ahead; spot = left_spot n a b c d outer xs st stc en r.within l });
}

-- octets are left of a region
pub region_rest : {T A : Type 0} (view : T → A) (f : Order → Spot → Reading A) (n : ℕ) (a b c : Standing) (outer : Outer) (t : T) → Stands a → Stands c → Entered n a b outer → Decodes view f b c (Ok t) → c.place < c.region_end
    → Decodes view (λ o s. filling n (f o) s) a c (Err (Malformed c.place why.LengthRest))
unfolding filling ◌>>=◌
region_rest view f n a b c outer t st stc en r some = record {
  within = along_trans en.along r.within.along;
  later = omega (arith, en.place, r.later);
  inside = λ h. omega (arith, some, r.within.region_end, en.region_end, en.fits);
  cause = tt;
  told = λ xs e.
      let one = reads_ok view (f b.order (spot b xs)) b c xs t (r.told xs (en.ahead ∙ e)) in
      let same : f a.order (front n (spot a xs)) ≡ Ok one.0 = rw (← en.order, ← entered_spot n a b outer xs st en e) one.2 in
      let full : length one.0.1.rest ≡ room c = ap (λ (s : Spot). length s.rest) (sym one.1.spot) ∙ room_is (after b c xs) stc one.1.ahead in
      let test : nat_eq (length one.0.1.rest) 0 ≡ false = ne_eqb _ _ (λ z. absurd (omega (arith, z, full, some))) in
      let at : c.place - c.origin ≡ one.0.1.at = ap (λ (s : Spot). s.at) one.1.spot in
      rw (same, test) (record { at = omega (arith, at, r.within.origin, en.origin, stc.from_origin); why = refl });
}

-- the part in the region is malformed, or was not read
pub region_fails : {T S A B : Type 0} (view : T → A) (wanted : S → B) (f : Order → Spot → Reading A) (k : A × Spot → Spot → Result (B × Spot) Fault) (n : ℕ) (a b c : Standing) (outer : Outer) (d : DecodeFault) → Stands a → Entered n a b outer → Decodes view f b c (Err d)
    → Decodes wanted (λ o s. f o (front n s) >>= λ x. k x s) a c (Err d)
unfolding ◌>>=◌
region_fails view wanted f k n a b c outer (Malformed at w) st en r = record {
  within = along_trans en.along r.within;
  later = omega (arith, en.place, r.later);
  inside = inside_entered c en r.inside;
  cause = tt;
  told = λ xs e.
      let one = reads_err view (f b.order (spot b xs)) b c xs at w (r.told xs (en.ahead ∙ e)) in
      let same : f a.order (front n (spot a xs)) ≡ Err one.0 = rw (← en.order, ← entered_spot n a b outer xs st en e) one.2 in
      rw same (record { at = one.1.at ∙ ap (λ (j : ℕ). j + one.0.at) en.origin; why = one.1.why });
}
region_fails view wanted f k n a b c outer ReadFault st en r = record {
  within = along_trans en.along r.within;
  later = omega (arith, en.place, r.later);
  inside = inside_entered c en r.inside;
  cause = rose_more en.along.faults r.cause;
  told = λ xs e. elim (f a.order (front n (spot a xs)) >>= λ x. k x (spot a xs)) as (λ r. Answers wanted a c xs r (Err ReadFault)) [ Ok x ↦ tt | Err x ↦ tt ];
}
region_fails view wanted f k n a b c outer OutOfMemory st en r = record {
  within = along_trans en.along r.within;
  later = omega (arith, en.place, r.later);
  inside = inside_entered c en r.inside;
  cause = tt;
  told = λ xs e. elim (f a.order (front n (spot a xs)) >>= λ x. k x (spot a xs)) as (λ r. Answers wanted a c xs r (Err OutOfMemory)) [ Ok x ↦ tt | Err x ↦ tt ];
}

-- ---- numbers

step_step : (n m : ℕ) (s : Spot) → step m (step n s) ≡ step (n + m) s
unfolding step
step_step n m s = rw (add_assoc s.at n m, drop-drop m n s.rest) (ap (λ (k : ℕ). record { at = s.at + (n + m); rest = drop k s.rest }) (omega arith))

step_at : (n : ℕ) (s : Spot) → (step n s).at ≡ s.at + n
unfolding step
step_at n s = refl

step_rest : (n : ℕ) (s : Spot) → (step n s).rest ≡ drop n s.rest
unfolding step
step_rest n s = refl

step_left : (n : ℕ) (s : Spot) → length (step n s).rest ≡ length s.rest - n
unfolding step
step_left n s = length-drop n s.rest

pub number_parts : (most : ℕ) (o : Order) (k : ℕ) (s : Spot) → number_at most o k s ≡ (align_at (min k most) o s >>= λ x. digits_at k o x.1)
unfolding number_at octets_at digits_at ◌>>=◌
number_parts most o k s =
    let pad = padding (min k most) s.at in
    elim (cases_Bool (nat_lt (length s.rest) pad)) [
      | inl few ↦ (
          let lt : length s.rest < pad = ltb-true _ _ few in
          let also : nat_lt (length s.rest) (pad + k) ≡ true = lt-ltb _ _ (omega arith) in
          rw (few, also) (ap (λ (n : ℕ). Err (record { at = s.at + n; why = why.Short })) (omega arith)))
      | inr enough ↦ (
          let le : pad ≤ length s.rest = ltb-false _ _ enough in
          let left : length (step pad s).rest ≡ length s.rest - pad = step_left pad s in
          elim (cases_Bool (nat_lt (length s.rest) (pad + k))) [
            | inl few ↦ (
                let lt : length s.rest < pad + k = ltb-true _ _ few in
                let also : nat_lt (length (step pad s).rest) k ≡ true = lt-ltb _ _ (omega arith) in
                rw (enough, few, also, step_at pad s) (ap (λ (n : ℕ). Err (record { at = s.at + n; why = why.Short })) (omega arith)))
            | inr many ↦ (
                let ge : pad + k ≤ length s.rest = ltb-false _ _ many in
                let also : nat_lt (length (step pad s).rest) k ≡ false = le-ltb _ _ (omega arith) in
                rw (enough, many, also, ← step_step pad k s, step_rest pad s) refl)
          ])
    ]

abbrev pub at_place : ℕ → ℕ × Spot → Reading (ℕ × ℕ)
at_place p n = Ok ((p, n.0), n.1)

placed_step : (k p : ℕ) (o : Order) (r : Reading (Unit {0})) → ((x : Unit {0} × Spot) → r ≡ Ok x → x.1.at ≡ p) → ((r >>= λ x. digits_at k o x.1) >>= at_place p) ≡ (r >>= λ x. digits_at k o x.1 >>= at_place x.1.at)
unfolding ◌>>=◌
placed_step k p o (Ok x) at = ap (λ (n : ℕ). digits_at k o x.1 >>= at_place n) (sym (at x refl))
placed_step k p o (Err f) at = refl

abbrev place_in : Reading (Unit {0}) → ℕ
place_in (Ok x) = x.1.at
place_in (Err f) = 0

going_case : (t : Bool) (n at : ℕ) (s : Spot) (x : Unit {0} × Spot) → cond t (fault_at at why.Short) (Ok (tt, step n s)) ≡ Ok x → x.1.at ≡ s.at + n
going_case true n at s x e = absurd cc
going_case false n at s x e = ap (λ (r : Reading (Unit {0})). place_in r) (sym e) ∙ step_at n s

going_place : (n at : ℕ) (s : Spot) (x : Unit {0} × Spot) → going n at tt s ≡ Ok x → x.1.at ≡ s.at + n
going_place n at s x e = going_case (nat_lt (length s.rest) n) n at s x e

pub placed_parts : (most : ℕ) (o : Order) (k : ℕ) (s : Spot) → placed_at most k o s ≡ (align_at (min k most) o s >>= λ x. digits_at k o x.1 >>= at_place x.1.at)
unfolding placed_at
placed_parts most o k s =
    ap (λ (r : Reading ℕ). r >>= at_place (s.at + padding (min k most) s.at)) (number_parts most o k s)
    ∙ placed_step k (s.at + padding (min k most) s.at) o (align_at (min k most) o s) (λ x e. going_place (padding (min k most) s.at) (s.at + length s.rest) s x e)

abbrev checked : ℕ → ℕ × Spot → Reading ℕ
checked p n = cond (nat_lt (length n.1.rest) n.0) (fault_at p why.Dheader) (Ok n)

abbrev pub region_count : ℕ × ℕ → Order → Spot → Reading ℕ
region_count v o s = cond (nat_lt (length s.rest) v.1) (fault_at v.0 why.Dheader) (Ok (v.1, s))

dheader_step : (o : Order) (p : ℕ) (r : Reading ℕ) → (r >>= checked p) ≡ ((r >>= at_place p) >>= λ n. region_count n.0 o n.1)
unfolding ◌>>=◌
dheader_step o p (Ok n) = refl
dheader_step o p (Err f) = refl

pub dheader_parts : (o : Order) (s : Spot) → dheader o s ≡ (placed_at 4 4 o s >>= λ n. region_count n.0 o n.1)
unfolding dheader placed_at
dheader_parts o s = dheader_step o (s.at + padding 4 s.at) (number_at 4 o 4 s)

bind_place : {A : Type 0} (p : ℕ) (o : Order) (r : Reading ℕ) (F : ℕ × Spot → Reading A) (G : ℕ × ℕ → Order → Spot → Reading A) → ((n : ℕ × Spot) → F n ≡ G (p, n.0) o n.1) → (r >>= F) ≡ ((r >>= at_place p) >>= λ n. G n.0 o n.1)
unfolding ◌>>=◌
bind_place p o (Ok n) F G same = same n
bind_place p o (Err f) F G same = refl

-- a reading that begins with a number, told its place
pub placed_bind : {A : Type 0} (most k : ℕ) (o : Order) (s : Spot) (F : ℕ × Spot → Reading A) (G : ℕ × ℕ → Order → Spot → Reading A) → ((n : ℕ × Spot) → F n ≡ G (s.at + padding (min k most) s.at, n.0) o n.1) → (number_at most o k s >>= F) ≡ (placed_at most k o s >>= λ n. G n.0 o n.1)
unfolding placed_at
placed_bind most k o s F G same = bind_place (s.at + padding (min k most) s.at) o (number_at most o k s) F G same

pub decodes_as : {T A : Type 0} (view : T → A) (f g : Order → Spot → Reading A) {a b : Standing} {r : Result T DecodeFault} → ((s : Spot) → f a.order s ≡ g a.order s) → Decodes view g a b r → Decodes view f a b r
decodes_as view f g {a} same d = last view g (begins f g a same) d

-- the device failed as the cursor left its region
pub leave_fails : (n : ℕ) (a b c d : Standing) (outer : Outer) (e : DecodeFault) → Stands c → Entered n a b outer → Within b c → b.place ≤ c.place → Fails c d e → Fails a d e
leave_fails n a b c d outer e stc en w le f = record {
  along = along_trans en.along (along_trans w.along f.along);
  later = omega (arith, en.place, le, f.later);
  inside = inside_entered d en (λ h. omega (arith, f.inside (omega (arith, stc.in_region)), w.region_end));
  fault = f.fault;
  rose = rose_more en.along.faults (rose_more w.along.faults f.rose);
}

-- a region has ended where no octet is left of it
pub ended_is : (a : Standing) (xs : List ℕ) → Stands a → a.ahead ≡ Some xs → nat_eq (length (spot a xs).rest) 0 ≡ nat_eq a.place a.region_end
ended_is a xs st e = elim (cases_Bool (nat_eq a.place a.region_end)) [
  | inl same ↦ rw (same, eq-eqb (length (take (room a) xs)) 0 (omega (arith, room_is xs st e, eqb-true a.place a.region_end same))) refl
  | inr other ↦ rw (other, ne_eqb (length (take (room a) xs)) 0 (λ z. absurd (omega (arith, room_is xs st e, z, st.in_region, eqb-false a.place a.region_end other)))) refl
]
