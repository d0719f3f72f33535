-- A body that was read from an origin of its own, in a region without the padding behind it.
use Rattle.std.proofs.Common.{◌≡◌, refl, sym, ap, ◌∙◌, ℕ, ◌+◌, ◌-◌, ◌≤◌, ◌<◌, ◌⊎◌, true, false, List, length, take, drop, nat_eq, Some, Ok, Err, arith, length-take, inl, inr}
use Rattle.std.specs.Option.{option_map}
use Rattle.std.proofs.lemmas.List.{drop-drop, take-append-le, take-append-drop, drop_all}
use Rattle.std.proofs.lemmas.Bool.{eq-eqb, ne_eqb}
use Rattle.xt_shapes.specs.declared.leaves.Order.{Order}
use Rattle.xcdr_model.specs.declared.malformed.Fault.{Fault}
use Rattle.xcdr_model.specs.declared.malformed.Why.{Why}
use Rattle.xcdr_model.specs.declared.malformed.Why.TheVariants as why
use Rattle.xcdr_model.specs.Reading.{Spot, Reading, ◌>>=◌, step}
use Rattle.xt_wire.specs.declared.cursor.faults.DecodeFault.{DecodeFault}
use Rattle.xt_wire.specs.declared.cursor.faults.DecodeFault.TheVariants.{Malformed, ReadFault, OutOfMemory}
use Rattle.xt_wire.specs.cursor.Standing.{Standing, Stands, Within, StaysInside, room}
use Rattle.xt_wire.specs.cursor.Decoding.{spot, after, Reads, IsFault, Answers, Decodes}
use Rattle.xt_wire.proofs.OfCursor.Ahead.{room_is, along_trans}
use Rattle.xcdr_samples.specs.declared.frames.frames.OpenSample.{OpenSample}
use Rattle.xcdr_samples.specs.frames.Heads.{Told}
use Rattle.xcdr_samples.specs.frames.Frames.{over_region, is_whole, whole_body, body_at, Entered, Ended, Trails, Stops}

read_ok : {T A : Type 0} (view : T → A) (r : Reading A) (a b : Standing) (xs : List ℕ) (t : T) → Answers view a b xs r (Ok t) → (x : A × Spot) × Reads view a b xs x t × (r ≡ Ok x)
read_ok view (Ok x) a b xs t d = (x, d, refl)
read_ok view (Err f) a b xs t d = absurd d

read_err : {T A : Type 0} (view : T → A) (r : Reading A) (a b : Standing) (xs : List ℕ) (p : ℕ) (w : Why) → Answers view a b xs r (Err (Malformed p w)) → (f : Fault) × IsFault a f p w × (r ≡ Err f)
read_err view (Ok x) a b xs p w d = absurd d
read_err view (Err f) a b xs p w d = (f, d, refl)

take_twice : (n m : ℕ) (xs : List ℕ) → n ≤ m → m ≤ length xs → take n (take m xs) ≡ take n xs
take_twice n m xs le within =
    let inside : n ≤ length (take m xs) = omega (arith, length-take m xs) in
    sym (take-append-le n (take m xs) (drop m xs) inside) ∙ ap (take n) (take-append-drop m xs)

-- the octets of the body, as a spot at the cursor's new origin
entered_spot : (h : Told) (a b : Standing) (x : OpenSample) (xs : List ℕ) → Stands a → Entered h a b x → a.ahead ≡ Some xs → spot b xs ≡ record { at = 0; rest = take (length (spot a xs).rest - h.1) (spot a xs).rest }
entered_spot h a b x xs st en e =
    let at : b.place - b.origin ≡ 0 = omega (arith, en.place, en.origin) in
    let all = room_is xs st e in
    let left : room b ≡ room a - h.1 = omega (arith, en.place, en.region_end, en.fits, st.in_region) in
    let same : take (room b) xs ≡ take (length (take (room a) xs) - h.1) (take (room a) xs) = rw (left, all) (sym (take_twice (room a - h.1) (room a) xs (omega arith) (omega (arith, st.told xs e, st.in_region, st.in_whole)))) in
    rw (at, same) refl

-- what f reads of the body's octets is what it read from the cursor's place
body_read : {A : Type 0} (f : Order → Spot → Reading A) (h : Told) (a b : Standing) (x : OpenSample) (xs : List ℕ) (r : Reading A) → Stands a → Entered h a b x → a.ahead ≡ Some xs → f b.order (spot b xs) ≡ r → body_at f h (spot a xs) ≡ over_region (spot a xs) (r >>= λ y. is_whole y)
unfolding whole_body
body_read {A} f h a b x xs r st en e is =
    let same : f h.0 (record { at = 0; rest = take (length (spot a xs).rest - h.1) (spot a xs).rest }) ≡ r = rw (← en.order, ← entered_spot h a b x xs st en e) is in
    ap (λ (q : Reading A). over_region (spot a xs) (q >>= λ y. is_whole y)) same

-- in the body first, which is in the region
inside_body : {h : Told} {a b : Standing} {x : OpenSample} (c : Standing) → Stands a → Entered h a b x → StaysInside b c → StaysInside a c
inside_body c st en q k = omega (arith, q (omega (arith, en.place, en.region_end, en.fits, st.in_region)), en.region_end, en.fits, st.in_region)

-- the value was not read
pub body_fails : {T S A : Type 0} (view : T → A) (wanted : S → A) (f : Order → Spot → Reading A) (h : Told) (a b c : Standing) (x : OpenSample) (d : DecodeFault) → Stands a → Entered h a b x → Decodes view f b c (Err d) → Decodes wanted (λ o s. body_at f h s) a c (Err d)
unfolding ◌>>=◌
body_fails view wanted f h a b c x (Malformed at w) st en r = record {
  within = along_trans en.along r.within;
  later = omega (arith, en.place, r.later);
  inside = inside_body c st en r.inside;
  cause = tt;
  told = λ xs e.
      let one = read_err view (f b.order (spot b xs)) b c xs at w (r.told xs (en.ahead ∙ e)) in
      rw (body_read f h a b x xs (Err one.0) st en e one.2) (record { at = omega (arith, one.1.at, en.origin, st.from_origin); why = one.1.why });
}
body_fails view wanted f h a b c x ReadFault st en r = record {
  within = along_trans en.along r.within;
  later = omega (arith, en.place, r.later);
  inside = inside_body c st en r.inside;
  cause = omega (arith, en.along.faults, r.cause);
  told = λ xs e. elim (body_at f h (spot a xs)) as (λ q. Answers wanted a c xs q (Err ReadFault)) [ Ok y ↦ tt | Err y ↦ tt ];
}
body_fails view wanted f h a b c x OutOfMemory st en r = record {
  within = along_trans en.along r.within;
  later = omega (arith, en.place, r.later);
  inside = inside_body c st en r.inside;
  cause = tt;
  told = λ xs e. elim (body_at f h (spot a xs)) as (λ q. Answers wanted a c xs q (Err OutOfMemory)) [ Ok y ↦ tt | Err y ↦ tt ];
}

end_within : (h : Told) (a b c d : Standing) (x : OpenSample) → Stands c → Entered h a b x → Within b c → Ended x c d → Within a d
end_within h a b c d x st en w l = record {
  along = along_trans en.along (along_trans w.along l.along);
  region_end = l.region_end ∙ en.outer;
  origin = l.origin ∙ en.old_origin;
  order = l.order ∙ en.old_order;
  reach = omega (arith, l.reach, l.place, w.reach, w.region_end, en.reach, en.region_end, en.outer, st.in_region);
}

-- the value is all of the body
pub body_ends : {T A : Type 0} (view : T → A) (f : Order → Spot → Reading A) (h : Told) (a b c d : Standing) (x : OpenSample) (t : T) → Stands a → Stands c → Entered h a b x → Decodes view f b c (Ok t) → Ended x c d → Decodes view (λ o s. body_at f h s) a d (Ok t)
unfolding ◌>>=◌ step
body_ends view f h a b c d x t st stc en r l =
    let place : d.place ≡ a.region_end = l.place ∙ en.outer in record {
      within = end_within h a b c d x stc en r.within l;
      later = omega (arith, place, st.in_region);
      inside = λ k. omega (arith, place);
      cause = tt;
      told = λ xs e.
          let one = read_ok view (f b.order (spot b xs)) b c xs t (r.told xs (en.ahead ∙ e)) in
          let empty : length one.0.1.rest ≡ 0 = ap (λ (s : Spot). length s.rest) (sym one.1.spot) ∙ ap (λ (k : ℕ). length (take k (after b c xs))) l.empty in
          let test : nat_eq (length one.0.1.rest) 0 ≡ true = eq-eqb _ _ empty in
          let w = end_within h a b c d x stc en r.within l in
          let on : d.place - a.place ≡ room a = omega (arith, place) in
          let there : d.ahead ≡ Some (after a d xs) = l.ahead ∙ ap (option_map (drop x.padding)) one.1.ahead ∙ ap (λ (ys : List ℕ). Some ys) (drop-drop x.padding (c.place - b.place) xs ∙ ap (λ (k : ℕ). drop k xs) (omega (arith, place, l.empty, stc.in_region, r.within.region_end, en.region_end, en.place, en.padding, en.fits, st.in_region))) in
          let at : d.place - d.origin ≡ a.place - a.origin + length (take (room a) xs) = omega (arith, place, w.origin, room_is xs st e, st.from_origin, st.in_region) in
          let last : room d ≡ 0 = omega (arith, place, w.region_end) in
          let none : take (room d) (after a d xs) ≡ drop (length (take (room a) xs)) (take (room a) xs) = ap (λ (k : ℕ). take k (after a d xs)) last ∙ sym (drop_all (length (take (room a) xs)) (take (room a) xs) (omega arith)) in
          rw (body_read f h a b x xs (Ok one.0) st en e one.2, test) (record {
            value = one.1.value;
            ahead = there;
            spot = ap (λ (n : ℕ). record { at = n; rest = take (room d) (after a d xs) }) at ∙ ap (λ (ys : List ℕ). record { at = a.place - a.origin + length (take (room a) xs); rest = ys }) none;
          });
    }

-- octets of the body are left
body_trails : {T A : Type 0} (view : T → A) (f : Order → Spot → Reading A) (h : Told) (a b c : Standing) (x : OpenSample) (t : T) → Stands a → Stands c → Entered h a b x → Decodes view f b c (Ok t) → c.place < c.region_end → Decodes view (λ o s. body_at f h s) a c (Err (Malformed c.place why.Trailing))
unfolding ◌>>=◌
body_trails view f h a b c x t st stc en r some = record {
  within = along_trans en.along r.within.along;
  later = omega (arith, en.place, r.later);
  inside = inside_body c st en r.inside;
  cause = tt;
  told = λ xs e.
      let one = read_ok view (f b.order (spot b xs)) b c xs t (r.told xs (en.ahead ∙ e)) in
      let full : length one.0.1.rest ≡ room c = ap (λ (s : Spot). length s.rest) (sym one.1.spot) ∙ room_is (after b c xs) stc one.1.ahead in
      let test : nat_eq (length one.0.1.rest) 0 ≡ false = ne_eqb _ _ (λ z. absurd (omega (arith, z, full, some))) in
      let at : c.place - c.origin ≡ one.0.1.at = ap (λ (s : Spot). s.at) one.1.spot in
      rw (body_read f h a b x xs (Ok one.0) st en e one.2, test) (record { at = omega (arith, at, r.within.origin, en.origin, en.place, r.later, st.from_origin); why = refl });
}

-- the device failed behind the body
body_stops : {T A : Type 0} (view : T → A) (f : Order → Spot → Reading A) (h : Told) (a b c d : Standing) (x : OpenSample) (t : T) → Entered h a b x → Decodes view f b c (Ok t) → {k : DecodeFault} → Stops x c d k → Decodes view (λ o s. body_at f h s) a d (Err k)
body_stops view f h a b c d x t en r l = rw l.fault (record {
  within = along_trans en.along (along_trans r.within.along l.along);
  later = omega (arith, en.place, r.later, l.later);
  inside = λ k. omega (arith, l.inside, en.outer);
  cause = omega (arith, en.along.faults, r.within.along.faults, l.rose);
  told = λ xs e. elim (body_at f h (spot a xs)) as (λ q. Answers view a d xs q (Err ReadFault)) [ Ok y ↦ tt | Err y ↦ tt ];
})

pub body_unended : {T A : Type 0} (view : T → A) (f : Order → Spot → Reading A) (h : Told) (a b c d : Standing) (x : OpenSample) (t : T) (k : DecodeFault) → Stands a → Stands c → Entered h a b x → Decodes view f b c (Ok t) → (Trails c d k ⊎ Stops x c d k) → Decodes view (λ o s. body_at f h s) a d (Err k)
body_unended view f h a b c d x t k st stc en r (inl l) = rw (l.fault, l.same) (body_trails view f h a b c x t st stc en r l.some)
body_unended view f h a b c d x t k st stc en r (inr l) = body_stops view f h a b c d x t en r l
