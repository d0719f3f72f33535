-- A content that was read from an origin of its own: what was read in it is what is read of the content.
use Rattle.std.proofs.Common.{◌≡◌, refl, sym, ap, ◌∙◌, ℕ, ◌+◌, ◌-◌, ◌≤◌, ◌<◌, Bool, true, false, List, length, take, drop, nat_le, Some, Ok, Err, arith, length-take, inl, inr}
use Rattle.std.specs.Option.{option_map}
use Rattle.std.proofs.lemmas.List.{drop-drop, drop-take, take-append-le, take-append-drop}
use Rattle.xt_shapes.specs.declared.leaves.Order.{Order}
use Rattle.xcdr_model.specs.declared.malformed.Fault.{Fault}
use Rattle.xcdr_model.specs.declared.malformed.Why.{Why}
use Rattle.xcdr_model.specs.declared.malformed.Why.TheVariants as why
use Rattle.xcdr_model.specs.Reading.{Spot, Reading, ◌>>=◌, step}
use Rattle.xcdr_model.specs.Xcdr1Reading.{shifted, closed_by, content_read}
use Rattle.xt_wire.specs.declared.cursor.faults.DecodeFault.{DecodeFault}
use Rattle.xt_wire.specs.declared.cursor.faults.DecodeFault.TheVariants.{Malformed, ReadFault, OutOfMemory}
use Rattle.xt_wire.specs.cursor.Standing.{Standing, Stands, Within, StaysInside, room}
use Rattle.xt_wire.specs.cursor.Decoding.{spot, after, IsFault, Answers, Decodes, Fails}
use Rattle.std.proofs.lemmas.Bool.{le-leb, lt-leb}
use Rattle.xt_wire.proofs.OfCursor.Ahead.{begins, read_fault, room_is, along_trans, reads_ok}
use Rattle.xcdr_steps.specs.declared.one.contents.Content.{Content}
use Rattle.xcdr_steps.specs.one.Contents.{own_content, spare, Opened, MayClose, Closed, Closes}

read_err : {T A : Type 0} (view : T → A) (r : Reading A) (a b : Standing) (xs : List ℕ) (p : ℕ) (w : Why) → Answers view a b xs r (Err (Malformed p w)) → (f : Fault) × IsFault a f p w × (r ≡ Err f)
read_err view (Ok x) a b xs p w d = absurd d
read_err view (Err f) a b xs p w d = (f, d, refl)

take_twice : (n m : ℕ) (xs : List ℕ) → n ≤ m → m ≤ length xs → take n (take m xs) ≡ take n xs
take_twice n m xs le within =
    let inside : n ≤ length (take m xs) = omega (arith, length-take m xs) in
    sym (take-append-le n (take m xs) (drop m xs) inside) ∙ ap (take n) (take-append-drop m xs)

-- the octets of the content, as a spot at the cursor's new origin
opened_spot : (n : ℕ) (a b : Standing) (x : Content) (xs : List ℕ) → Stands a → Opened n a b x → a.ahead ≡ Some xs → spot b xs ≡ record { at = 0; rest = take n (take (room a) xs) }
opened_spot n a b x xs st en e =
    let at : b.place - b.origin ≡ 0 = omega (arith, en.place, en.origin) in
    let left : room b ≡ n = omega (arith, en.place, en.region_end) in
    rw (at, left) (ap (λ (l : List ℕ). record { at = 0; rest = l }) (sym (take_twice n (room a) xs en.fits (omega (arith, st.told xs e, st.in_region, st.in_whole)))))

abbrev stepped : {A : Type 0} → ℕ → Spot → A × Spot → Reading A
stepped n s y = Ok (y.0, step n s)

-- what f reads of the content's octets is what it read from the cursor's place
content_is : {A : Type 0} (f : Order → Spot → Reading A) (n : ℕ) (closed : Bool) (a b : Standing) (x : Content) (xs : List ℕ) (r : Reading A) → Stands a → Opened n a b x → a.ahead ≡ Some xs → f b.order (spot b xs) ≡ r
    → own_content n closed f a.order (spot a xs) ≡ (shifted (a.place - a.origin) (r >>= λ y. closed_by closed y) >>= stepped n (spot a xs))
unfolding content_read
content_is {A} f n closed a b x xs r st en e is =
    let same : f a.order (record { at = 0; rest = take n (take (room a) xs) }) ≡ r = rw (← en.order, ← opened_spot n a b x xs st en e) is in
    ap (λ (q : Reading A). shifted (a.place - a.origin) (q >>= λ y. closed_by closed y) >>= stepped n (spot a xs)) same

-- in the content first, which is in the region
inside_content : {n : ℕ} {a b : Standing} {x : Content} (c : Standing) → Opened n a b x → StaysInside b c → StaysInside a c
inside_content c en q h = omega (arith, q (omega (arith, en.place, en.region_end)), en.region_end, en.fits, h)

-- the value was not read
pub content_fails : {T S A : Type 0} (view : T → A) (wanted : S → A) (f : Order → Spot → Reading A) (n : ℕ) (closed : Bool) (a b c : Standing) (x : Content) (d : DecodeFault) → Stands a → Opened n a b x → Decodes view f b c (Err d) → Decodes wanted (own_content n closed f) a c (Err d)
unfolding ◌>>=◌
content_fails view wanted f n closed a b c x (Malformed at w) st en r = record {
  within = along_trans en.along r.within;
  later = omega (arith, en.place, r.later);
  inside = inside_content c en r.inside;
  cause = tt;
  told = λ xs e.
      let one = read_err view (f b.order (spot b xs)) b c xs at w (r.told xs (en.ahead ∙ e)) in
      rw (content_is f n closed a b x xs (Err one.0) st en e one.2) (record { at = omega (arith, one.1.at, en.origin, st.from_origin); why = one.1.why });
}
content_fails view wanted f n closed a b c x ReadFault st en r = record {
  within = along_trans en.along r.within;
  later = omega (arith, en.place, r.later);
  inside = inside_content c en r.inside;
  cause = omega (arith, en.along.faults, r.cause);
  told = λ xs e. elim (own_content n closed f a.order (spot a xs)) as (λ q. Answers wanted a c xs q (Err ReadFault)) [ Ok y ↦ tt | Err y ↦ tt ];
}
content_fails view wanted f n closed a b c x OutOfMemory st en r = record {
  within = along_trans en.along r.within;
  later = omega (arith, en.place, r.later);
  inside = inside_content c en r.inside;
  cause = tt;
  told = λ xs e. elim (own_content n closed f a.order (spot a xs)) as (λ q. Answers wanted a c xs q (Err OutOfMemory)) [ Ok y ↦ tt | Err y ↦ tt ];
}

end_place : {n k : ℕ} {a b c d : Standing} {x : Content} → Opened n a b x → Within b c → Closed k x c d → d.place ≡ a.place + n
end_place en w l = l.place ∙ l.left.place ∙ w.region_end ∙ en.region_end

end_within : {n k : ℕ} {a b c d : Standing} {x : Content} → Stands c → Opened n a b x → Within b c → Closed k x c d → Within a d
end_within st en w l = record {
  along = along_trans en.along (along_trans w.along (along_trans l.left.along l.along));
  region_end = l.region_end ∙ l.left.region_end ∙ en.outer;
  origin = l.origin ∙ en.old_origin;
  order = l.order ∙ l.left.order ∙ w.order ∙ en.order;
  reach = omega (arith, l.reach, l.place, l.left.reach, l.left.place, w.reach, en.reach, st.in_region);
}

end_spot : {n k : ℕ} {a b c d : Standing} {x : Content} (xs : List ℕ) → Stands a → Stands c → Opened n a b x → Within b c → Closed k x c d → spot d (after a d xs) ≡ step n (spot a xs)
unfolding step
end_spot {n} {k} {a} {b} {c} {d} xs st stc en w l =
    let place = end_place en w l in
    let all = end_within stc en w l in
    let on : d.place - a.place ≡ n = omega (arith, place) in
    let at : d.place - d.origin ≡ a.place - a.origin + n = omega (arith, place, all.origin, st.from_origin) in
    let left : room d ≡ room a - n = omega (arith, place, all.region_end) in
    let rest : take (room a - n) (drop n xs) ≡ drop n (take (room a) xs) = sym (drop-take n (room a - n) xs) ∙ ap (λ (j : ℕ). drop n (take j xs)) (omega (arith, en.fits)) in
    rw (at, left, on, rest) refl

end_ahead : {n k : ℕ} {a b c d : Standing} {x : Content} (xs : List ℕ) → Stands c → Opened n a b x → Within b c → b.place ≤ c.place → Closed k x c d → c.ahead ≡ Some (after b c xs) → d.ahead ≡ Some (after a d xs)
end_ahead {n} {k} {a} {b} {c} {d} xs stc en w later l e =
    l.ahead ∙ l.left.ahead ∙ ap (option_map (drop (room c))) e ∙ ap (λ (ys : List ℕ). Some ys) (drop-drop (room c) (c.place - b.place) xs ∙ ap (λ (j : ℕ). drop j xs) (omega (arith, stc.in_region, end_place en w l, w.region_end, en.region_end, en.place, later)))

-- the value was read, and few octets are left behind it
pub content_ends : {T A : Type 0} (view : T → A) (f : Order → Spot → Reading A) (n : ℕ) (closed : Bool) (a b c d : Standing) (x : Content) (t : T) → Stands a → Stands c → Opened n a b x → Decodes view f b c (Ok t) → Closed (spare closed) x c d → Decodes view (own_content n closed f) a d (Ok t)
unfolding ◌>>=◌
content_ends view f n closed a b c d x t st stc en r l = record {
  within = end_within stc en r.within l;
  later = omega (arith, end_place en r.within l);
  inside = λ h. omega (arith, end_place en r.within l, en.fits, h);
  cause = tt;
  told = λ xs e.
      let one = reads_ok view (f b.order (spot b xs)) b c xs t (r.told xs (en.ahead ∙ e)) in
      let left : length one.0.1.rest ≡ room c = ap (λ (s : Spot). length s.rest) (sym one.1.spot) ∙ room_is (after b c xs) stc one.1.ahead in
      let few : nat_le (length one.0.1.rest) (spare closed) ≡ true = le-leb _ _ (omega (arith, left, l.few)) in
      rw (content_is f n closed a b x xs (Ok one.0) st en e one.2, few) (record {
        value = one.1.value;
        ahead = end_ahead xs stc en r.within r.later l one.1.ahead;
        spot = end_spot xs st stc en r.within l;
      });
}

-- too many octets are left
content_rest : {T A : Type 0} (view : T → A) (f : Order → Spot → Reading A) (n : ℕ) (closed : Bool) (a b c : Standing) (x : Content) (t : T) → Stands a → Stands c → Opened n a b x → Decodes view f b c (Ok t) → spare closed < room c
    → Decodes view (own_content n closed f) a c (Err (Malformed c.place why.LengthRest))
unfolding ◌>>=◌
content_rest view f n closed a b c x t st stc en r many = record {
  within = along_trans en.along r.within.along;
  later = omega (arith, en.place, r.later);
  inside = inside_content c en r.inside;
  cause = tt;
  told = λ xs e.
      let one = reads_ok view (f b.order (spot b xs)) b c xs t (r.told xs (en.ahead ∙ e)) in
      let left : length one.0.1.rest ≡ room c = ap (λ (s : Spot). length s.rest) (sym one.1.spot) ∙ room_is (after b c xs) stc one.1.ahead in
      let test : nat_le (length one.0.1.rest) (spare closed) ≡ false = lt-leb _ _ (omega (arith, left, many)) in
      let at : c.place - c.origin ≡ one.0.1.at = ap (λ (s : Spot). s.at) one.1.spot in
      rw (content_is f n closed a b x xs (Ok one.0) st en e one.2, test) (record { at = omega (arith, at, r.within.origin, en.origin, en.place, r.later, st.from_origin); why = refl });
}

-- the device failed as the cursor left the content
content_left : {n : ℕ} {a b c d : Standing} {x : Content} {e : DecodeFault} → Stands c → Opened n a b x → Within b c → b.place ≤ c.place → Fails c d e → Fails a d e
content_left {d = d} stc en w le f = record {
  along = along_trans en.along (along_trans w.along f.along);
  later = omega (arith, en.place, le, f.later);
  inside = inside_content d en (λ h. omega (arith, f.inside (omega (arith, stc.in_region)), w.region_end));
  fault = f.fault;
  rose = omega (arith, en.along.faults, w.along.faults, f.rose);
}

pub content_unended : {T A : Type 0} {t : T} (view : T → A) (f : Order → Spot → Reading A) (n : ℕ) (closed : Bool) (a b c d : Standing) (x : Content) (e : DecodeFault) → Stands a → Stands c → Opened n a b x → Decodes view f b c (Ok t) → Closes (spare closed) x c d (Err e) → Decodes view (own_content n closed f) a d (Err e)
content_unended {t = t} view f n closed a b c d x e st stc en r (inl h) = rw (h.fault, h.same) (content_rest view f n closed a b c x t st stc en r h.many)
content_unended {t = t} view f n closed a b c d x e st stc en r (inr l) = read_fault {f = own_content n closed f} {k = own_content n closed f} view (begins (own_content n closed f) (own_content n closed f) a (λ s. refl)) (content_left stc en r.within r.later l)

-- the content was not begun
pub content_unopened : {S A : Type 0} (wanted : S → A) (f : Order → Spot → Reading A) (n : ℕ) (closed : Bool) {a b : Standing} {e : DecodeFault} → Fails a b e → Decodes wanted (own_content n closed f) a b (Err e)
content_unopened wanted f n closed {a} l = read_fault {f = own_content n closed f} {k = own_content n closed f} wanted (begins (own_content n closed f) (own_content n closed f) a (λ s. refl)) l

pub may_close : {n : ℕ} {a b c : Standing} {x : Content} → Stands a → Opened n a b x → Within b c → b.place ≤ c.place → MayClose x c
may_close st en w later = record {
  ahead = omega (arith, en.outer, en.fits, en.region_end, w.region_end, st.in_region);
  within = omega (arith, en.outer, st.in_whole, en.along.whole, w.along.whole);
  origin = omega (arith, en.old_origin, st.from_origin, en.place, later);
}
