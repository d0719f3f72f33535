-- What was read with a cursor over another one was read with that one.
use Rattle.std.proofs.Common.{◌≡◌, refl, sym, ap, ◌∙◌, subst, ℕ, ◌-◌, ◌≤◌, Bool, true, false, List, [], take, drop, Some, Ok, Err, Result, arith}
use Rattle.std.proofs.lemmas.List.{take-take}
use Rattle.std.specs.declared.option.Option.{Option}
use Rattle.std.specs.Option.{option_map}
use Rattle.xt_shapes.specs.declared.leaves.Order.{Order}
use Rattle.xt_shapes.specs.declared.leaves.Order.TheVariants.{Big, Little}
use Rattle.xcdr_model.specs.Reading.{Spot, Reading}
use Rattle.xt_wire.specs.declared.cursor.cursor.Cursor.{Ghosts}
use Rattle.xt_wire.specs.declared.cursor.faults.DecodeFault.{DecodeFault}
use Rattle.xt_wire.specs.declared.cursor.faults.DecodeFault.TheVariants.{Malformed, ReadFault, OutOfMemory}
use Rattle.xt_wire.specs.cursor.Standing.{Standing, Stands, Stayed, StaysInside, room}
use Rattle.xt_wire.specs.cursor.Decoding.{spot, after, Answers, InRegion, Decodes}
use Rattle.xt_wire.proofs.OfCursor.Ahead.{along_trans, within_trans, drop_of_take, rose_more}
use Rattle.xt_wire.proofs.OfStreams.Marks.{two-inj, number-inj, octets-inj}
use Rattle.xt_wire.specs.streams.Marks.{octets_numbers}
use Rattle.xcdr_steps.specs.again.Passing.{HasPassed}
use Rattle.xcdr_steps.specs.again.Rereading.{order_number, standing_numbers, standing_number, name_over, ahead_over, rereading_state, again_start}
use Rattle.xcdr_steps.specs.declared.again.rereading.Rereading.{Rereading}

-- ---- which cursor it goes over

order-inj : (a b : Order) → order_number a ≡ order_number b → a ≡ b
order-inj Big Big e = refl
order-inj Big Little e = absurd (omega (arith, e))
order-inj Little Big e = absurd (omega (arith, e))
order-inj Little Little e = refl

standing-inj : (a b : Standing) → standing_number a ≡ standing_number b → a ≡ b
unfolding standing_number
standing-inj a b e =
    let same : standing_numbers a ≡ standing_numbers b = number-inj _ _ e in
    let place : a.place ≡ b.place = cc in
    let region_end : a.region_end ≡ b.region_end = cc in
    let whole : a.whole ≡ b.whole = cc in
    let origin : a.origin ≡ b.origin = cc in
    let number : order_number a.order ≡ order_number b.order = cc in
    let order : a.order ≡ b.order = order-inj a.order b.order number in
    let faults : a.faults ≡ b.faults = cc in
    let name : a.name ≡ b.name = cc in
    let reach : a.reach ≡ b.reach = cc in
    let octets : octets_numbers a.ahead ≡ octets_numbers b.ahead = cc in
    let ahead : a.ahead ≡ b.ahead = octets-inj a.ahead b.ahead octets in
    built place region_end whole origin order ahead faults name reach
  where
    built : {p p2 r r2 w w2 g g2 : ℕ} {o o2 : Order} {x x2 : Option (List ℕ)} {f f2 n n2 t t2 : ℕ} → p ≡ p2 → r ≡ r2 → w ≡ w2 → g ≡ g2 → o ≡ o2 → x ≡ x2 → f ≡ f2 → n ≡ n2 → t ≡ t2
        → (let a : Standing = record { place = p; region_end = r; whole = w; origin = g; order = o; ahead = x; faults = f; name = n; reach = t } in a) ≡ (let b : Standing = record { place = p2; region_end = r2; whole = w2; origin = g2; order = o2; ahead = x2; faults = f2; name = n2; reach = t2 } in b)
    built e1 e2 e3 e4 e5 e6 e7 e8 e9 = rw (e1, e2, e3, e4, e5, e6, e7, e8, e9) refl

name-inj : (n m : ℕ) (a b : Standing) → name_over n a ≡ name_over m b → (n ≡ m) × (a ≡ b)
name-inj n m a b e = let both = two-inj n (standing_number a) m (standing_number b) e in (both.0, standing-inj a b both.1)

name_of : {T : Type 0} (a b : Standing) (r : Result T DecodeFault) → InRegion a b r → b.name ≡ a.name
name_of a b (Ok t) p = p.along.name
name_of a b (Err e) p = p.name

-- The reference that it keeps is the one that it was made of, and so is the place where it began.
pub still : {X : Type 0} {G : Ghosts X} {T A : Type 0} {view : T → A} {f : Order → Spot → Reading A} (name : ℕ) (began : Standing) (c : Rereading X G) (r : Result T DecodeFault) → Decodes view f (again_start name began) (rereading_state c) r → (c.inner.ghost_name ≡ name) × (G.state c.began.value ≡ began)
still {X} {G} name began c r d = name-inj c.inner.ghost_name name (G.state c.began.value) began (name_of (again_start name began) (rereading_state c) r d.within)

-- ---- what was read

-- it did not fail
told_so : (failed : Bool) (held : List ℕ) (now : Standing) (xs : List ℕ) → ahead_over failed held now ≡ Some xs → failed ≡ false
told_so true held now xs e = absurd cc
told_so false held now xs e = refl

-- the other cursor's octets ahead to the end of its region
region_told : (a b : Standing) (xs : List ℕ) → Stayed a b → a.ahead ≡ Some xs → ahead_over false [] b ≡ Some (take (room b) xs)
region_told a b xs s e = ap (option_map (take (room b))) (s.ahead ∙ e)

region_spot : (name : ℕ) (a b : Standing) (xs : List ℕ) → Stayed a b → spot (again_start name b) (take (room b) xs) ≡ spot a xs
region_spot name a b xs s =
    let twice : take (room b) (take (room b) xs) ≡ take (room b) xs = take-take (room b) (room b) xs (omega arith) in
    let same : room b ≡ room a = omega (arith, s.place, s.within.region_end) in
    let at : b.place - b.origin ≡ a.place - a.origin = omega (arith, s.place, s.within.origin) in
    rw (twice, same, at) refl

-- where it stands then
rest_spot : (m k : ℕ) (xs : List ℕ) → k ≤ m → take (m - k) (drop k (take m xs)) ≡ take (m - k) (drop k xs)
rest_spot m k xs le = ap (take (m - k)) (sym (drop_of_take k m xs le)) ∙ take-take (m - k) (m - k) (drop k xs) (omega arith)

module _ {X : Type 0} {G : Ghosts X} {T A : Type 0} (view : T → A) (name : ℕ) (a began : Standing) (c : Rereading X G) (stayed : Stayed a began) (stands : Stands (G.state c.inner.now)) (passed : HasPassed c.failed began (G.state c.inner.now)) where
  abbrev now : Standing
  now = G.state c.inner.now

  read_same : (xs : List ℕ) (q : Reading A) (r : Result T DecodeFault) → a.ahead ≡ Some xs → InRegion (again_start name began) (rereading_state c) r → began.place ≤ c.place → Answers view (again_start name began) (rereading_state c) (take (room began) xs) q r → Answers view a now xs q r
  read_same xs (Ok x) (Ok t) e within later p =
      let good = told_so c.failed (drop c.from c.next) now (after (again_start name began) (rereading_state c) (take (room began) xs)) p.ahead in
      let place : now.place ≡ c.place = omega (arith, within.reach, later, c.reached) in
      let on : now.place - began.place ≡ now.place - a.place = omega (arith, stayed.place) in
      let there : now.ahead ≡ Some (after a now xs) = passed.told good ∙ ap (option_map (drop (now.place - began.place))) (stayed.ahead ∙ e) ∙ ap (λ (n : ℕ). Some (drop n xs)) on in
      let k : c.place - began.place ≡ now.place - a.place = omega (arith, place, stayed.place) in
      let left : room now ≡ room began - (now.place - a.place) = omega (arith, place, later, passed.within.region_end, stayed.place, stands.in_region) in
      let fits : now.place - a.place ≤ room began = omega (arith, place, later, passed.within.region_end, stayed.place, stands.in_region) in
      let mine : c.end - c.place ≡ room began - (now.place - a.place) = omega (arith, within.region_end, place, stayed.place, later) in
      let at : c.place - c.origin ≡ now.place - now.origin = omega (arith, place, within.origin, passed.within.origin) in
      let same : spot now (after a now xs) ≡ spot (rereading_state c) (after (again_start name began) (rereading_state c) (take (room began) xs)) =
      rw (at, mine, k, left) (ap (λ (l : List ℕ). record { at = now.place - now.origin; rest = l }) (sym (rest_spot (room began) (now.place - a.place) xs fits))) in
      record { value = p.value; ahead = there; spot = same ∙ p.spot }
  read_same xs (Ok x) (Err (Malformed at why)) e within later p = absurd p
  read_same xs (Ok x) (Err ReadFault) e within later p = tt
  read_same xs (Ok x) (Err OutOfMemory) e within later p = tt
  read_same xs (Err f) (Ok t) e within later p = absurd p
  read_same xs (Err f) (Err (Malformed at why)) e within later p = record { at = omega (arith, p.at, stayed.within.origin); why = p.why }
  read_same xs (Err f) (Err ReadFault) e within later p = tt
  read_same xs (Err f) (Err OutOfMemory) e within later p = tt

  told_same : (f : Order → Spot → Reading A) (r : Result T DecodeFault) → Decodes view f (again_start name began) (rereading_state c) r → (xs : List ℕ) → a.ahead ≡ Some xs → Answers view a now xs (f a.order (spot a xs)) r
  told_same f r d xs e =
      let read = d.told (take (room began) xs) (region_told a began xs stayed e) in
      let here : f began.order (spot (again_start name began) (take (room began) xs)) ≡ f a.order (spot a xs) = ap (λ (o : Order). f o (spot (again_start name began) (take (room began) xs))) stayed.within.order ∙ ap (f a.order) (region_spot name a began xs stayed) in
      read_same xs (f a.order (spot a xs)) r e d.within d.later (subst (λ (q : Reading A). Answers view (again_start name began) (rereading_state c) (take (room began) xs) q r) here read)

  later_now : a.place ≤ now.place
  later_now = omega (arith, stayed.place, passed.later)

  inside_now : StaysInside a now
  inside_now = λ h. omega (arith, stands.in_region, passed.within.region_end, stayed.within.region_end)

  pub read_back : (f : Order → Spot → Reading A) (r : Result T DecodeFault) → Decodes view f (again_start name began) (rereading_state c) r → Decodes view f a now r
  read_back f (Ok t) d = record { within = within_trans stayed.within passed.within passed.later; later = later_now; inside = inside_now; cause = tt; told = told_same f (Ok t) d }
  read_back f (Err (Malformed at why)) d = record { within = along_trans stayed.within.along passed.within.along; later = later_now; inside = inside_now; cause = tt; told = told_same f (Err (Malformed at why)) d }
  read_back f (Err ReadFault) d = record { within = along_trans stayed.within.along passed.within.along; later = later_now; inside = inside_now; cause = rose_more stayed.within.along.faults d.cause; told = told_same f (Err ReadFault) d }
  read_back f (Err OutOfMemory) d = record { within = along_trans stayed.within.along passed.within.along; later = later_now; inside = inside_now; cause = tt; told = told_same f (Err OutOfMemory) d }

-- What was read with a cursor over another one was read with that one, which the reference leaves behind that the cursor keeps.
pub back : {X : Type 0} {G : Ghosts X} {T A : Type 0} (view : T → A) (f : Order → Spot → Reading A) (name : ℕ) (a began : Standing) (c : Rereading X G) (r : Result T DecodeFault) (last : X) → (name ≡ c.inner.ghost_name → last ≡ c.inner.now) → Stayed a began → Stands (G.state c.inner.now)
    → Decodes view f (again_start name began) (rereading_state c) r → Decodes view f a (G.state last) r
back {X} {G} view f name a began c r last ends stayed stands d =
    let same = still {X = X} {G = G} name began c r d in
    let there : last ≡ c.inner.now = ends (sym same.0) in
    subst (λ (x : X). Decodes view f a (G.state x) r) (sym there)
    (read_back {X = X} {G = G} view name a began c stayed stands (subst (λ (s : Standing). HasPassed c.failed s (G.state c.inner.now)) same.1 c.passed) f r d)
