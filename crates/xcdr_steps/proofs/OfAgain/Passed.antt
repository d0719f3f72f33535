-- A cursor over another one goes on, or peeks.
use Rattle.std.proofs.Common.{◌≡◌, refl, sym, ap, ◌∙◌, subst, ℕ, ◌+◌, ◌-◌, ◌≤◌, Bool, true, false, List, [], ◌++◌, length, take, drop, Some, None, Ok, Err, Result, OnOk, IfSome, arith, append_assoc, append-nil, length-append, length-drop, length-take-le, take_all, drop_of_length-le}
use Rattle.std.proofs.lemmas.List.{take-append-le, take-take}
use Rattle.std.proofs.Math.Seq.{take-add, take-append-add}
use Rattle.std.specs.declared.option.Option.{Option}
use Rattle.std.specs.Option.{option_map}
use Rattle.xt_shapes.specs.declared.leaves.Order.{Order}
use Rattle.xt_wire.specs.cursor.Standing.{Standing, Moved, room}
use Rattle.xt_wire.proofs.OfCursor.Ahead.{drop_of_take}
use Rattle.xcdr_steps.specs.again.Peeking.{Peeked}
use Rattle.xcdr_steps.specs.again.Rereading.{ahead_over, over}

-- ---- the octets ahead

region_on : (n m : ℕ) (o p : Option (List ℕ)) → n ≤ m → p ≡ option_map (drop n) o → option_map (take (m - n)) p ≡ option_map (drop n) (option_map (take m) o)
region_on n m None p le e = ap (option_map (take (m - n))) e
region_on n m (Some xs) p le e = ap (option_map (take (m - n))) e ∙ ap (λ (l : List ℕ). Some l) (drop_of_take n m xs le)

ahead_on : (failed : Bool) (n : ℕ) (a b : Standing) → Moved n a b → ahead_over failed [] b ≡ option_map (drop n) (ahead_over failed [] a)
ahead_on true n a b m = refl
ahead_on false n a b m =
    let less : room b ≡ room a - n = omega (arith, m.place, m.within.region_end) in
    ap (λ (k : ℕ). option_map (take k) b.ahead) less ∙ region_on n (room a) a.ahead b.ahead m.fits m.ahead

-- ---- on

-- the other cursor went on, and nothing was held
pub moved_over : (name : ℕ) (failed : Bool) (held : List ℕ) (place end origin : ℕ) (order : Order) {n : ℕ} {a b : Standing} → held ≡ [] → Moved n a b → place ≡ a.place → place + n ≤ end → end ≤ a.region_end
    → Moved n (over name failed held place end origin order a) (over name failed held (place + n) end origin order b)
moved_over name failed held place end origin order {n} {a} {b} none m at fits within = rw none (record {
  within = record { along = record { whole = m.within.region_end; name = refl; faults = m.within.along.faults }; region_end = refl; origin = refl; order = refl; reach = omega (arith, m.place, at) };
  fits = omega arith;
  place = refl;
  ahead = ahead_on failed n a b m;
})

-- ---- octets that were held, and others that were read behind them

advanced_some : (k : ℕ) (into ins xs : List ℕ) → k ≤ length into → take k into ≡ take k xs → ins ≡ take (length ins) (drop k xs) → take k into ++ ins ≡ take (length (take k into ++ ins)) xs
advanced_some k into ins xs le p q =
    let all : length (take k into ++ ins) ≡ k + length ins = omega (arith, length-append (take k into) ins, length-take-le k into le) in
    rw all (ap (λ l. l ++ ins) p ∙ ap (λ l. take k xs ++ l) q ∙ sym (take-add k (length ins) xs))

pub advanced : (k : ℕ) (o o' : Option (List ℕ)) (into ins post : List ℕ) → k ≤ length into → post ≡ [] → o' ≡ option_map (drop k) o → IfSome o (λ xs. take k into ≡ take k xs) → IfSome o' (λ xs. ins ≡ take (length ins) xs)
    → IfSome o (λ xs. take k into ++ (ins ++ post) ≡ take (length (take k into ++ (ins ++ post))) xs)
advanced k None o' into ins post le none e p q = tt
advanced k (Some xs) o' into ins post le none e p q =
    rw (none, append-nil ins) (advanced_some k into ins xs le p (let there = subst (λ (o : Option (List ℕ)). IfSome o (λ ys. ins ≡ take (length ins) ys)) e q in there))

pub nothing_after : (k : ℕ) (xs : List ℕ) → k ≤ length xs → drop (length xs - k) (drop k xs) ≡ []
nothing_after k xs le = drop_of_length-le (drop k xs) (omega (arith, length-drop k xs))

pub on_both : {T F : Type 0} {A B C : Type 0} (r : Result T F) → (A → B → C) → OnOk r A → OnOk r B → OnOk r C
on_both (Ok x) f p q = f p q
on_both (Err e) f p q = tt

-- ---- a peek

-- the octets that are held, and those that were read behind them
peek_ahead : (n m : ℕ) (held ins : List ℕ) (o p : Option (List ℕ)) → n ≤ m → p ≡ option_map (drop n) o → IfSome o (λ xs. ins ≡ take n xs) → option_map (λ xs. (held ++ ins) ++ take (m - n) xs) p ≡ option_map (λ xs. held ++ take m xs) o
peek_ahead n m held ins None p le e g = ap (option_map (λ xs. (held ++ ins) ++ take (m - n) xs)) e
peek_ahead n m held ins (Some xs) p le e g =
    let all : n + (m - n) ≡ m = omega arith in
    ap (option_map (λ xs. (held ++ ins) ++ take (m - n) xs)) e
    ∙ ap (λ (l : List ℕ). Some l) (append_assoc held ins (take (m - n) (drop n xs)) ∙ ap (λ l. held ++ l) (ap (λ l. l ++ take (m - n) (drop n xs)) g ∙ sym (take-add n (m - n) xs) ∙ ap (λ (k : ℕ). take k xs) all))

peek_told : (n m : ℕ) (held ins : List ℕ) (o : Option (List ℕ)) → n ≤ m → length held + n ≡ 4 → IfSome o (λ xs. ins ≡ take n xs) → IfSome (option_map (λ xs. held ++ take m xs) o) (λ xs. held ++ ins ≡ take 4 xs)
peek_told n m held ins None le four g = tt
peek_told n m held ins (Some xs) le four g =
    ap (λ l. held ++ l) (g ∙ sym (take-take n m xs le)) ∙ sym (take-append-add held (take m xs) n) ∙ ap (λ (k : ℕ). take k (held ++ take m xs)) four

-- the octets that are held then, where those that were held are copied to the front
pub next_is : (k : ℕ) (held copy zeros ins : List ℕ) → copy ≡ take k held → length held ≡ k → length zeros ≡ 4 → k ≤ 4 → take k (copy ++ drop k zeros) ++ (ins ++ drop (4 - k) (drop k (copy ++ drop k zeros))) ≡ held ++ ins
next_is k held copy zeros ins is len four le =
    let same : copy ≡ held = is ∙ take_all k held (omega (arith, len)) in
    let long : length copy ≡ k = ap length same ∙ len in
    let front : take k (copy ++ drop k zeros) ≡ copy = take-append-le k copy (drop k zeros) (omega (arith, long)) ∙ take_all k copy (omega (arith, long)) in
    let none : drop (4 - k) (drop k (copy ++ drop k zeros)) ≡ [] = drop_of_length-le (drop k (copy ++ drop k zeros)) (omega (arith, length-drop k (copy ++ drop k zeros), length-append copy (drop k zeros), length-drop k zeros, long, four)) in
    rw (front, none, append-nil ins) (ap (λ l. l ++ ins) same)

held_ahead : (failed : Bool) (held ins : List ℕ) (a b : Standing) → Moved (length ins) a b → IfSome a.ahead (λ xs. ins ≡ take (length ins) xs) → ahead_over failed (held ++ ins) b ≡ ahead_over failed held a
held_ahead true held ins a b m g = refl
held_ahead false held ins a b m g =
    let less : room b ≡ room a - length ins = omega (arith, m.place, m.within.region_end) in
    ap (λ (k : ℕ). option_map (λ xs. (held ++ ins) ++ take k xs) b.ahead) less ∙ peek_ahead (length ins) (room a) held ins a.ahead b.ahead m.fits m.ahead g

held_told : (failed : Bool) (held ins : List ℕ) (a : Standing) → length ins ≤ room a → length held + length ins ≡ 4 → IfSome a.ahead (λ xs. ins ≡ take (length ins) xs) → IfSome (ahead_over failed held a) (λ xs. held ++ ins ≡ take 4 xs)
held_told true held ins a fits four g = tt
held_told false held ins a fits four g = peek_told (length ins) (room a) held ins a.ahead fits four g

pub peeked_over : (name : ℕ) (failed : Bool) (held ins next : List ℕ) (place end origin : ℕ) (order : Order) {a b : Standing} → next ≡ held ++ ins → length held + length ins ≡ 4 → Moved (length ins) a b → IfSome a.ahead (λ xs. ins ≡ take (length ins) xs)
    → place + length held ≡ a.place → 4 ≤ end - place → end ≤ a.region_end → Peeked (over name failed held place end origin order a) (over name failed next place end origin order b) next
peeked_over name failed held ins next place end origin order {a} {b} is four m g at fits within = rw is (record {
  fits = fits;
  stayed = record {
    within = record { along = record { whole = m.within.region_end; name = refl; faults = m.within.along.faults }; region_end = refl; origin = refl; order = refl; reach = omega arith };
    place = refl;
    ahead = held_ahead failed held ins a b m g;
  };
  held = omega (arith, m.place, at, four);
  told = held_told failed held ins a m.fits four g;
})
