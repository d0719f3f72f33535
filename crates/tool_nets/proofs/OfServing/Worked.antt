-- What the doors of workers held, and that one of them failed.
use Rattle.std.proofs.Common.{◌≡◌, ℕ, ◌<◌, suc, List, [], ◌∷◌, ◌++◌, ◌||◌, Bool, true, false, nat_lt, map, reverse, length, None, Some, Ok, Err, inl, inr, refl, sym, ap, ◌∙◌, subst, arith}
use Rattle.std.specs.Prelude.{All, Option, Result, OnOk}
use Rattle.std.specs.List.{list_any}
use Rattle.std.proofs.lemmas.Bool.{lt-ltb}
use Rattle.std.proofs.lemmas.List.{length-map, length-reverse}
use Rattle.std.proofs.lemmas.List.Elements.{All-nil, All-cons, All-head, All-tail, All-map, All-weaker}
use Rattle.xt_io.specs.Outside.{Rose}
use Rattle.xt_io.specs.Links.{Held, IsToldEmpty, IsHeldBy, any_fault}
use Rattle.type_object.specs.Pools.{Texts}
use Rattle.type_registry.specs.Passed.{PassView}
use Rattle.lookup_service.specs.chains.Chains.{Chain}
use Rattle.lookup_service.specs.declared.workers.faults.ServeFault.{ServeFault}
use Rattle.lookup_service.specs.declared.workers.faults.ServeFault.TheVariants.{DoorFault, OutOfMemory}
use Rattle.lookup_service.specs.workers.Outcomes.{Answer, both_of, AllWorked, AnyTwo, without_count}
use Rattle.lookup_service.specs.workers.Served.{IsServed, SeatServed}
use Rattle.tool_nets.specs.serving.Serving.{DoorsHeld}
use Rattle.tool_nets.specs.serving.Seats.{AreHeld, Knows, TellsHeld}
use Rattle.tool_nets.proofs.OfServing.Seated.{Ready}
use Rattle.tool_nets.proofs.OfServing.Reversed.{all_reverse, all_behind_map, any_map, any_reverse}

-- ---- one door

none_told : (before : Option (List Held)) (old : List Held) → IsToldEmpty before → before ≡ Some old → old ≡ []
none_told None old empty is = absurd cc
none_told (Some all) old empty is = let same : all ≡ old = cc in sym same ∙ empty

-- all that a new door has got is the sessions of all turns
tells_held : (name : List ℕ → List ℕ) (registry : List ℕ) (pool : Texts) (turns : ℕ) (first last : PassView) (before now : Option (List Held)) → Knows name registry pool first → IsToldEmpty before → IsServed name true turns first last before now → TellsHeld name pool turns now
tells_held name registry pool turns first last before None knows empty is = tt
tells_held name registry pool turns first last before (Some all) knows empty is =
    let none : is.old ≡ [] = none_told before is.old empty is.was in
    let same : all ≡ is.entries = is.now ∙ ap (λ l. l ++ is.entries) none in
    record {
      count = ap length same ∙ is.count;
      first = first;
      last = last;
      sound = knows.sound;
      has_pool = knows.has_pool;
      chain = subst (λ (l : List Held). Chain name true first l last) (sym same) is.chain;
    }

-- ---- all seats

both_well : (one others : Answer) → both_of one others ≡ Ok tt → (one ≡ Ok tt) × (others ≡ Ok tt)
both_well (Ok tt) others e = (refl, e)
both_well (Err DoorFault) others e = absurd cc
both_well (Err OutOfMemory) (Ok tt) e = absurd cc
both_well (Err OutOfMemory) (Err fault) e = absurd cc

-- where all went well, this holds of each that is left
worked_well : {S : Type 0} (P : S → S → Answer → Type 0) (Q R : S → Type 0) (xs ys : List S) (a : Answer) → ((x y : S) → Q x → P x y (Ok tt) → R y) → AllWorked P xs ys a → a ≡ Ok tt → All Q xs → (length ys ≡ length xs) × All R ys
worked_well P Q R [] [] a f s e q = (refl, All-nil R)
worked_well P Q R [] (y ∷ ys) a f s e q = absurd s
worked_well P Q R (x ∷ xs) [] a f s e q = absurd s
worked_well P Q R (x ∷ xs) (y ∷ ys) a f s e q =
    let well = both_well s.0 s.1 (sym s.4 ∙ e) in
    let rest = worked_well P Q R xs ys s.1 f s.3 well.1 (All-tail Q x xs q) in
    (ap suc rest.0, All-cons R y ys (f x y (All-head Q x xs q) (subst (P x y) well.0 s.2)) rest.1)

-- where a count rose that was 0, one is above 0
any_above : {S : Type 0} (faults : S → ℕ) (xs ys : List S) → All (λ x. faults x ≡ 0) xs → AnyTwo (λ old new. Rose (faults old) (faults new)) xs ys → list_any (λ y. nat_lt 0 (faults y)) ys ≡ true
any_above faults [] ys q s = absurd s
any_above faults (x ∷ xs) [] q s = absurd s
any_above faults (x ∷ xs) (y ∷ ys) q (inl rose) =
    let none = All-head (λ x. faults x ≡ 0) x xs q in
    let above : 0 < faults y = omega (arith, rose, none) in
    ap (λ (b : Bool). b || list_any (λ y. nat_lt 0 (faults y)) ys) (lt-ltb 0 (faults y) above)
any_above faults (x ∷ xs) (y ∷ ys) q (inr others) =
    let rest = any_above faults xs ys (All-tail (λ x. faults x ≡ 0) x xs q) others in
    by (nat_lt 0 (faults y)) (list_any (λ y. nat_lt 0 (faults y)) ys) rest
  where
    by : (a b : Bool) → b ≡ true → a || b ≡ true
    by true b e = refl
    by false b e = e

module _ {D P : Type 0} (name : List ℕ → List ℕ) (registry : List ℕ) (pool : Texts) (turns : ℕ) (held : D → Option (List Held)) (faults : D → ℕ) (out : D → Bool) (door : P → D) (pass : P → PassView) where
  abbrev Seat : P → Type 0
  Seat = Ready name registry pool held faults out door pass

  abbrev Left : P → P → Answer → Type 0
  Left = SeatServed name held faults out door pass turns

  -- the doors of the seats, backwards
  doors_held : (workers : ℕ) (first last : List P) (doors : List D) (a : Answer) → length first ≡ workers → All Seat first → AllWorked Left first last a → a ≡ Ok tt → map door last ≡ reverse doors → AreHeld name pool workers turns (map held doors)
  doors_held workers first last doors a many ready s well back =
      let Tells : D → Type 0 = λ d. TellsHeld name pool turns (held d) in
      let worked = worked_well Left Seat (λ seat. Tells (door seat)) first last a (λ x y is left. tells_held name registry pool turns (pass x) (pass y) (held (door x)) (held (door y)) is.knows is.new_door.held_none left.served) s well ready in
      let each : All Tells (reverse doors) = subst (All Tells) back (All-map Tells door last worked.1) in
      let count : length doors ≡ workers = sym (length-reverse doors) ∙ ap length (sym back) ∙ length-map last door ∙ worked.0 ∙ many in
      (length-map doors held ∙ count, All-map (TellsHeld name pool turns) held doors (all_reverse Tells doors each))

  pub doors_failed : (first last : List P) (doors : List D) → All Seat first → AnyTwo (λ old new. Rose (faults (door old)) (faults (door new))) first last → map door last ≡ reverse doors → any_fault (map faults doors) ≡ true
  doors_failed first last doors ready rose back =
      let none = All-weaker Seat (λ seat. faults (door seat) ≡ 0) (λ seat is. is.new_door.good) first ready in
      let above : D → Bool = λ d. nat_lt 0 (faults d) in
      any_map (λ n. nat_lt 0 n) faults doors ∙ sym (any_reverse above doors) ∙ ap (list_any above) (sym back) ∙ any_map above door last ∙ any_above (λ seat. faults (door seat)) first last none rose

  -- the same by what the workers answered together
  pub held_if : (workers : ℕ) (first last : List P) (doors : List D) (served : Result ℕ ServeFault) → length first ≡ workers → All Seat first → AllWorked Left first last (without_count served) → map door last ≡ reverse doors → OnOk served (AreHeld name pool workers turns (map held doors))
  held_if workers first last doors (Ok n) many ready s back = doors_held workers first last doors (Ok tt) many ready s refl back
  held_if workers first last doors (Err fault) many ready s back = tt

-- ---- the net

-- where the net tells what its doors held
net_held : (name : List ℕ → List ℕ) (pool : Texts) (workers turns : ℕ) (told : Option (List (List Held))) (doors : List (Option (List Held))) → IsHeldBy told doors → AreHeld name pool workers turns doors → DoorsHeld name pool workers turns told
net_held name pool workers turns None doors is are = tt
net_held name pool workers turns (Some all) doors is are = (
  sym (length-map all (λ (h : List Held). Some h)) ∙ ap length (sym is) ∙ are.0,
  all_behind_map (TellsHeld name pool turns) (λ (h : List Held). Some h) all (subst (All (TellsHeld name pool turns)) is are.1),
)

-- the same by what came of serving at so many doors
pub net_held_if : (name : List ℕ → List ℕ) (pool : Texts) (workers turns many : ℕ) (served : Result ℕ ServeFault) (count : ℕ) (told : Option (List (List Held))) (doors : List (Option (List Held))) → served ≡ Ok count → many ≡ workers → OnOk served (AreHeld name pool many turns doors) → IsHeldBy told doors
    → DoorsHeld name pool workers turns told
net_held_if name pool workers turns many served count told doors well same are is =
    let these : AreHeld name pool many turns doors = subst (λ (r : Result ℕ ServeFault). OnOk r (AreHeld name pool many turns doors)) well are in
    net_held name pool workers turns told doors is (subst (λ (n : ℕ). AreHeld name pool n turns doors) same these)
