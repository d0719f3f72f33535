-- From the front of the octets to a step through the bundle.
use Rattle.std.proofs.Common.{◌≡◌, ℕ, suc, ◌+◌, ◌-◌, ◌≤◌, ◌<◌, List, [], ◌∷◌, ◌++◌, None, Some, Ok, Err, Result, refl, sym, ap, ◌∙◌, subst, length, take, drop, arith, length-append, take_all}
use Rattle.std.proofs.lemmas.List.{length-take}
use Rattle.std.proofs.Math.Seq.{take-append-add, drop-append-add}
use Rattle.std.proofs.lemmas.Grind.{common_steps}
use Rattle.std.specs.Option.{option_map}
use Rattle.std.specs.declared.option.Option.{Option}
use Rattle.std.specs.Io.KnownBytes.{Consumes, IsAtEnd}
use Rattle.xt_outside.specs.declared.records.Head.{Head}
use Rattle.xt_io.specs.declared.bundle.Pending.{Pending}
use Rattle.xt_outside.specs.declared.records.RecordFault.{RecordFault}
use Rattle.xt_outside.specs.declared.records.RecordFault.TheVariants.{ReadFault, Truncated, UnknownKind, TooLong, TooMany, OutOfMemory}
use Rattle.xt_outside.specs.Outside.{TakesUpTo, KeepsTold}
use Rattle.xt_outside.specs.Bundles.{Bundle, bundle, cut, front, item_of, before_bundle, with_payload, bundle_of_front, bundle_from, after_head, none_may_follow}
use Rattle.xt_io.specs.Fronts.{IsBroken, ReadsFront}
use Rattle.xt_io.specs.Readers.{EndsBundle, Ends, Steps, TakesFirst, IsTold, StepsToHead, PassesPending, CutsPayload, rest_of, behind_payload, to_come, first_fault}

-- a new reader has the bundle to come
pub new-records : (a : Option (List ℕ)) → option_map (behind_payload None 1048576 0) a ≡ option_map bundle a
unfolding behind_payload
new-records None = refl
new-records (Some x) = refl

-- the payload was passed over
pub passed-behind : (pending : Option Pending) (more at : ℕ) (a b : Option (List ℕ)) → PassesPending pending a b
    → KeepsTold (option_map (behind_payload pending more at) a) (option_map (behind_payload None more at) b)
unfolding behind_payload
passed-behind pending more at None b p = tt
passed-behind None more at (Some x) b p = ap (option_map (bundle_from more at)) p
passed-behind (Some q) more at (Some x) b p = rw p.1 (grind (arith, common_steps, p.0))

-- the payload was read
pub read-behind : (pending : Option Pending) (more at : ℕ) (a b : Option (List ℕ)) (text : List ℕ) → TakesUpTo (rest_of pending) a b text → length text ≡ rest_of pending
    → KeepsTold (option_map (behind_payload pending more at) a) (option_map (behind_payload None more at) b)
unfolding behind_payload
read-behind pending more at None b text p e = tt
read-behind None more at (Some x) b text p e = ap (option_map (bundle_from more at)) p.1
read-behind (Some q) more at (Some x) b text p e =
    let long : q.rest ≤ length x = omega (arith, ap length p.0, length-take q.rest x) in
    rw p.1 (grind (arith, common_steps, long))

-- the input ended inside the payload
pub cut-ends : (pending : Option Pending) (more at : ℕ) (a : Option (List ℕ)) (fault : RecordFault) → CutsPayload pending a fault
    → Ends fault (option_map (behind_payload pending more at) a)
unfolding behind_payload
cut-ends pending more at None fault p = tt
cut-ends None more at (Some x) fault p = absurd p
cut-ends (Some q) more at (Some x) ReadFault p = tt
cut-ends (Some q) more at (Some x) OutOfMemory p = tt
cut-ends (Some q) more at (Some x) (Truncated o kind) p = rw (p.0, p.1) (grind (arith, common_steps, p.2))
cut-ends (Some q) more at (Some x) (UnknownKind o octet) p = absurd p
cut-ends (Some q) more at (Some x) (TooLong o kind n) p = absurd p
cut-ends (Some q) more at (Some x) (TooMany o) p = absurd p

-- no record may follow, and none does
pub steps_end : (at : ℕ) (o a b : Option (List ℕ)) (into : List ℕ) (n : ℕ) → TakesUpTo (length into) a b (take n into) → length into ≡ 1 → n < 1
    → StepsToHead (option_map (behind_payload None 0 at) a) (Ok None) o (option_map (behind_payload None 0 at) b)
unfolding bundle_from behind_payload
steps_end at o None b into n p one lt = tt
steps_end at o (Some []) b into n p one lt =
    let left : b ≡ Some [] = p.1 ∙ ap (λ k. Some (drop k [])) one in
    (refl, ap (option_map (none_may_follow at)) left)
steps_end at o (Some (x ∷ xs)) b into n p one lt =
    absurd (omega (arith, ap length p.0, length-take n into, length-take (length into) (x ∷ xs)))

-- no record may follow, and one does
pub steps_too_many : (at : ℕ) (o a b : Option (List ℕ)) (into : List ℕ) (n : ℕ) (after : Option Bundle) → TakesUpTo (length into) a b (take n into) → length into ≡ 1 → 1 ≤ n
    → StepsToHead (option_map (behind_payload None 0 at) a) (Err (TooMany at)) o after
unfolding bundle_from behind_payload
steps_too_many at o None b into n after p one le = tt
steps_too_many at o (Some []) b into n after p one le =
    absurd (omega (arith, ap length p.0, length-take n into, length-take {A = ℕ} (length into) []))
steps_too_many at o (Some (x ∷ xs)) b into n after p one le = refl

behind : ℕ → ℕ → Head → List ℕ → Bundle
behind more at head rest = with_payload head rest (bundle_from more (after_head at head) (drop head.length rest))

pub steps_none : (more at : ℕ) (o a b : Option (List ℕ)) → ReadsFront (front at) a (Ok None) b
    → StepsToHead (option_map (behind_payload None (suc more) at) a) (Ok None) o (option_map (behind_payload None (suc more) at) b)
unfolding bundle_from behind_payload front behind
steps_none more at o None b p = tt
steps_none more at o (Some x) b p = (ap (bundle_of_front (behind more at)) p.0, ap (option_map (bundle_from (suc more) at)) p.1)

with_payload-front : (head : Head) (x : List ℕ) (more at : ℕ)
    → with_payload head x (bundle_from more at (drop head.length x)) ≡ with_payload head (take head.length x) (behind_payload (Some (record { head = head; rest = head.length })) more at x)
unfolding with_payload behind_payload
with_payload-front head x more at = grind (arith, common_steps)

pub steps_some : (n more at : ℕ) (head : Head) (a b : Option (List ℕ)) → n ≡ suc more → ReadsFront (front at) a (Ok (Some head)) b
    → StepsToHead (option_map (behind_payload None n at) a) (Ok (Some head)) (option_map (take head.length) b) (option_map (behind_payload (Some (record { head = head; rest = head.length })) more (after_head at head)) b)
unfolding bundle_from behind_payload behind
steps_some n more at head None b e p = tt
steps_some n more at head (Some x) None e p = absurd p
steps_some n more at head (Some x) (Some y) e p = rw e (ap (bundle_of_front (behind more at)) p ∙ with_payload-front head y more (after_head at head))

broken_ends : (more at : ℕ) (x : List ℕ) (e : RecordFault) → IsBroken (front at x) e → EndsBundle e (behind_payload None (suc more) at x)
unfolding bundle_from behind_payload behind
broken_ends more at x ReadFault p = tt
broken_ends more at x OutOfMemory p = tt
broken_ends more at x (Truncated o kind) p = ap (bundle_of_front (behind more at)) p
broken_ends more at x (UnknownKind o octet) p = ap (bundle_of_front (behind more at)) p
broken_ends more at x (TooLong o kind n) p = ap (bundle_of_front (behind more at)) p
broken_ends more at x (TooMany o) p = ap (bundle_of_front (behind more at)) p

pub steps_err : (more at : ℕ) (e : RecordFault) (o a b : Option (List ℕ)) (after : Option Bundle) → ReadsFront (front at) a (Err e) b
    → StepsToHead (option_map (behind_payload None (suc more) at) a) (Err e) o after
steps_err more at e o None b after p = tt
steps_err more at e o (Some x) b after p = broken_ends more at x e p

-- a step behind the payload that was passed over
pub steps_behind : (a b : Option Bundle) (result : Result (Option Head) RecordFault) (o : Option (List ℕ)) (after : Option Bundle) → KeepsTold a b → StepsToHead b result o after → StepsToHead a result o after
steps_behind None b result o after k s = tt
steps_behind (Some x) b result o after k s = let moved = subst (λ (t : Option Bundle). StepsToHead t result o after) k s in moved

pub steps_cut : (a : Option Bundle) (fault : RecordFault) (o : Option (List ℕ)) (after : Option Bundle) → Ends fault a → StepsToHead a (Err fault) o after
steps_cut None fault o after p = tt
steps_cut (Some x) fault o after p = p

-- ---- reads of the payload

take-nil : (n : ℕ) → take {A = ℕ} n [] ≡ []
take-nil n = take_all n [] (omega arith)

pub inside-consumes : (n rest : ℕ) (a b : Option (List ℕ)) (bs : List ℕ) → Consumes a b bs → length bs ≡ n → n ≤ rest → Consumes (option_map (take rest) a) (option_map (take (rest - n)) b) bs
inside-consumes n rest None b bs p e le = tt
inside-consumes n rest (Some x) None bs p e le = absurd p
inside-consumes n rest (Some x) (Some y) bs p e le =
    let split : rest ≡ length bs + (rest - n) = omega arith in
    ap (take rest) p ∙ ap (λ k. take k (bs ++ y)) split ∙ take-append-add bs y (rest - n)

pub inside-ends : (rest : ℕ) (a b : Option (List ℕ)) → Consumes a b [] → IsAtEnd b → (Consumes (option_map (take rest) a) (option_map (take 0) b) []) × IsAtEnd (option_map (take 0) b)
inside-ends rest None None p e = (tt, tt)
inside-ends rest None (Some y) p e = (tt, refl)
inside-ends rest (Some x) None p e = absurd p
inside-ends rest (Some x) (Some y) p e = let none : x ≡ [] = p ∙ e in (ap (take rest) none ∙ take-nil rest, refl)

pub behind-consumes : (fault : Option RecordFault) (head : Head) (n rest more at : ℕ) (a b : Option (List ℕ)) (bs : List ℕ) → Consumes a b bs → length bs ≡ n → n ≤ rest
    → KeepsTold (to_come fault (Some (record { head = head; rest = rest })) more at a) (to_come fault (Some (record { head = head; rest = rest - n })) more at b)
unfolding behind_payload
behind-consumes (Some f) head n rest more at a b bs p e le = refl
behind-consumes None head n rest more at None b bs p e le = tt
behind-consumes None head n rest more at (Some x) None bs p e le = absurd p
behind-consumes None head n rest more at (Some x) (Some y) bs p e le =
    let split : rest ≡ length bs + (rest - n) = omega arith in
    let len : length x ≡ n + length y = ap length p ∙ length-append bs y ∙ ap (λ k. k + length y) e in
    let dropped : drop rest x ≡ drop (rest - n) y = ap (drop rest) p ∙ ap (λ k. drop k (bs ++ y)) split ∙ drop-append-add bs y (rest - n) in
    rw dropped (grind (arith, common_steps, len))

pub behind-ends : (fault : Option RecordFault) (head : Head) (rest more at : ℕ) (a b : Option (List ℕ)) → Consumes a b [] → IsAtEnd b → 0 < rest
    → KeepsTold (to_come fault (Some (record { head = head; rest = rest })) more at a) (to_come (first_fault fault (Truncated head.at head.kind)) None more at b)
unfolding behind_payload
behind-ends (Some f) head rest more at a b p e lt = refl
behind-ends None head rest more at None b p e lt = tt
behind-ends None head rest more at (Some x) None p e lt = absurd p
behind-ends None head rest more at (Some x) (Some y) p e lt = let none : x ≡ [] = p ∙ e in rw none (grind (arith, common_steps, lt))

-- ---- a record whose payload is read at once

unfolding-payload : (head : Head) (octets : List ℕ) (after : Bundle) → head.length ≤ length octets → length octets ≡ head.length → with_payload head octets after ≡ before_bundle (item_of head octets) after
unfolding with_payload
unfolding-payload head octets after le e =
    let all : take head.length octets ≡ octets = take_all head.length octets (omega arith) in
    rw all (grind (arith, common_steps))

short-payload : (head : Head) (octets : List ℕ) (after : Bundle) → length octets < head.length → with_payload head octets after ≡ cut head
unfolding with_payload
short-payload head octets after lt = grind (arith, common_steps)

pub steps-item : (head : Head) (text : List ℕ) (before middle after : Option Bundle) (inner : Option (List ℕ))
    → StepsToHead before (Ok (Some head)) inner middle → IsTold inner text → length text ≡ head.length → KeepsTold middle after → Steps before (Ok (Some (item_of head text))) after
steps-item head text None middle after inner s t e k = tt
steps-item head text (Some x) middle after None s t e k = absurd s
steps-item head text (Some x) None after (Some i) s t e k = absurd s
steps-item head text (Some x) (Some m) after (Some i) s t e k =
    let same : after ≡ Some m = k in
    let first : TakesFirst x (item_of head text) (Some m) = s ∙ ap (λ o. with_payload head o m) (sym t) ∙ unfolding-payload head text m (omega arith) e in
    subst (λ o. TakesFirst x (item_of head text) o) (sym same) first

pub steps-cut-item : (head : Head) (before middle after : Option Bundle) (left : Option (List ℕ)) (fault : RecordFault)
    → StepsToHead before (Ok (Some head)) (option_map (take head.length) left) middle → CutsPayload (Some (record { head = head; rest = head.length })) left fault → Steps before (Err fault) after
steps-cut-item head None middle after left fault s p = tt
steps-cut-item head (Some x) middle after None fault s p = absurd s
steps-cut-item head (Some x) None after (Some l) fault s p = absurd s
steps-cut-item head (Some x) (Some m) after (Some l) ReadFault s p = tt
steps-cut-item head (Some x) (Some m) after (Some l) OutOfMemory s p = tt
steps-cut-item head (Some x) (Some m) after (Some l) (Truncated at kind) s p =
    let short : length (take head.length l) < head.length = omega (arith, p.2, length-take head.length l) in
    rw (p.0, p.1) (s ∙ short-payload head (take head.length l) m short)
steps-cut-item head (Some x) (Some m) after (Some l) (UnknownKind at octet) s p = absurd p
steps-cut-item head (Some x) (Some m) after (Some l) (TooLong at kind n) s p = absurd p
steps-cut-item head (Some x) (Some m) after (Some l) (TooMany at) s p = absurd p
