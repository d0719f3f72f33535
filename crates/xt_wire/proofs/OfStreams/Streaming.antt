-- Reading on in a payload.
use Rattle.std.proofs.Common.{◌≡◌, ℕ, ◌+◌, ◌-◌, ◌≤◌, List, [], ◌∷◌, ◌++◌, length, take, drop, refl, sym, ap, ◌∙◌, subst, arith, length-append, length-drop, length-take-le, Some, None, IfSome, Bool, true, false, ◌==◌, ◌<◌, ◌⊎◌, eqb-true, inl, inr, if◌then◌else◌}
use Rattle.std.proofs.lemmas.List.{drop_at, drop-drop, take-append-le}
use Rattle.std.proofs.Math.Seq.{take-add, take-append-add}
use Rattle.std.specs.Io.KnownBytes.{Consumes, Keeps, IsAtEnd}
use Rattle.std.specs.declared.option.Option.{Option}
use Rattle.xt_outside.specs.Outside.{KeepsTold, Rose}
use Rattle.xt_outside.specs.declared.records.Head.{Head}
use Rattle.xt_outside.specs.declared.records.RecordFault.{RecordFault}
use Rattle.xt_outside.specs.declared.records.RecordFault.TheVariants.{ReadFault, Truncated}
use Rattle.xt_io.specs.declared.bundle.Pending.{Pending}
use Rattle.xt_io.specs.Readers.{Reading, ReadsOn, inside, first_fault}
use Rattle.xt_io.proofs.Reading.{told-trans}
use Rattle.xt_wire.specs.streams.Streams.{Streaming, IsRead, IsRest, IsMet, IsShortOf, IsAlong, AreNext, all_of, payload_of}

-- what is left of the octets, n octets on
left_on : (k n : ℕ) (o a b : Option (List ℕ)) (bs : List ℕ) → IfSome o (λ xs. a ≡ Some (drop k xs)) → Consumes a b bs → length bs ≡ n → IfSome o (λ xs. b ≡ Some (drop (k + n) xs))
left_on k n None a b bs left read e = tt
left_on k n (Some xs) None b bs left read e = absurd cc
left_on k n (Some xs) (Some ys) None bs left read e = absurd read
left_on k n (Some xs) (Some ys) (Some zs) bs left read e =
    let same : zs ≡ drop n ys = sym (ap (drop n) read ∙ drop_at bs zs n e) in
    let back : Some ys ≡ Some (drop k xs) = left in
    let from : ys ≡ drop k xs = cc in
    ap (λ l. Some l) (same ∙ ap (drop n) from ∙ drop-drop n k xs ∙ ap (λ (j : ℕ). drop j xs) (omega arith))

-- the same, with those that were read
enough_on : (k n : ℕ) (o a b : Option (List ℕ)) (bs : List ℕ) → IfSome o (λ xs. (a ≡ Some (drop k xs)) × (k ≤ length xs)) → Consumes a b bs → length bs ≡ n → IfSome o (λ xs. (b ≡ Some (drop (k + n) xs)) × (k + n ≤ length xs))
enough_on k n None a b bs left read e = tt
enough_on k n (Some xs) None b bs left read e = absurd (let none : None ≡ Some (drop k xs) = left.0 in cc)
enough_on k n (Some xs) (Some ys) None bs left read e = absurd read
enough_on k n (Some xs) (Some ys) (Some zs) bs left read e =
    let back : Some ys ≡ Some (drop k xs) = left.0 in
    let from : ys ≡ drop k xs = cc in
    let within : k ≤ length xs = left.1 in
    (left_on k n (Some xs) (Some ys) (Some zs) bs back read e, omega (arith, within, e, ap length read, ap length from, length-append bs zs, length-drop k xs))

pub enough_begins : (o : Option (List ℕ)) → IfSome o (λ xs. (o ≡ Some (drop 0 xs)) × (0 ≤ length xs))
enough_begins None = tt
enough_begins (Some xs) = (refl, omega arith)

enough_kept : (k : ℕ) (o a b : Option (List ℕ)) → IfSome o (λ xs. (a ≡ Some (drop k xs)) × (k ≤ length xs)) → Keeps a b → IfSome o (λ xs. (b ≡ Some (drop k xs)) × (k ≤ length xs))
enough_kept k None a b left kept = tt
enough_kept k (Some xs) None b left kept = absurd (let none : None ≡ Some (drop k xs) = left.0 in cc)
enough_kept k (Some xs) (Some ys) None left kept = absurd kept
enough_kept k (Some xs) (Some ys) (Some zs) left kept = (ap (λ l. Some l) kept ∙ left.0, left.1)

enough_ended : (k : ℕ) (o a b : Option (List ℕ)) → IfSome o (λ xs. (a ≡ Some (drop k xs)) × (k ≤ length xs)) → Consumes a b [] → IfSome o (λ xs. (b ≡ Some (drop k xs)) × (k ≤ length xs))
enough_ended k None a b left read = tt
enough_ended k (Some xs) None b left read = absurd (let none : None ≡ Some (drop k xs) = left.0 in cc)
enough_ended k (Some xs) (Some ys) None left read = absurd read
enough_ended k (Some xs) (Some ys) (Some zs) left read = (ap (λ l. Some l) (sym read) ∙ left.0, left.1)

-- what is left of the payload, n octets on
rest_on : (n m : ℕ) (began old new : Option Pending) → n ≤ m → IsRest m began old → ReadsOn n old new → IsRest (m - n) began new
rest_on n m None old new le is on = absurd is
rest_on n m (Some p) None new le is on = absurd is
rest_on n m (Some p) (Some q) None le is on = absurd on
rest_on n m (Some p) (Some q) (Some r) le is on = (on.0 ∙ is.0, omega (arith, on.1, is.1))

pub read_on : (s : Streaming) (n : ℕ) (now : Reading) (bs : List ℕ) → IsRead s → s.read + n ≤ s.whole → now.may_follow ∷ now.name ≡ s.reader.may_follow ∷ s.reader.name
    → Consumes (inside s.reader) (inside now) bs → length bs ≡ n → KeepsTold s.reader.ahead now.ahead → ReadsOn n s.reader.pending now.pending → now.fault ≡ s.reader.fault → s.reader.faults ≤ now.faults
    → IsRead (record { began = s.began; reader = now; read = s.read + n; whole = s.whole; cuts = s.cuts })
read_on s n now bs is within same octets len behind on fault later = record {
  within = within;
  name = cc;
  follow = cc;
  octets = left_on s.read n (payload_of s) _ _ bs is.octets octets len;
  enough = enough_on s.read n (inside s.began) _ _ bs is.enough octets len;
  behind = λ unless. told-trans _ _ _ (is.behind (λ e. unless (fault ∙ e))) behind;
  pending = λ none. let rest : IsRest (s.whole - s.read - n) s.began.pending now.pending = rest_on n _ _ _ _ (omega arith) (is.pending none) on in
      let fewer : s.whole - (s.read + n) ≡ s.whole - s.read - n = omega arith in rw fewer rest;
  fault = rw fault is.fault;
  short = rw fault is.short;
  later = omega (arith, is.later, later);
  cause = λ failed. omega (arith, is.cause (sym fault ∙ failed), later);
  sure = is.sure;
}

kept_left : (k : ℕ) (o a b : Option (List ℕ)) → IfSome o (λ xs. a ≡ Some (drop k xs)) → Keeps a b → IfSome o (λ xs. b ≡ Some (drop k xs))
kept_left k None a b left kept = tt
kept_left k (Some xs) None b left kept = absurd cc
kept_left k (Some xs) (Some ys) None left kept = absurd kept
kept_left k (Some xs) (Some ys) (Some zs) left kept = ap (λ l. Some l) kept ∙ left

-- a read failed
pub read_failed : (s : Streaming) (now : Reading) → IsRead s → now.may_follow ∷ now.name ≡ s.reader.may_follow ∷ s.reader.name → Keeps (inside s.reader) (inside now) → now.pending ≡ s.reader.pending
    → now.fault ≡ Some ReadFault → s.reader.faults ≤ now.faults → Rose s.reader.faults now.faults → IsRead (record { began = s.began; reader = now; read = s.read; whole = s.whole; cuts = s.cuts })
read_failed s now is same octets pending fault later rose = record {
  within = is.within;
  name = cc;
  follow = cc;
  octets = kept_left s.read (payload_of s) _ _ is.octets octets;
  enough = enough_kept s.read (inside s.began) _ _ is.enough octets;
  behind = λ unless. absurd (unless fault);
  pending = rw pending is.pending;
  fault = rw fault (inl refl);
  short = rw fault (inl refl);
  later = omega (arith, is.later, later);
  cause = λ _. omega (arith, is.later, rose);
  sure = is.sure;
}

cut_is_short : (k n whole : ℕ) (o a b : Option (List ℕ)) (now : Option RecordFault) → 0 < n → k + n ≤ whole → IfSome o (λ xs. (a ≡ Some (drop k xs)) × (k ≤ length xs)) → Consumes a b [] → IsAtEnd b
    → IfSome now (λ fault. (fault ≡ ReadFault) ⊎ IsShortOf whole o)
cut_is_short k n whole o a b None some within left read end = tt
cut_is_short k n whole o a b (Some fault) some within left read end = inr (short o a b left read end)
  where
    short : (o a b : Option (List ℕ)) → IfSome o (λ xs. (a ≡ Some (drop k xs)) × (k ≤ length xs)) → Consumes a b [] → IsAtEnd b → IsShortOf whole o
    short None a b left read end = tt
    short (Some xs) None b left read end = absurd (let none : None ≡ Some (drop k xs) = left.0 in cc)
    short (Some xs) (Some ys) None left read end = absurd read
    short (Some xs) (Some ys) (Some zs) left read end =
        let back : Some ys ≡ Some (drop k xs) = left.0 in
        let from : drop k xs ≡ ys = cc in
        let none : drop k xs ≡ [] = from ∙ read ∙ end in
        omega (arith, some, within, ap length none, length-drop k xs)

-- a fault that was met before stays; else the input ended inside the payload
cut_fault : (n cuts more : ℕ) (began pending : Option Pending) (old now : Option RecordFault) → IsMet began cuts old → (cuts ≡ 0 → IsRest n began pending) → 0 < n → IfSome old (λ f. now ≡ Some f)
    → IfSome pending (λ p. 0 < p.rest → now ≡ first_fault old (Truncated p.head.at p.head.kind)) → IsMet began more now × (now ≡ Some ReadFault → old ≡ Some ReadFault)
cut_fault n cuts more began pending (Some f) now met rest some kept cut = (rw kept met, λ e. sym kept ∙ e)
cut_fault n cuts more None pending None now met rest some kept cut = absurd (rest met)
cut_fault n cuts more (Some p) None None now met rest some kept cut = absurd (rest met)
cut_fault n cuts more (Some p) (Some q) None now met rest some kept cut =
    let same = rest met in
    let fault : now ≡ Some (Truncated q.head.at q.head.kind) = cut (omega (arith, same.1)) in
    (rw fault (inr (ap (λ (h : Head). Truncated h.at h.kind) same.0)), λ e. absurd (let apart : Some (Truncated q.head.at q.head.kind) ≡ Some ReadFault = sym fault ∙ e in cc))

ended_left : (k : ℕ) (o a b : Option (List ℕ)) → IfSome o (λ xs. a ≡ Some (drop k xs)) → Consumes a b [] → IfSome o (λ xs. b ≡ Some (drop k xs))
ended_left k None a b left read = tt
ended_left k (Some xs) None b left read = absurd cc
ended_left k (Some xs) (Some ys) None left read = absurd read
ended_left k (Some xs) (Some ys) (Some zs) left read = ap (λ l. Some l) (sym read) ∙ left

not_ended : (k n whole : ℕ) (ys : List ℕ) (a b : Option (List ℕ)) → length ys ≡ whole → 0 < n → k + n ≤ whole → a ≡ Some (drop k ys) → Consumes a b [] → IsAtEnd b → ⊥
not_ended k n whole ys None b all some within left read end = cc
not_ended k n whole ys (Some xs) None all some within left read end = read
not_ended k n whole ys (Some xs) (Some zs) all some within left read end =
    let same : xs ≡ drop k ys = cc in
    let none : drop k ys ≡ [] = sym same ∙ read ∙ end in
    omega (arith, ap length none, length-drop k ys, all)

cut_sure : (k n whole cuts : ℕ) (i a b : Option (List ℕ)) → 0 < n → k + n ≤ whole → IfSome (all_of whole i) (λ xs. a ≡ Some (drop k xs)) → Consumes a b [] → IsAtEnd b → IfSome (all_of whole i) (λ xs. cuts ≡ 0)
cut_sure k n whole cuts None a b some within left read end = tt
cut_sure k n whole cuts (Some ys) a b some within left read end = by_length (length ys == whole) refl left
  where
    by_length : (t : Bool) → (length ys == whole) ≡ t → IfSome (if t then Some ys else None) (λ xs. a ≡ Some (drop k xs)) → IfSome (if t then Some ys else None) (λ xs. cuts ≡ 0)
    by_length true is there = absurd (not_ended k n whole ys a b (eqb-true _ _ is) some within there read end)
    by_length false is there = tt

kept_fault : (old now : Option RecordFault) → IfSome old (λ f. now ≡ Some f) → old ≡ Some ReadFault → now ≡ Some ReadFault
kept_fault None now kept e = absurd cc
kept_fault (Some f) now kept e = kept ∙ e

-- a read met the end of the input
pub read_cut : (s : Streaming) (n cuts : ℕ) (now : Reading) → IsRead s → 0 < n → s.read + n ≤ s.whole → 0 < cuts → now.may_follow ∷ now.name ≡ s.reader.may_follow ∷ s.reader.name
    → Consumes (inside s.reader) (inside now) [] → IsAtEnd (inside now) → KeepsTold s.reader.ahead now.ahead → IfSome s.reader.fault (λ f. now.fault ≡ Some f)
    → IfSome s.reader.pending (λ p. 0 < p.rest → now.fault ≡ first_fault s.reader.fault (Truncated p.head.at p.head.kind)) → s.reader.faults ≤ now.faults
    → IsRead (record { began = s.began; reader = now; read = s.read; whole = s.whole; cuts = cuts })
read_cut s n cuts now is some within risen same octets end behind kept met later =
    let fault = cut_fault (s.whole - s.read) s.cuts cuts _ _ _ _ is.fault is.pending (omega arith) kept met in
    record {
      within = is.within;
      name = cc;
      follow = cc;
      octets = ended_left s.read (payload_of s) _ _ is.octets octets;
      enough = enough_ended s.read (inside s.began) _ _ is.enough octets;
      behind = λ unless. told-trans _ _ _ (is.behind (λ e. unless (kept_fault s.reader.fault now.fault kept e))) behind;
      pending = λ none. absurd (omega arith);
      fault = fault.0;
      short = cut_is_short s.read n s.whole (inside s.began) _ _ now.fault some within is.enough octets end;
      later = omega (arith, is.later, later);
      cause = λ failed. omega (arith, is.cause (fault.1 failed), later);
      sure = cut_sure s.read n s.whole cuts (inside s.began) _ _ some within is.octets octets end;
    }

next_some : (o : Option (List ℕ)) (k n : ℕ) (xs ys : List ℕ) → length xs ≡ n → IfSome o (λ all. xs ≡ take (length xs) (drop k all)) → IfSome o (λ all. ys ≡ take (length ys) (drop (k + n) all))
    → IfSome o (λ all. xs ++ ys ≡ take (length (xs ++ ys)) (drop k all))
next_some None k n xs ys e p q = tt
next_some (Some all) k n xs ys e p q =
    let rest : drop (k + n) all ≡ drop (length xs) (drop k all) = ap (λ (j : ℕ). drop j all) (omega arith) ∙ sym (drop-drop (length xs) k all) in
    rw (length-append xs ys, take-add (length xs) (length ys) (drop k all)) (ap (λ l. l ++ ys) p ∙ ap (λ l. take (length xs) (drop k all) ++ l) (q ∙ ap (take (length ys)) rest))

pub same_payload : {a b : Streaming} → IsAlong a b → payload_of b ≡ payload_of a
same_payload {a} {b} p = ap (λ (r : Reading). all_of b.whole (inside r)) p.began ∙ ap (λ (w : ℕ). all_of w (inside a.began)) p.whole

-- the octets of two reads, one after the other
pub next_more : (a b : Streaming) (n : ℕ) (xs ys : List ℕ) → IsAlong a b → b.read ≡ a.read + n → length xs ≡ n → AreNext a xs → AreNext b ys → AreNext a (xs ++ ys)
next_more a b n xs ys along read e p q =
    let there = subst (λ (k : ℕ). IfSome (payload_of b) (λ all. ys ≡ take (length ys) (drop k all))) read q in
    let q' : IfSome (payload_of a) (λ all. ys ≡ take (length ys) (drop (a.read + n) all)) = subst (λ (o : Option (List ℕ)). IfSome o (λ all. ys ≡ take (length ys) (drop (a.read + n) all))) (same_payload along) there in
    next_some (payload_of a) a.read n xs ys e p q'

-- the front of a slice, where its middle was read
pub front_read : (at n : ℕ) (into ys rest : List ℕ) → at ≤ length into → n ≤ length ys → take (at + n) (take at into ++ (ys ++ rest)) ≡ take at into ++ take n ys
front_read at n into ys rest le fits =
    let len : length (take at into) ≡ at = length-take-le at into le in
    ap (λ (k : ℕ). take (k + n) (take at into ++ (ys ++ rest))) (sym len) ∙ take-append-add (take at into) (ys ++ rest) n ∙ ap (λ l. take at into ++ l) (take-append-le n ys rest fits)

pub along_refl : (a : Streaming) → IsAlong a a
along_refl a = record { began = refl; whole = refl; faults = omega arith }

pub along_trans : {a b c : Streaming} → IsAlong a b → IsAlong b c → IsAlong a c
along_trans p q = record { began = q.began ∙ p.began; whole = q.whole ∙ p.whole; faults = omega (arith, p.faults, q.faults) }
