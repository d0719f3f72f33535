-- Where a cursor over a payload stands.
use Rattle.std.proofs.Common.{◌≡◌, ℕ, ◌+◌, ◌≤◌, ◌⊎◌, List, length, drop, refl, sym, ap, ◌∙◌, arith, Some, None, Result, Ok, Err, OnOk, OnErr, IfSome}
use Rattle.std.proofs.lemmas.List.{drop-drop}
use Rattle.std.specs.declared.option.Option.{Option}
use Rattle.std.specs.Option.{option_map}
use Rattle.xt_wire.specs.cursor.Standing.{Standing, Moved, Stopped, GoesOn, room}
use Rattle.xt_wire.specs.declared.cursor.cursor.CutFault.{CutFault}
use Rattle.xt_wire.proofs.OfCursor.Ahead.{within_refl, within_trans}
use Rattle.xt_outside.specs.declared.octets.Failed.{Failed}
use Rattle.xt_io.specs.declared.bundle.Pending.{Pending}
use Rattle.xt_outside.specs.declared.octets.Source.{Ghosts}
use Rattle.xt_outside.specs.declared.records.RecordFault.{RecordFault}
use Rattle.xt_outside.specs.declared.records.RecordFault.TheVariants.{ReadFault}
use Rattle.xt_wire.specs.streams.Streams.{payload_of, IsRead, IsMet, IsShortOf, stopped_result}
use Rattle.xt_wire.specs.streams.Cursors.{stream_state, Ends}
use Rattle.xt_wire.specs.declared.streams.cursor.StreamCursor.{StreamCursor}
use Rattle.xt_wire.proofs.OfStreams.Marks.{mark-inj}

told_left : (k : ℕ) (o a : Option (List ℕ)) → IfSome o (λ xs. a ≡ Some (drop k xs)) → IfSome (option_map (drop k) o) (λ xs. a ≡ Some xs)
told_left k None a left = tt
told_left k (Some xs) a left = left

met_fault : (p : Option Pending) (n : ℕ) (o : Option RecordFault) → IsMet p n o → IfSome o (λ f. IsMet p n (Some f))
met_fault p n None m = tt
met_fault p n (Some f) m = m

met_none : (p : Option Pending) (n : ℕ) (o : Option RecordFault) → IsMet p n o → o ≡ None → n ≡ 0
met_none p n None m e = m
met_none p n (Some f) m e = absurd cc

sure_count : (o : Option (List ℕ)) (k faults cuts : ℕ) → IfSome o (λ xs. cuts ≡ 0) → IfSome (option_map (drop k) o) (λ xs. faults + cuts ≡ faults)
sure_count None k faults cuts sure = tt
sure_count (Some xs) k faults cuts sure = omega (arith, sure)

enough_after : (m : ℕ) (o p a : Option (List ℕ)) → p ≡ o → IfSome o (λ xs. (a ≡ Some (drop m xs)) × (m ≤ length xs)) → IfSome p (λ xs. (a ≡ Some (drop m xs)) × (m ≤ length xs))
enough_after m o p a same enough = rw same enough

short_after : (whole : ℕ) (fault : Option RecordFault) (o p : Option (List ℕ)) → p ≡ o → IfSome fault (λ f. (f ≡ ReadFault) ⊎ IsShortOf whole o) → IfSome fault (λ f. (f ≡ ReadFault) ⊎ IsShortOf whole p)
short_after whole fault o p same short = rw same short

pub stream_ends : {X : Type 0} {G : Ghosts X} (c : StreamCursor X G) → IsRead c.payload → Ends (stream_state c) c.payload.reader
stream_ends c is began mark =
    let shared = mark-inj began c.payload.began mark in
    record {
      within = is.within;
      name = is.name ∙ sym shared.name;
      follow = is.follow ∙ sym shared.follow;
      behind = rw shared.ahead is.behind;
      octets = told_left c.payload.read (payload_of c.payload) _ is.octets;
      enough = enough_after c.payload.read _ _ _ shared.inside is.enough;
      pending = λ none. rw shared.pending (is.pending (met_none _ _ _ is.fault none));
      fault = rw shared.pending (met_fault _ _ _ is.fault);
      short = short_after c.payload.whole c.payload.reader.fault _ _ shared.inside is.short;
      later = omega (arith, is.later, shared.faults);
      cause = λ failed. omega (arith, is.cause failed, shared.faults);
      counts = omega arith;
      good = λ none. omega (arith, met_none _ _ _ is.fault none);
      sure = sure_count (payload_of c.payload) _ _ _ is.sure;
    }

-- ---- going on

drop_none : (o : Option (List ℕ)) → o ≡ option_map (drop 0) o
drop_none None = refl
drop_none (Some xs) = refl

pub moved_none : (a : Standing) → Moved 0 a a
moved_none a = record { within = within_refl a; fits = omega arith; place = omega arith; ahead = drop_none a.ahead }

drop_more : (n m : ℕ) (o : Option (List ℕ)) → option_map (drop m) (option_map (drop n) o) ≡ option_map (drop (n + m)) o
drop_more n m None = refl
drop_more n m (Some xs) = ap (λ l. Some l) (drop-drop m n xs)

pub moved_more : {a b c : Standing} (n m : ℕ) → Moved n a b → Moved m b c → Moved (n + m) a c
moved_more {a} {b} {c} n m p q = record {
  within = within_trans p.within q.within (omega (arith, q.place));
  fits = omega (arith, p.fits, q.fits, p.place, p.within.region_end);
  place = omega (arith, p.place, q.place);
  ahead = q.ahead ∙ ap (option_map (drop m)) p.ahead ∙ drop_more n m a.ahead;
}

pub stopped_later : {a b c : Standing} {n m k : ℕ} → Moved n a b → Stopped m b c → n + m ≤ k → Stopped k a c
stopped_later p q le = record { within = within_trans p.within q.within q.later; later = omega (arith, p.place, q.later); few = omega (arith, p.place, q.few, le); rose = omega (arith, p.within.along.faults, q.rose) }

pub goes_on : (n k at : ℕ) (a b : Standing) (r : Result (Unit {0}) Failed) (s : Result (Unit {0}) CutFault) → s ≡ stopped_result r → k ≡ n → n ≤ room a → OnOk r (Moved k a b) → OnErr r (Stopped k a b) → GoesOn n at a b s
goes_on n k at a b (Ok u) s is same fits moved stopped = rw (is, ← same) moved
goes_on n k at a b (Err e) s is same fits moved stopped = rw (is, ← same) (rw same fits, stopped)
