-- Where a cursor over a reader's payload stands (this profile's own).
use Rattle.std.specs.Prelude.{◌≡◌, ◌≢◌, ℕ, ◌-◌, ◌≤◌, ◌⊎◌, ◌==◌, Bool, true, false, List, [], length, drop, if◌then◌else◌, Option, Some, None, IfSome}
use Rattle.std.proofs.Common.{refl, sym, ap, ◌∙◌, subst, length-drop, eqb-true}
use Rattle.std.specs.Option.{option_map}
use Rattle.xt_shapes.specs.declared.leaves.Order.TheVariants.{Little}
use Rattle.xt_outside.specs.Outside.{KeepsTold, Rose}
use Rattle.xt_outside.specs.declared.octets.Source.{Ghosts}
use Rattle.xt_outside.specs.declared.records.RecordFault.TheVariants.{ReadFault}
use Rattle.xt_io.specs.Readers.{Reading, inside}
use Rattle.xt_wire.specs.cursor.Standing.{Standing, Stands}
use Rattle.xt_wire.specs.streams.Marks.{mark_of}
use Rattle.xt_wire.specs.streams.Streams.{all_of, payload_of, faults_of, IsRest, IsCutOf, IsShortOf}
use Rattle.xt_wire.specs.declared.streams.cursor.StreamCursor.{StreamCursor}

abbrev pub stream_state : {X : Type 0} {G : Ghosts X} → StreamCursor X G → Standing
stream_state c = record { place = c.payload.read; region_end = c.end; whole = c.payload.whole; origin = c.origin; order = c.order; ahead = option_map (drop c.payload.read) (payload_of c.payload); faults = faults_of c.payload; name = mark_of c.payload.began; reach = c.payload.read }

octets_in : Option (List ℕ) → List ℕ
octets_in None = []
octets_in (Some octets) = octets

IsNothing : Option (List ℕ) → Type 0
IsNothing None = Unit {0}
IsNothing (Some octets) = ⊥

some_length : (n k : ℕ) (ys xs : List ℕ) (b : Bool) → (length ys == n) ≡ b → option_map (drop k) (if b then Some ys else None) ≡ Some xs → length xs ≡ n - k
unfolding octets_in IsNothing
some_length n k ys xs true is e = sym (ap (λ o. length (octets_in o)) e) ∙ length-drop k ys ∙ ap (λ (m : ℕ). m - k) (eqb-true (length ys) n is)
some_length n k ys xs false is e = absurd (subst IsNothing e tt)

told_length : (n k : ℕ) (o : Option (List ℕ)) (xs : List ℕ) → option_map (drop k) (all_of n o) ≡ Some xs → length xs ≡ n - k
unfolding IsNothing
told_length n k None xs e = absurd (subst IsNothing e tt)
told_length n k (Some ys) xs e = some_length n k ys xs (length ys == n) refl e

pub stream_stands : {X : Type 0} {G : Ghosts X} (c : StreamCursor X G) → Stands (stream_state c)
stream_stands c = record {
  in_region = c.in_region;
  in_whole = c.in_whole;
  from_origin = c.from_origin;
  fits = c.fits;
  told = told_length c.payload.whole c.payload.read (inside c.payload.began);
}

-- a cursor at the first octet of a payload of this length
abbrev pub stream_start : ℕ → Reading → Standing
stream_start n reader = record { place = 0; region_end = n; whole = n; origin = 0; order = Little; ahead = all_of n (inside reader); faults = reader.faults; name = mark_of reader; reach = 0 }

-- What a reader keeps of the one that the cursor was made of, where the cursor stands as said.
pub record Resumes (began : Reading) (at : Standing) (now : Reading) : Type 0 where
  pub within : at.place ≤ at.whole
  pub name : now.name ≡ began.name
  pub follow : now.may_follow ≡ began.may_follow
  -- the records behind the payload, unless a read failed
  pub behind : now.fault ≢ Some ReadFault → KeepsTold began.ahead now.ahead
  -- what is left of the payload: what is after the place
  pub octets : IfSome at.ahead (λ octets. inside now ≡ Some octets)
  -- the octets of the payload up to there are told where any are: where the input ends inside it, no cursor passes that end
  pub enough : IfSome (inside began) (λ octets. (inside now ≡ Some (drop at.place octets)) × (at.place ≤ length octets))
  pub pending : now.fault ≡ None → IsRest (at.whole - at.place) began.pending now.pending
  -- the fault that the reader answers next: a read failed, and its count rose, or the input ended inside the payload
  pub fault : IfSome now.fault (λ fault. (fault ≡ ReadFault) ⊎ IsCutOf began.pending fault)
  -- but for a failed read, a fault is met only where the payload is cut
  pub short : IfSome now.fault (λ fault. (fault ≡ ReadFault) ⊎ IsShortOf at.whole (inside began))
  pub later : began.faults ≤ now.faults
  pub cause : now.fault ≡ Some ReadFault → Rose began.faults now.faults
  -- the cursor's count is that of its reader, but where the input ended inside the payload
  pub counts : now.faults ≤ at.faults
  pub good : now.fault ≡ None → at.faults ≡ now.faults
  pub sure : IfSome at.ahead (λ octets. at.faults ≡ now.faults)

-- the same for the reader that the cursor was made of: the one of the name at which it stands
abbrev pub Ends : Standing → Reading → Type 0
Ends at now = (began : Reading) → mark_of began ≡ at.name → Resumes began at now
