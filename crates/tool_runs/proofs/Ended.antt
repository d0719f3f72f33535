-- A body in which Notes alone have a place, record after record.
use Rattle.std.proofs.Common.{◌≡◌, Bool, true, false, inl, inr, None, Some, Ok, Err, refl, sym, ap, ◌∙◌, subst, if◌then◌else◌}
use Rattle.std.specs.declared.option.Option.{Option}
use Rattle.std.specs.Option.{option_map}
use Rattle.xt_io.specs.declared.Head.{Head}
use Rattle.xt_io.specs.declared.Item.{Item}
use Rattle.xt_io.specs.declared.Kind.TheVariants.{Note}
use Rattle.xt_io.specs.declared.RecordFault.{RecordFault}
use Rattle.xt_io.specs.declared.RecordFault.TheVariants as record_fault
use Rattle.xt_io.specs.Bundles.{Bundle, nothing, only_fault, before_bundle, item_of}
use Rattle.xt_io.specs.Outside.{KeepsTold}
use Rattle.tool_runs.specs.declared.output.halt.Halt.{Halt}
use Rattle.tool_runs.specs.declared.output.stop.Refused.{Refused}
use Rattle.tool_runs.specs.declared.output.stop.Stop.{Stop}
use Rattle.tool_runs.specs.declared.output.stop.Stop.TheVariants as stops
use Rattle.tool_runs.specs.output.Outputs.{Refusal, broken, misplaced, same_kind}
use Rattle.tool_runs.specs.output.Runs.{ComesTold, Cuts, PassesOther, Refuses, TakesRecord, refusal}
use Rattle.tool_runs.specs.front.Fronts.{closed, closed_from}

-- what is still to come closes as the whole does
abbrev pub EndAlike : Option Bundle → Option Bundle → Type 0
EndAlike None now = Unit {0}
EndAlike (Some first) None = ⊥
EndAlike (Some first) (Some now) = closed first ≡ closed now

pub alike_itself : (first : Option Bundle) → EndAlike first first
alike_itself None = tt
alike_itself (Some first) = refl

closed_note : (item : Item) (more : Bundle) → same_kind item.kind Note ≡ true → closed (before_bundle item more) ≡ closed more
unfolding closed_from
closed_note item more note = ap (λ (b : Bool). if b then closed more else Err (misplaced item)) note

closed_other : (item : Item) (more : Bundle) → same_kind item.kind Note ≡ false → closed (before_bundle item more) ≡ Err (misplaced item)
unfolding closed_from
closed_other item more other = ap (λ (b : Bool). if b then closed more else Err (misplaced item)) other

closed_broken : (fault : RecordFault) → closed (only_fault fault) ≡ Err (broken fault)
unfolding closed_from
closed_broken fault = refl

closed_nothing : closed nothing ≡ Ok tt
unfolding closed_from
closed_nothing = refl

-- a Note was passed over
pub passes : (first now after next : Option Bundle) (head : Head) → EndAlike first now → TakesRecord head (λ octets. same_kind head.kind Note ≡ true) now after → KeepsTold after next → EndAlike first next
passes None now after next head p q k = tt
passes (Some first) None after next head p q k = absurd p
passes (Some first) (Some now) None next head p q k = absurd q
passes (Some first) (Some now) (Some after) next head p q k =
    let (octets, is, note) = q in
    subst (λ (o : Option Bundle). EndAlike (Some first) o) (sym k) (p ∙ ap closed is ∙ closed_note (item_of head octets) after note)

-- the end of the input
pub ends : (first : Option Bundle) → EndAlike first (Some nothing) → ComesTold {X = Unit {0}} (option_map closed first) (λ u. u) (Ok tt)
ends None p = tt
ends (Some first) p = p ∙ closed_nothing

-- nothing is said where the run is halted
pub halts : (first : Option Bundle) (halt : Halt) → ComesTold {X = Unit {0}} (option_map closed first) (λ u. u) (Err (stops.Halted halt))
halts None halt = tt
halts (Some first) halt = tt

refused_as : (first : Bundle) (said : Refusal) (r : Refused) → closed first ≡ Err said → refusal r ≡ said → ComesTold {X = Unit {0}} (Some (closed first)) (λ u. u) (Err (stops.Refused r))
refused_as first said r e is = e ∙ ap (λ (x : Refusal). Err x) (sym is)

-- the refusal is this one
says : (first : Bundle) (said : Refusal) (stop : Stop) → closed first ≡ Err said → Refuses said stop → ComesTold {X = Unit {0}} (Some (closed first)) (λ u. u) (Err stop)
says first said (stops.Refused r) e p = refused_as first said r e p
says first said (stops.Halted halt) e p = tt

-- a fault in a record's place
pub is_broken : (first : Option Bundle) (fault : RecordFault) (stop : Stop) → EndAlike first (Some (only_fault fault)) → Refuses (broken fault) stop → ComesTold {X = Unit {0}} (option_map closed first) (λ u. u) (Err stop)
is_broken None fault stop p q = tt
is_broken (Some first) fault stop p q = says first (broken fault) stop (p ∙ closed_broken fault) q

cut_short : (first now : Bundle) (head : Head) (r : Refused) → closed first ≡ closed now → Cuts head (Some now) r → ComesTold {X = Unit {0}} (Some (closed first)) (λ u. u) (Err (stops.Refused r))
cut_short first now head r p q = refused_as first (broken (record_fault.Truncated head.at head.kind)) r (p ∙ ap closed q.0 ∙ closed_broken (record_fault.Truncated head.at head.kind)) q.1

other_stops : (first now after : Bundle) (head : Head) (r : Refused) → closed first ≡ closed now → TakesRecord head (λ octets. (same_kind head.kind Note ≡ false) × (refusal r ≡ misplaced (item_of head octets))) (Some now) (Some after)
    → ComesTold {X = Unit {0}} (Some (closed first)) (λ u. u) (Err (stops.Refused r))
other_stops first now after head r p q =
    let (octets, is, other) = q in
    refused_as first (misplaced (item_of head octets)) r (p ∙ ap closed is ∙ closed_other (item_of head octets) after other.0) other.1

-- a record that is cut, or has no place
pub refuses : (first now after : Option Bundle) (head : Head) (stop : Stop) → EndAlike first now → PassesOther {T = Unit {0}} head now after (Err stop) → ComesTold {X = Unit {0}} (option_map closed first) (λ u. u) (Err stop)
refuses first now after head (stops.Halted halt) p q = halts first halt
refuses None now after head (stops.Refused r) p q = tt
refuses (Some first) None after head (stops.Refused r) p q = absurd p
refuses (Some first) (Some now) None head (stops.Refused r) p q = elim q [ inl cut ↦ cut_short first now head r p cut | inr other ↦ absurd other ]
refuses (Some first) (Some now) (Some after) head (stops.Refused r) p q = elim q [ inl cut ↦ cut_short first now head r p cut | inr other ↦ other_stops first now after head r p other ]
