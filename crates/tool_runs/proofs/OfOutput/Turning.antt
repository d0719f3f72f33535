-- Turns, one after another.
use Rattle.std.proofs.Common.{◌≡◌, ℕ, ◌+◌, ◌<◌, List, [], ◌∷◌, ◌++◌, append-nil, Bool, true, false, inl, inr, length, take, None, Some, Result, Ok, Err, refl, sym, ap, ◌∙◌, subst, IfSome, arith, take_all, if◌then◌else◌}
use Rattle.std.proofs.lemmas.Bool.{le-ltb, lt-ltb}
use Rattle.std.specs.declared.option.Option.{Option}
use Rattle.std.specs.Option.{option_map}
use Rattle.std.proofs.KnownBytes.{Appends-nil}
use Rattle.std.specs.Io.KnownBytes.{Appends}
use Rattle.xt_io.specs.declared.Head.{Head}
use Rattle.xt_io.specs.declared.Item.{Item}
use Rattle.xt_io.specs.declared.Kind.{Kind}
use Rattle.xt_io.specs.declared.Kind.TheVariants.{Note}
use Rattle.xt_io.specs.declared.RecordFault.{RecordFault}
use Rattle.xt_io.specs.declared.RecordFault.TheVariants as record_fault
use Rattle.xt_io.specs.Bundles.{Bundle, nothing, only_fault, cut, with_payload, before_bundle, item_of}
use Rattle.xt_io.specs.Fronts.{IsShort, IsCut}
use Rattle.xt_io.specs.Readers.{IsTold}
use Rattle.xt_io.specs.Outside.{KeepsTold, AppendsPrefix}
use Rattle.tool_runs.specs.declared.output.halt.Halt.{Halt}
use Rattle.tool_runs.specs.declared.output.halt.Halt.TheVariants as halts
use Rattle.tool_runs.specs.declared.output.ending.Style.{Style}
use Rattle.tool_runs.specs.declared.output.stop.Refused.{Refused}
use Rattle.tool_runs.specs.declared.output.stop.Stop.{Stop}
use Rattle.tool_runs.specs.declared.output.stop.Stop.TheVariants as stops
use Rattle.tool_runs.specs.output.Outputs.{Output, Refusal, Turn, goes_on, over, refused, broken, misplaced, same_kind, other_output, after_pieces, after_turn, passed, taking, run, run_over}
use Rattle.tool_runs.specs.output.Runs.{Leads, Steps, Writes, Refuses, StopsFor, TakesRecord, TakesPayload, PassesOther, Cuts, both, refusal, told_refusal}
use Rattle.tool_runs.proofs.OfOutput.Written.{leads_on, writes_on, stops_here, piece_is_cut}

refusal_on : (style : Style) (first middle : Option Output) (r : Refused) (old mid new : Option (List ℕ)) → Leads first middle old mid → Leads middle (told_refusal style middle r) mid new → Leads first (told_refusal style first r) old new
refusal_on style None middle r old mid new p q = tt
refusal_on style (Some first) None r old mid new p q = absurd p
refusal_on style (Some first) (Some middle) r old mid new p q = leads_on (Some first) (Some middle) (told_refusal style (Some middle) r) old mid new p q

-- what was written before, and then a step
pub steps_on : {T : Type 0} (style : Style) (first middle rest : Option Output) (result : Result T Stop) (old mid new : Option (List ℕ)) → Leads first middle old mid
    → Steps style middle rest result mid new → Steps style first rest result old new
steps_on style first middle rest (Ok u) old mid new p q = leads_on first middle rest old mid new p q
steps_on style first middle rest (Err (stops.Refused r)) old mid new p q = refusal_on style first middle r old mid new p q
steps_on style first middle rest (Err (stops.Halted halt)) old mid new p q = writes_on first middle (Err halt) old mid new p q

-- a stop is one for the caller too
pub stop_on : (A B : Type 0) (style : Style) (output rest more : Option Output) (stop : Stop) (old new : Option (List ℕ)) → Steps {T = A} style output rest (Err stop) old new → Steps {T = B} style output more (Err stop) old new
stop_on A B style output rest more (stops.Refused r) old new p = p
stop_on A B style output rest more (stops.Halted halt) old new p = p

-- a turn that stopped
pub turn_stops : (A B : Type 0) (style : Style) (first middle rest more : Option Output) (stop : Stop) (old mid new : Option (List ℕ)) → Leads first middle old mid
    → Steps {T = A} style middle rest (Err stop) mid new → Steps {T = B} style first more (Err stop) old new
turn_stops A B style first middle rest more stop old mid new p q = steps_on {T = B} style first middle more (Err stop) old mid new p (stop_on A B style middle rest more stop mid new q)

-- nothing more can be read
pub halts_on : (T : Type 0) (style : Style) (first middle rest : Option Output) (halt : Halt) (old now : Option (List ℕ)) → Leads first middle old now → Steps {T = T} style first rest (Err (stops.Halted halt)) old now
halts_on T style first middle rest halt old now p = writes_on first middle (Err halt) old now now p (stops_here middle halt now)

same_refusal : (style : Style) (output : Output) (said r : Refusal) (a : Option (List ℕ)) → output ≡ refused style said → r ≡ said → Leads (Some output) (Some (refused style r)) a a
same_refusal style output said r a e f = ([], e ∙ ap (refused style) (sym f), Appends-nil a)

-- a refusal that is still to be written
pub refuses_here : (T : Type 0) (style : Style) (output : Output) (rest : Option Output) (said : Refusal) (stop : Stop) (a : Option (List ℕ)) → output ≡ refused style said → Refuses said stop → Steps {T = T} style (Some output) rest (Err stop) a a
refuses_here T style output rest said (stops.Refused r) a e p = same_refusal style output said _ a e p
refuses_here T style output rest said (stops.Halted halt) a e p = stops_here (Some output) halt a

-- what is told stays to be written
pub told_on : (f : Bundle → Output) (a b : Option Bundle) (x : Option (List ℕ)) → KeepsTold a b → Leads (option_map f a) (option_map f b) x x
told_on f None b x p = tt
told_on f (Some bundle) b x p = subst (λ (o : Option Bundle). Leads (Some (f bundle)) (option_map f o) x x) (sym p) ([], refl, Appends-nil x)

-- a whole turn
pub turn_on : (f g : Bundle → Output) (first : Option Output) (now behind next : Option Bundle) (old mid new : Option (List ℕ)) → Leads first (option_map f now) old mid → Leads (option_map f now) (option_map g behind) mid new
    → KeepsTold behind next → Leads first (option_map g next) old new
turn_on f g first now behind next old mid new p q k = leads_on first (option_map g behind) (option_map g next) old new new (leads_on first (option_map f now) (option_map g behind) old mid new p q) (told_on g behind next new k)

-- ---- records that are not taken

stops_halt : (T : Type 0) (style : Style) (output rest : Option Output) (halt : Halt) (a : Option (List ℕ)) → Steps {T = T} style output rest (Err (stops.Halted halt)) a a
stops_halt T style output rest halt a = stops_here output halt a

-- a record that is cut
pub cut_turn : (T : Type 0) (style : Style) (f : Bundle → Output) (head : Head) (before : Option Bundle) (rest : Option Output) (r : Refused) (a : Option (List ℕ)) → ((fault : RecordFault) → f (only_fault fault) ≡ refused style (broken fault))
    → Cuts head before r → Steps {T = T} style (option_map f before) rest (Err (stops.Refused r)) a a
cut_turn T style f head None rest r a law p = tt
cut_turn T style f head (Some before) rest r a law p =
    let fault = record_fault.Truncated head.at head.kind in
    same_refusal style (f before) (broken fault) (refusal r) a (ap f p.0 ∙ law fault) p.1

passed_some : (style : Style) (f g : Bundle → Output) (head : Head) (before after : Bundle) (a : Option (List ℕ)) → ((item : Item) (more : Bundle) → item.kind ≡ head.kind → f (before_bundle item more) ≡ other_output style item (g more))
    → TakesRecord head (λ octets. same_kind head.kind Note ≡ true) (Some before) (Some after) → Leads (Some (f before)) (Some (g after)) a a
passed_some style f g head before after a law p =
    let (octets, is, note) = p in
    ([], ap f is ∙ law (item_of head octets) after refl ∙ ap (λ (b : Bool). if b then g after else refused style (misplaced (item_of head octets))) note, Appends-nil a)

misplaced_some : (style : Style) (f g : Bundle → Output) (head : Head) (before after : Bundle) (r : Refused) (a : Option (List ℕ)) → ((item : Item) (more : Bundle) → item.kind ≡ head.kind → f (before_bundle item more) ≡ other_output style item (g more))
    → TakesRecord head (λ octets. (same_kind head.kind Note ≡ false) × (refusal r ≡ misplaced (item_of head octets))) (Some before) (Some after) → Leads (Some (f before)) (Some (refused style (refusal r))) a a
misplaced_some style f g head before after r a law p =
    let (octets, is, other) = p in
    same_refusal style (f before) (misplaced (item_of head octets)) (refusal r) a (ap f is ∙ law (item_of head octets) after refl ∙ ap (λ (b : Bool). if b then g after else refused style (misplaced (item_of head octets))) other.0) other.1

-- a Note, or a record that has no place
pub other_turn : {T : Type 0} (style : Style) (f g : Bundle → Output) (head : Head) (before after : Option Bundle) (result : Result T Stop) (a : Option (List ℕ)) → ((fault : RecordFault) → f (only_fault fault) ≡ refused style (broken fault))
    → ((item : Item) (more : Bundle) → item.kind ≡ head.kind → f (before_bundle item more) ≡ other_output style item (g more)) → PassesOther head before after result → Steps style (option_map f before) (option_map g after) result a a
other_turn style f g head None after (Ok t) a law other p = tt
other_turn style f g head (Some before) None (Ok t) a law other p = absurd p
other_turn style f g head (Some before) (Some after) (Ok t) a law other p = passed_some style f g head before after a other p
other_turn {T} style f g head before after (Err (stops.Halted halt)) a law other p = stops_halt T style (option_map f before) (option_map g after) halt a
other_turn style f g head None after (Err (stops.Refused r)) a law other p = tt
other_turn style f g head (Some before) None (Err (stops.Refused r)) a law other p = elim p [ inl cut ↦ cut_turn (Unit {0}) style f head (Some before) None r a law cut | inr misplaced ↦ absurd misplaced ]
other_turn style f g head (Some before) (Some after) (Err (stops.Refused r)) a law other p = elim p [ inl cut ↦ cut_turn (Unit {0}) style f head (Some before) None r a law cut | inr misplaced ↦ misplaced_some style f g head before after r a other misplaced ]

-- ---- payloads

pub whole_record : (head : Head) (t : List ℕ) (after : Bundle) → length t ≡ head.length → with_payload head t after ≡ before_bundle (item_of head t) after
unfolding with_payload
whole_record head t after len = rw (le-ltb (length t) head.length (omega (arith, len)), take_all head.length t (omega (arith, len))) refl

-- a payload that was read whole
pub takes_whole : (head : Head) (o : Option (List ℕ)) (now after : Option Bundle) (t : List ℕ) → length t ≡ head.length → IsTold o t → KeepsTold now after → TakesRecord head (λ octets. octets ≡ t) (both (with_payload head) o now) after
takes_whole head None now after t len told kept = tt
takes_whole head (Some octets) None after t len told kept = tt
takes_whole head (Some octets) (Some now) None t len told kept = absurd (let none : None ≡ Some now = kept in cc)
takes_whole head (Some octets) (Some now) (Some after) t len told kept =
    let same : Some after ≡ Some now = kept in
    let behind : now ≡ after = cc in
    (t, ap (λ (l : List ℕ). with_payload head l now) (sym told) ∙ whole_record head t now len ∙ ap (before_bundle (item_of head t)) behind, refl)

-- a payload that was passed over whole
pub takes_passed : (head : Head) (o : Option (List ℕ)) (now after : Option Bundle) → IfSome o (λ octets. length octets ≡ head.length) → KeepsTold now after → TakesRecord head (λ octets. Unit {0}) (both (with_payload head) o now) after
takes_passed head None now after len kept = tt
takes_passed head (Some octets) None after len kept = tt
takes_passed head (Some octets) (Some now) None len kept = absurd (let none : None ≡ Some now = kept in cc)
takes_passed head (Some octets) (Some now) (Some after) len kept =
    let same : Some after ≡ Some now = kept in
    let behind : now ≡ after = cc in
    (octets, whole_record head octets now len ∙ ap (before_bundle (item_of head octets)) behind, tt)

short_record : (head : Head) (t : List ℕ) (after : Bundle) → length t < head.length → with_payload head (take head.length t) after ≡ cut head
unfolding with_payload
short_record head t after lt =
    let all : take head.length t ≡ t = take_all head.length t (omega (arith, lt)) in
    rw (all, lt-ltb (length t) head.length lt) refl

cuts_short : (head : Head) (left : Option (List ℕ)) (now : Option Bundle) (r : Refused) → IsShort left head.length → refusal r ≡ broken (record_fault.Truncated head.at head.kind) → Cuts head (both (with_payload head) (option_map (take head.length) left) now) r
cuts_short head None now r short said = tt
cuts_short head (Some octets) None r short said = tt
cuts_short head (Some octets) (Some after) r short said = (short_record head octets after short, said)

truncated : (T : Type 0) (head : Head) (P : T → List ℕ → Type 0) (left : Option (List ℕ)) (now after : Option Bundle) (stop : Stop) → IsShort left head.length → Refuses (broken (record_fault.Truncated head.at head.kind)) stop
    → TakesPayload head P (both (with_payload head) (option_map (take head.length) left) now) after (Err stop)
truncated T head P left now after (stops.Refused r) short said = cuts_short head left now r short said
truncated T head P left now after (stops.Halted halt) short said = tt

-- a payload that was not read whole
pub fault_takes : (T : Type 0) (head : Head) (P : T → List ℕ → Type 0) (left : Option (List ℕ)) (now after : Option Bundle) (fault : RecordFault) (stop : Stop) → IsCut head head.length left fault → StopsFor fault stop
    → TakesPayload head P (both (with_payload head) (option_map (take head.length) left) now) after (Err stop)
fault_takes T head P left now after record_fault.ReadFault stop cut said = rw said tt
fault_takes T head P left now after record_fault.OutOfMemory stop cut said = rw said tt
fault_takes T head P left now after (record_fault.Truncated at kind) stop cut said =
    truncated T head P left now after stop cut.2 (subst (λ (k : Kind). Refuses (broken (record_fault.Truncated head.at k)) stop) cut.1 (subst (λ (n : ℕ). Refuses (broken (record_fault.Truncated n kind)) stop) cut.0 said))
fault_takes T head P left now after (record_fault.UnknownKind at octet) stop cut said = absurd cut
fault_takes T head P left now after (record_fault.TooLong at kind n) stop cut said = absurd cut
fault_takes T head P left now after (record_fault.TooMany at) stop cut said = absurd cut

-- ---- a command that writes one piece for each record that it takes

-- the piece was written
pub piece_goes : (f g : Bundle → Output) (head : Head) (piece : List ℕ → List ℕ) (line : List ℕ) (before after : Option Bundle) (old new : Option (List ℕ)) → ((octets : List ℕ) (more : Bundle) → f (before_bundle (item_of head octets) more) ≡ after_pieces (piece octets ∷ []) (g more))
    → TakesRecord head (λ octets. line ≡ piece octets) before after → Appends old new line → Leads (option_map f before) (option_map g after) old new
piece_goes f g head piece line None after old new law p q = tt
piece_goes f g head piece line (Some before) None old new law p q = absurd p
piece_goes f g head piece line (Some before) (Some after) old new law p q =
    let (octets, is, said) = p in
    (piece octets ∷ [], ap f is ∙ law octets after, subst (λ (l : List ℕ). Appends old new (l ++ [])) said (subst (Appends old new) (sym (append-nil line)) q))

-- the piece was not written whole
pub piece_halts : (T : Type 0) (style : Style) (f g : Bundle → Output) (head : Head) (piece : List ℕ → List ℕ) (line : List ℕ) (before after : Option Bundle) (rest : Option Output) (halt : Halt) (old new : Option (List ℕ))
    → ((octets : List ℕ) (more : Bundle) → f (before_bundle (item_of head octets) more) ≡ after_pieces (piece octets ∷ []) (g more)) → TakesRecord head (λ octets. line ≡ piece octets) before after → AppendsPrefix old new line → (halt ≡ halts.ReadFault → ⊥)
    → Steps {T = T} style (option_map f before) rest (Err (stops.Halted halt)) old new
piece_halts T style f g head piece line None after rest halt old new law p q no_read = tt
piece_halts T style f g head piece line (Some before) None rest halt old new law p q no_read = absurd p
piece_halts T style f g head piece line (Some before) (Some after) rest halt old new law p q no_read =
    let (octets, is, said) = p in
    subst (λ (o : Output). Writes (Some o) (Err halt) old new) (sym (ap f is ∙ law octets after ∙ ap (λ (l : List ℕ). after_pieces (l ∷ []) (g after)) (sym said))) (piece_is_cut (g after) line halt old new q no_read)

-- the record's payload was not read whole
pub payload_stops : (A T : Type 0) (style : Style) (f : Bundle → Output) (head : Head) (P : A → List ℕ → Type 0) (before after : Option Bundle) (rest : Option Output) (stop : Stop) (a : Option (List ℕ)) → ((fault : RecordFault) → f (only_fault fault) ≡ refused style (broken fault))
    → TakesPayload head P before after (Err stop) → Steps {T = T} style (option_map f before) rest (Err stop) a a
payload_stops A T style f head P before after rest (stops.Refused r) a law p = cut_turn T style f head before rest r a law p
payload_stops A T style f head P before after rest (stops.Halted halt) a law p = stops_here (option_map f before) halt a

untold : (style : Style) (rest : Option Output) (result : Result (Unit {0}) Stop) (old new : Option (List ℕ)) → Steps style None rest result old new
untold style rest (Ok u) old new = tt
untold style rest (Err (stops.Refused r)) old new = tt
untold style rest (Err (stops.Halted halt)) old new = tt

-- the record's payload was read whole, and taken
pub payload_goes : (style : Style) (f g : Bundle → Output) (head : Head) (payload : List ℕ) (before after : Option Bundle) (result : Result (Unit {0}) Stop) (old new : Option (List ℕ)) → TakesRecord head (λ octets. octets ≡ payload) before after
    → ((more : Bundle) → Steps style (Some (f (before_bundle (item_of head payload) more))) (Some (g more)) result old new) → Steps style (option_map f before) (option_map g after) result old new
payload_goes style f g head payload None after result old new p q = untold style (option_map g after) result old new
payload_goes style f g head payload (Some before) None result old new p q = absurd p
payload_goes style f g head payload (Some before) (Some after) result old new p q =
    let (octets, is, same) = p in
    let there : f before ≡ f (before_bundle (item_of head payload) after) = ap f is ∙ ap (λ (l : List ℕ). f (before_bundle (item_of head l) after)) same in
    subst (λ (o : Output). Steps style (Some o) (Some (g after)) result old new) (sym there) (q after)

-- ---- runs

pub run_at_fault : {S : Type 0} (style : Style) (turn : ℕ → Item → S → Turn S) (finish : S → Output) (s : S) (k : ℕ) (fault : RecordFault) → run style turn finish s k (only_fault fault) ≡ refused style (broken fault)
unfolding run_over
run_at_fault style turn finish s k fault = refl

pub run_at_end : {S : Type 0} (style : Style) (turn : ℕ → Item → S → Turn S) (finish : S → Output) (s : S) (k : ℕ) → run style turn finish s k nothing ≡ finish s
unfolding run_over
run_at_end style turn finish s k = refl

after_other : {S : Type 0} (style : Style) (item : Item) (s : S) (more : S → Output) (b : Bool) → after_turn style (if b then goes_on [] s else over (misplaced item)) more ≡ (if b then more s else refused style (misplaced item))
after_other style item s more true = refl
after_other style item s more false = refl

pub run_at_other : {S : Type 0} (style : Style) (kind : Kind) (take_one : ℕ → Item → S → Turn S) (finish : S → Output) (s : S) (k : ℕ) (item : Item) (more : Bundle) → same_kind item.kind kind ≡ false
    → run style (taking kind take_one) finish s k (before_bundle item more) ≡ other_output style item (run style (taking kind take_one) finish s (k + 1) more)
unfolding run_over
run_at_other {S} style kind take_one finish s k item more other =
    let rest : S → Output = λ next. run style (taking kind take_one) finish next (k + 1) more in
    ap (λ (b : Bool). after_turn style (if b then take_one k item s else passed item s) rest) other ∙ after_other style item s rest (same_kind item.kind Note)

pub run_at_taken : {S : Type 0} (style : Style) (kind : Kind) (take_one : ℕ → Item → S → Turn S) (finish : S → Output) (s : S) (k : ℕ) (item : Item) (more : Bundle) → same_kind item.kind kind ≡ true
    → run style (taking kind take_one) finish s k (before_bundle item more) ≡ after_turn style (take_one k item s) (λ next. run style (taking kind take_one) finish next (k + 1) more)
unfolding run_over
run_at_taken {S} style kind take_one finish s k item more is =
    let rest : S → Output = λ next. run style (taking kind take_one) finish next (k + 1) more in
    ap (λ (b : Bool). after_turn style (if b then take_one k item s else passed item s) rest) is
