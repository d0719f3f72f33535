-- How the run of a command comes together.
use Rattle.std.proofs.Common.{◌∙◌, ◌≡◌, ℕ, List, ◌++◌, append_assoc, length, None, Some, Result, Ok, Err, refl, sym, ap, subst}
use Rattle.std.specs.declared.option.Option.{Option}
use Rattle.std.specs.List.{concat}
use Rattle.std.specs.Option.{option_map}
use Rattle.std.specs.Io.KnownBytes.{Appends}
use Rattle.std.proofs.KnownBytes.{Appends-nil}
use Rattle.xt_io.specs.declared.Item.{Item}
use Rattle.xt_io.specs.Bundles.{Bundle}
use Rattle.xt_io.specs.Outside.{AppendsPrefix}
use Rattle.xt_io.specs.Readers.{Reading}
use Rattle.tool_runs.specs.declared.output.ending.Ending.{Ending}
use Rattle.tool_runs.specs.declared.output.ending.Style.{Style}
use Rattle.tool_runs.specs.declared.output.halt.Halt.{Halt}
use Rattle.tool_runs.specs.declared.output.halt.Halt.TheVariants as halts
use Rattle.tool_runs.specs.declared.output.stop.Stop.{Stop}
use Rattle.tool_runs.specs.declared.output.stop.Stop.TheVariants as stops
use Rattle.tool_runs.specs.output.Outputs.{after_pieces, text_of, Output, Refusal, ◌>>=◌, unless_refused, ended_as}
use Rattle.tool_runs.specs.output.Runs.{Writes, Leads, Steps, Comes, ComesTold, at_number, coming, told_refusal}
use Rattle.tool_runs.proofs.OfOutput.Written.{concat-append, writes_on, stops_here}
use Rattle.tool_runs.specs.declared.front.front.Front.{Front as Read}
use Rattle.tool_runs.specs.front.Fronts.{Front, closed}
use Rattle.tool_runs.specs.front.Reading.{FrontIs, GivesFront}
use Rattle.tool_runs.specs.Commands.{command_output, with_body, with_end}
use Rattle.tool_runs.specs.Stopping.{Concludes}

pub halted : (output : Option Output) (halt : Halt) (result : Result Ending Halt) (old mid new : Option (List ℕ)) → Writes output (Err halt) old mid → result ≡ Err halt → new ≡ mid → Writes output result old new
halted output halt result old mid new p e f = rw (e, f) p

-- a step that stopped, and how the command ended
pub concluded : (T : Type 0) (style : Style) (output rest : Option Output) (stop : Stop) (result : Result Ending Halt) (old mid new : Option (List ℕ)) → Steps {T = T} style output rest (Err stop) old mid → Concludes style stop result mid new → Writes output result old new
concluded T style None rest (stops.Refused r) result old mid new p q = tt
concluded T style (Some output) rest (stops.Refused r) result old mid new p q = writes_on (Some output) (told_refusal style (Some output) r) result old mid new p q
concluded T style output rest (stops.Halted halt) result old mid new p q = halted output halt result old mid new p q.0 q.1

-- all that was to be written was
pub all_done : (first : Option Output) (last : Output) (ending : Ending) (old new : Option (List ℕ)) → last ≡ ended_as ending → Leads first (Some last) old new → Writes first (Ok ending) old new
all_done first last ending old new e p =
    writes_on first (Some last) (Ok ending) old new new p (subst (λ (o : Output). Writes (Some o) (Ok ending) new new) (sym e) (record { ending = refl; text = Appends-nil new }))

-- ---- the front

pub front_given : (style : Style) (behind : Front → Result Output Refusal) (before : Bundle) (records : List Item) (body : Option Bundle) (result : Result Ending Halt) (old new : Option (List ℕ)) → GivesFront before records body
    → Writes (option_map (λ b. unless_refused style (behind (record { records = records; body = b }))) body) result old new → Writes (Some (command_output style behind before)) result old new
front_given style behind before records None result old new p q = absurd p
front_given style behind before records (Some body) result old new p q =
    subst (λ (o : Output). Writes (Some o) result old new) (sym (ap (λ (f : Result Front Refusal). unless_refused style (f >>= behind)) p)) q

-- what comes behind the front was written
pub front_goes : (style : Style) (behind : Front → Result Output Refusal) (first : Option Bundle) (front : Read) (reader : Reading) (result : Result Ending Halt) (old new : Option (List ℕ)) → FrontIs first (Ok front) reader
    → Writes (option_map (λ b. unless_refused style (behind (record { records = front.records; body = b }))) (coming front.next reader)) result old new → Writes (option_map (command_output style behind) first) result old new
front_goes style behind None front reader result old new p q = tt
front_goes style behind (Some before) front reader result old new p q = front_given style behind before front.records (coming front.next reader) result old new p q

-- the front is refused
pub front_stops : (style : Style) (behind : Front → Result Output Refusal) (first : Option Bundle) (stop : Stop) (reader : Reading) (result : Result Ending Halt) (old new : Option (List ℕ)) → FrontIs first (Err stop) reader → Concludes style stop result old new
    → Writes (option_map (command_output style behind) first) result old new
front_stops style behind None stop reader result old new p q = tt
front_stops style behind (Some before) (stops.Refused r) reader result old new p q =
    subst (λ (o : Output). Writes (Some o) result old new) (sym (ap (λ (f : Result Front Refusal). unless_refused style (f >>= behind)) p)) q
front_stops style behind (Some before) (stops.Halted halt) reader result old new p q = halted (Some (command_output style behind before)) halt result old old new (stops_here (Some (command_output style behind before)) halt old) q.0 q.1

-- ---- a body

-- what the records come to is refused
pub prepared_stops : {X : Type 0} (style : Style) (prepared : List Item → Result (ℕ → Bundle → Output) Refusal) (records : List Item) (view : X → ℕ → Bundle → Output) (body : Option Bundle) (stop : Stop) (result : Result Ending Halt) (old new : Option (List ℕ)) → Comes (prepared records) view (Err stop) → Concludes style stop result old new
    → Writes (option_map (λ b. unless_refused style (with_body prepared records b)) body) result old new
prepared_stops style prepared records view None (stops.Refused r) result old new p q = tt
prepared_stops style prepared records view (Some body) (stops.Refused r) result old new p q =
    let written : Result (ℕ → Bundle → Output) Refusal → Output = λ found. unless_refused style (found >>= λ write. Ok (write (length records) body)) in
    subst (λ (o : Output). Writes (Some o) result old new) (sym (ap written p)) q
prepared_stops style prepared records view body (stops.Halted halt) result old new p q =
    let output = option_map (λ (b : Bundle). unless_refused style (with_body prepared records b)) body in
    halted output halt result old old new (stops_here output halt old) q.0 q.1

-- the turns are there
pub prepared_goes : (style : Style) (prepared : List Item → Result (ℕ → Bundle → Output) Refusal) (records : List Item) (write : ℕ → Bundle → Output) (body : Option Bundle) (result : Result Ending Halt) (old new : Option (List ℕ)) → prepared records ≡ Ok write → Writes (option_map (write (length records)) body) result old new
    → Writes (option_map (λ b. unless_refused style (with_body prepared records b)) body) result old new
prepared_goes style prepared records write None result old new p q = tt
prepared_goes style prepared records write (Some body) result old new p q =
    let written : Result (ℕ → Bundle → Output) Refusal → Output = λ found. unless_refused style (found >>= λ w. Ok (w (length records) body)) in
    subst (λ (o : Output). Writes (Some o) result old new) (sym (ap written p)) q

-- what comes before the body was written, and then the body
pub opening_went : (pieces : List (List ℕ)) (write : Bundle → Output) (body : Option Bundle) (result : Result Ending Halt) (old mid new : Option (List ℕ)) → ((rest : Output) → Leads (Some (after_pieces pieces rest)) (Some rest) old mid) → Writes (option_map write body) result mid new
    → Writes (option_map (λ b. after_pieces pieces (write b)) body) result old new
opening_went pieces write None result old mid new p q = tt
opening_went pieces write (Some body) result old mid new p q = writes_on (Some (after_pieces pieces (write body))) (Some (write body)) result old mid new (p (write body)) q

-- it stopped
pub opening_stopped : (style : Style) (pieces : List (List ℕ)) (write : Bundle → Output) (body : Option Bundle) (stop : Stop) (result : Result Ending Halt) (old mid new : Option (List ℕ)) → ((rest : Output) → Steps {T = Unit {0}} style (Some (after_pieces pieces rest)) (Some rest) (Err stop) old mid) → Concludes style stop result mid new
    → Writes (option_map (λ b. after_pieces pieces (write b)) body) result old new
opening_stopped style pieces write None stop result old mid new p q = tt
opening_stopped style pieces write (Some body) stop result old mid new p q = concluded (Unit {0}) style (Some (after_pieces pieces (write body))) (Some (write body)) stop result old mid new (p (write body)) q

-- the body was read to its end, and then the rest was written
pub turns_ended : (style : Style) (first : Option Output) (last : ℕ → Output) (k : ℕ) (r : Result ℕ Stop) (result : Result Ending Halt) (old mid new : Option (List ℕ)) → Steps style first (at_number last r) r old mid → r ≡ Ok k → ((i : ℕ) → Writes (Some (last i)) result mid new) → Writes first result old new
turns_ended style first last k r result old mid new steps is ends =
    let lead = subst (λ (x : Result ℕ Stop). Steps style first (at_number last x) x old mid) is steps in
    writes_on first (Some (last k)) result old mid new lead (ends k)

-- a turn stopped
pub turns_stopped : (style : Style) (first rest : Option Output) (r : Result ℕ Stop) (stop : Stop) (result : Result Ending Halt) (old mid new : Option (List ℕ)) → Steps style first rest r old mid → r ≡ Err stop → Concludes style stop result mid new → Writes first result old new
turns_stopped style first rest r stop result old mid new steps is ends =
    concluded ℕ style first rest stop result old mid new (subst (λ (x : Result ℕ Stop). Steps style first rest x old mid) is steps) ends

-- ---- nothing behind the front

-- the rest of the input is refused
pub closed_stops : {X : Type 0} (style : Style) (answered : List Item → Result Output Refusal) (records : List Item) (view : X → Unit {0}) (body : Option Bundle) (stop : Stop) (result : Result Ending Halt) (old new : Option (List ℕ)) → ComesTold (option_map closed body) view (Err stop) → Concludes style stop result old new
    → Writes (option_map (λ b. unless_refused style (with_end answered records b)) body) result old new
closed_stops style answered records view None (stops.Refused r) result old new p q = tt
closed_stops style answered records view (Some body) (stops.Refused r) result old new p q =
    let written : Result (Unit {0}) Refusal → Output = λ shut. unless_refused style (shut >>= λ u. answered records) in
    subst (λ (o : Output). Writes (Some o) result old new) (sym (ap written p)) q
closed_stops style answered records view body (stops.Halted halt) result old new p q =
    let output = option_map (λ (b : Bundle). unless_refused style (with_end answered records b)) body in
    halted output halt result old old new (stops_here output halt old) q.0 q.1

-- it was read to its end
pub closed_goes : (style : Style) (answered : List Item → Result Output Refusal) (records : List Item) (body : Option Bundle) (result : Result Ending Halt) (old new : Option (List ℕ)) → ComesTold {X = Unit {0}} (option_map closed body) (λ u. u) (Ok tt)
    → Writes (Some (unless_refused style (answered records))) result old new → Writes (option_map (λ b. unless_refused style (with_end answered records b)) body) result old new
closed_goes style answered records None result old new p q = tt
closed_goes style answered records (Some body) result old new p q =
    let written : Result (Unit {0}) Refusal → Output = λ shut. unless_refused style (shut >>= λ u. answered records) in
    subst (λ (o : Output). Writes (Some o) result old new) (sym (ap written p)) q

-- ---- pieces

-- the text of all of them was written
pub pieces_went : (pieces : List (List ℕ)) (rest : Output) (text : List ℕ) (old new : Option (List ℕ)) → text ≡ concat pieces → Appends old new text → Leads (Some (after_pieces pieces rest)) (Some rest) old new
pieces_went pieces rest text old new e p = (pieces, refl, subst (Appends old new) e p)

prefix_of_all : (pieces : List (List ℕ)) (rest : Output) (text : List ℕ) (old new : Option (List ℕ)) → text ≡ concat pieces → AppendsPrefix old new text → AppendsPrefix old new (text_of (after_pieces pieces rest))
prefix_of_all pieces rest text old new e p =
    let (some, back, split, appended) = p in
    (some, back ++ text_of rest, concat-append pieces rest.pieces ∙ ap (λ l. l ++ text_of rest) (sym e ∙ split) ∙ append_assoc some back (text_of rest), appended)

-- a beginning of it
pub pieces_stayed : (pieces : List (List ℕ)) (rest : Output) (text : List ℕ) (halt : Halt) (old new : Option (List ℕ)) → text ≡ concat pieces → AppendsPrefix old new text → (halt ≡ halts.ReadFault → ⊥) → Writes (Some (after_pieces pieces rest)) (Err halt) old new
pieces_stayed pieces rest text halts.ReadFault old new e p no_read = absurd (no_read refl)
pieces_stayed pieces rest text halts.WriteFault old new e p no_read = prefix_of_all pieces rest text old new e p
pieces_stayed pieces rest text halts.OutOfMemory old new e p no_read = prefix_of_all pieces rest text old new e p
