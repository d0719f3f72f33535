-- What a part of a run wrote (this profile's own). Each clause speaks of the output that was to be written, where the source's octets tell it.
use Rattle.std.specs.Prelude.{◌≡◌, ℕ, ◌+◌, ◌≤◌, List, [], ◌++◌, true, false, ◌⊎◌, Option, Some, None, Result, Ok, Err, IsErrOf}
use Rattle.std.specs.Io.KnownBytes.{Appends, IsAtEnd}
use Rattle.std.specs.List.{concat}
use Rattle.xt_io.specs.Outside.{Rose, AppendsPrefix}
use Rattle.xt_io.specs.declared.Head.{Head}
use Rattle.xt_io.specs.declared.Kind.TheVariants.{Note}
use Rattle.xt_io.specs.declared.RecordFault.{RecordFault}
use Rattle.xt_io.specs.declared.RecordFault.TheVariants as record_fault
use Rattle.xt_io.specs.Bundles.{Bundle, limit_of, nothing, only_fault, cut, with_payload, before_bundle, item_of}
use Rattle.xt_io.specs.Readers.{Reading, inside}
use Rattle.tool_runs.specs.declared.output.ending.Ending.{Ending}
use Rattle.tool_runs.specs.declared.output.ending.Cause.TheVariants as causes
use Rattle.tool_runs.specs.declared.output.ending.Style.{Style}
use Rattle.tool_runs.specs.declared.output.turns.Next.{Next}
use Rattle.tool_runs.specs.declared.output.halt.Halt.{Halt}
use Rattle.tool_runs.specs.declared.output.halt.Halt.TheVariants as halts
use Rattle.tool_runs.specs.declared.output.stop.Refused.{Refused}
use Rattle.tool_runs.specs.declared.output.stop.Stop.{Stop}
use Rattle.tool_runs.specs.declared.output.stop.Stop.TheVariants as stops
use Rattle.tool_runs.specs.output.Outputs.{Output, Refusal, text_of, after_pieces, ended_as, refused, broken, misplaced, same_kind}

-- ---- an output

-- It was written whole, and the ending is its.
pub record Wrote (output : Output) (ended : Ending) (old new : Option (List ℕ)) : Type 0 where
  pub ending : ended ≡ output.ending
  pub text : Appends old new (text_of output)

-- Some of the pieces were written, each of them whole, and then this.
abbrev pub WrotePieces : Output → List ℕ → Option (List ℕ) → Option (List ℕ) → Type 0
WrotePieces output last old new = (pieces : List (List ℕ)) × (rest : Output) × (output ≡ after_pieces pieces rest) × Appends old new (concat pieces ++ last)

-- the same, cut short
abbrev pub CutPieces : Output → List ℕ → Option (List ℕ) → Option (List ℕ) → Type 0
CutPieces output last old new = (pieces : List (List ℕ)) × (rest : Output) × (output ≡ after_pieces pieces rest) × AppendsPrefix old new (concat pieces ++ last)

-- A beginning of the text was written, and where the source failed, whole pieces.
abbrev pub Halted : Output → Halt → Option (List ℕ) → Option (List ℕ) → Type 0
Halted output halts.ReadFault old new = WrotePieces output [] old new
Halted output halts.WriteFault old new = AppendsPrefix old new (text_of output)
Halted output halts.OutOfMemory old new = AppendsPrefix old new (text_of output)

abbrev pub Ends : Output → Result Ending Halt → Option (List ℕ) → Option (List ℕ) → Type 0
Ends output (Ok ended) old new = Wrote output ended old new
Ends output (Err halt) old new = Halted output halt old new

-- What a call wrote that writes all that is still to come.
abbrev pub Writes : Option Output → Result Ending Halt → Option (List ℕ) → Option (List ℕ) → Type 0
Writes None result old new = Unit {0}
Writes (Some output) result old new = Ends output result old new

-- What was written leads from one output to what is still to come.
abbrev pub Leads : Option Output → Option Output → Option (List ℕ) → Option (List ℕ) → Type 0
Leads None rest old new = Unit {0}
Leads (Some output) None old new = ⊥
Leads (Some output) (Some rest) old new = (pieces : List (List ℕ)) × (output ≡ after_pieces pieces rest) × Appends old new (concat pieces)

-- ---- a refusal that is still to be written

abbrev pub refusal : Refused → Refusal
refusal r = record { text = r.text; cause = r.cause }

-- ---- the counts of faults

-- How a call halts that may write and doesn't read: it answers no read fault, the sink's count never falls, and a write fault comes only
-- where that rose.
pub record HaltsWriting {T : Type 0} (sink_before sink_now : ℕ) (result : Result T Halt) : Type 0 where
  pub sink_later : sink_before ≤ sink_now
  pub no_read : IsErrOf result halts.ReadFault → ⊥
  pub write : IsErrOf result halts.WriteFault → Rose sink_before sink_now

-- the same of the source, for a call that may read and doesn't write
pub record HaltsReading {T : Type 0} (source_before source_now : ℕ) (result : Result T Halt) : Type 0 where
  pub source_later : source_before ≤ source_now
  pub read : IsErrOf result halts.ReadFault → Rose source_before source_now
  pub no_write : IsErrOf result halts.WriteFault → ⊥

-- A call that reads and writes: each halt but want of memory comes only where its count rose.
pub record Halts {T : Type 0} (source_before source_now sink_before sink_now : ℕ) (result : Result T Halt) : Type 0 where
  pub source_later : source_before ≤ source_now
  pub sink_later : sink_before ≤ sink_now
  pub read : IsErrOf result halts.ReadFault → Rose source_before source_now
  pub write : IsErrOf result halts.WriteFault → Rose sink_before sink_now

-- the same, where a refusal is another answer
pub record Stops {T : Type 0} (source_before source_now sink_before sink_now : ℕ) (result : Result T Stop) : Type 0 where
  pub source_later : source_before ≤ source_now
  pub sink_later : sink_before ≤ sink_now
  pub read : IsErrOf result (stops.Halted halts.ReadFault) → Rose source_before source_now
  pub write : IsErrOf result (stops.Halted halts.WriteFault) → Rose sink_before sink_now

-- ---- one step towards an output

-- What is still to come where a command is refused.
abbrev pub told_refusal : Style → Option Output → Refused → Option Output
told_refusal style None r = None
told_refusal style (Some output) r = Some (refused style (refusal r))

-- Where a call goes on, what it wrote leads to the rest. Where it is refused, the last line is still to be written. Where it is halted,
-- a beginning was written.
abbrev pub Steps : {T : Type 0} → Style → Option Output → Option Output → Result T Stop → Option (List ℕ) → Option (List ℕ) → Type 0
Steps style output rest (Ok u) old new = Leads output rest old new
Steps style output rest (Err (stops.Refused r)) old new = Leads output (told_refusal style output r) old new
Steps style output rest (Err (stops.Halted halt)) old new = Writes output (Err halt) old new

-- the stop is this refusal, or memory for it was wanting
abbrev pub Refuses : Refusal → Stop → Type 0
Refuses said (stops.Refused r) = refusal r ≡ said
Refuses said (stops.Halted halt) = halt ≡ halts.OutOfMemory

-- a refusal is a fault of the bundle
abbrev pub StopsBundle : Stop → Type 0
StopsBundle (stops.Refused r) = r.cause ≡ causes.Bundle
StopsBundle (stops.Halted halt) = Unit {0}

-- What a call answers that neither reads nor writes: what the definition gives, or its refusal, or want of memory.
abbrev pub Comes : {A X : Type 0} → Result A Refusal → (X → A) → Result X Stop → Type 0
Comes said view (Ok x) = said ≡ Ok (view x)
Comes said view (Err (stops.Refused r)) = said ≡ Err (refusal r)
Comes said view (Err (stops.Halted halt)) = halt ≡ halts.OutOfMemory

-- What a call that reads answers, where the source's octets tell it: what the definition gives, or its refusal, or a halt.
abbrev pub ComesTold : {A X : Type 0} → Option (Result A Refusal) → (X → A) → Result X Stop → Type 0
ComesTold None view result = Unit {0}
ComesTold (Some said) view (Ok x) = said ≡ Ok (view x)
ComesTold (Some said) view (Err (stops.Refused r)) = said ≡ Err (refusal r)
ComesTold (Some said) view (Err (stops.Halted halt)) = Unit {0}

-- ---- the next record of a body

-- the bundle that is still to come, where the reader just answered this
abbrev pub both : {A : Type 0} → (List ℕ → Bundle → A) → Option (List ℕ) → Option Bundle → Option A
both f (Some octets) (Some after) = Some (f octets after)
both f (Some octets) None = None
both f None after = None

abbrev pub coming : Next → Reading → Option Bundle
coming Next.End reader = Some nothing
coming (Next.Broken fault) reader = Some (only_fault fault)
coming (Next.Record head) reader = both (with_payload head) (inside reader) reader.ahead

-- The reader's last head is this, which is within the limit of its kind, and none of its payload was read.
pub record IsReady (head : Head) (reader : Reading) : Type 0 where
  pub within : head.length ≤ limit_of head.kind
  pub good : reader.fault ≡ None
  pub pending : reader.pending ≡ Some (record { head = head; rest = head.length })

-- the payload of a record is still to be read; at the end the input was read to its end
abbrev pub MayGo : Next → Reading → Type 0
MayGo (Next.Record head) reader = IsReady head reader
MayGo Next.End reader = IsAtEnd reader.left
MayGo (Next.Broken fault) reader = Unit {0}

-- how many turns may be left
abbrev pub turns_left : Next → ℕ → ℕ
turns_left (Next.Record head) follow = follow + 1
turns_left Next.End follow = 0
turns_left (Next.Broken fault) follow = 0

-- What a turn leaves to the next one.
pub record GoesOn (old new : Reading) : Type 0 where
  pub good : new.fault ≡ None
  pub follow : new.may_follow ≡ old.may_follow

-- what is still to come behind so many records
abbrev pub at_number : (ℕ → Output) → Result ℕ Stop → Option Output
at_number more (Ok k) = Some (more k)
at_number more (Err stop) = None

-- what is still to come where all was written but the ending
abbrev pub at_ending : Result Ending Stop → Option Output
at_ending (Ok ending) = Some (ended_as ending)
at_ending (Err stop) = None

-- ---- one record, whose payload was read whole or is cut

-- The next record has this head, and of its payload this holds; the others are still to come.
abbrev pub TakesRecord : Head → (List ℕ → Type 0) → Option Bundle → Option Bundle → Type 0
TakesRecord head P None after = Unit {0}
TakesRecord head P (Some before) None = ⊥
TakesRecord head P (Some before) (Some after) = (octets : List ℕ) × (before ≡ before_bundle (item_of head octets) after) × P octets

-- The next record, whose head this is, is cut, and the refusal says so.
abbrev pub Cuts : Head → Option Bundle → Refused → Type 0
Cuts head None r = Unit {0}
Cuts head (Some before) r = (before ≡ cut head) × (refusal r ≡ broken (record_fault.Truncated head.at head.kind))

-- What a call answers that reads a record's payload whole: of the payload this holds, or it is cut.
abbrev pub TakesPayload : {T : Type 0} → Head → (T → List ℕ → Type 0) → Option Bundle → Option Bundle → Result T Stop → Type 0
TakesPayload head P before after (Ok t) = TakesRecord head (P t) before after
TakesPayload head P before after (Err (stops.Refused r)) = Cuts head before r
TakesPayload head P before after (Err (stops.Halted halt)) = Unit {0}

-- What a call answers that passes over a Note, or refuses a record that has no place.
abbrev pub PassesOther : {T : Type 0} → Head → Option Bundle → Option Bundle → Result T Stop → Type 0
PassesOther head before after (Ok t) = TakesRecord head (λ octets. same_kind head.kind Note ≡ true) before after
PassesOther head before after (Err (stops.Refused r)) = Cuts head before r ⊎ TakesRecord head (λ octets. (same_kind head.kind Note ≡ false) × (refusal r ≡ misplaced (item_of head octets))) before after
PassesOther head before after (Err (stops.Halted halt)) = Unit {0}

-- the stop that a reader's fault makes
abbrev pub StopsFor : RecordFault → Stop → Type 0
StopsFor record_fault.ReadFault stop = stop ≡ stops.Halted halts.ReadFault
StopsFor record_fault.OutOfMemory stop = stop ≡ stops.Halted halts.OutOfMemory
StopsFor (record_fault.Truncated at kind) stop = Refuses (broken (record_fault.Truncated at kind)) stop
StopsFor (record_fault.UnknownKind at octet) stop = Refuses (broken (record_fault.UnknownKind at octet)) stop
StopsFor (record_fault.TooLong at kind n) stop = Refuses (broken (record_fault.TooLong at kind n)) stop
StopsFor (record_fault.TooMany at) stop = Refuses (broken (record_fault.TooMany at)) stop

-- how a call stops that may read and doesn't write, where a refusal is another answer
pub record StopsReading {T : Type 0} (source_before source_now : ℕ) (result : Result T Stop) : Type 0 where
  pub source_later : source_before ≤ source_now
  pub read : IsErrOf result (stops.Halted halts.ReadFault) → Rose source_before source_now
  pub no_write : IsErrOf result (stops.Halted halts.WriteFault) → ⊥

-- how a call stops that may write and doesn't read
pub record StopsWriting {T : Type 0} (sink_before sink_now : ℕ) (result : Result T Stop) : Type 0 where
  pub later : sink_before ≤ sink_now
  pub no_read : IsErrOf result (stops.Halted halts.ReadFault) → ⊥
  pub write : IsErrOf result (stops.Halted halts.WriteFault) → Rose sink_before sink_now
