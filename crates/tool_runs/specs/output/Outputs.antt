-- What a command writes, piece by piece, and how it ends (this profile's own).
use Rattle.std.specs.Prelude.{ℕ, ◌+◌, Bool, true, false, List, [], ◌∷◌, ◌++◌, Option, Some, None, Result, Ok, Err, if◌then◌else◌, codes}
use Rattle.std.specs.List.{concat}
use Rattle.xt_io.specs.declared.Kind.{Kind}
use Rattle.xt_io.specs.declared.Kind.TheVariants.{Object, Sample, Idl, Json, Note}
use Rattle.xt_io.specs.declared.Item.{Item}
use Rattle.xt_io.specs.declared.RecordFault.{RecordFault}
use Rattle.xt_io.specs.Bundles.{Bundle}
use Rattle.tool_runs.specs.declared.output.ending.Ending.{Ending}
use Rattle.tool_runs.specs.declared.output.ending.Ending.TheVariants.{Done, Refused}
use Rattle.tool_runs.specs.declared.output.ending.Cause.{Cause}
use Rattle.tool_runs.specs.declared.output.ending.Cause.TheVariants.{Bundle as BundleFault}
use Rattle.tool_runs.specs.declared.output.ending.Style.{Style}
use Rattle.tool_runs.specs.declared.output.ending.Style.TheVariants.{Lines, Records}
use Rattle.tool_runs.specs.output.Texts.{bundle_text, record_fault_text}
use Rattle.xt_io.specs.Records.{record_octets}

-- Whole lines or whole records, in order, and the ending.
pub record Output : Type 0 where
  pub pieces : List (List ℕ)
  pub ending : Ending

-- all of the text
abbrev pub text_of : Output → List ℕ
text_of output = concat output.pieces

-- pieces before what else is written
abbrev pub after_pieces : List (List ℕ) → Output → Output
after_pieces pieces output = record { pieces = pieces ++ output.pieces; ending = output.ending }

-- nothing more, and this ending
abbrev pub ended_as : Ending → Output
ended_as ending = record { pieces = []; ending = ending }

-- nothing more
abbrev pub finished : Output
finished = ended_as Done

-- Why a command is refused: the words of its last line, and the cause.
pub record Refusal : Type 0 where
  pub text : List ℕ
  pub cause : Cause

-- A last line: one that ends in a line feed, or a Note without one.
abbrev pub last_piece : Style → List ℕ → List ℕ
last_piece Lines text = text ++ 10 ∷ []
last_piece Records text = record_octets Note text

abbrev pub refused : Style → Refusal → Output
refused style refusal = record { pieces = last_piece style refusal.text ∷ []; ending = Refused refusal.cause }

-- ---- one step after another, up to the first refusal

infixl 10 ◌>>=◌
abbrev pub ◌>>=◌ : {A B : Type 0} → Result A Refusal → (A → Result B Refusal) → Result B Refusal
(Ok a) >>= f = f a
(Err refusal) >>= f = Err refusal

-- what is written where nothing is refused, or the last line
abbrev pub unless_refused : Style → Result Output Refusal → Output
unless_refused style (Ok output) = output
unless_refused style (Err refusal) = refused style refusal

-- ---- a run over records

-- What becomes of one record: pieces, and the state in which the next record is met; or the end of the command.
pub data Turn (S : Type 0) : Type 0 where
  goes_on : List (List ℕ) → S → Turn S
  over : Refusal → Turn S

abbrev pub after_turn : {S : Type 0} → Style → Turn S → (S → Output) → Output
after_turn style (goes_on pieces state) more = after_pieces pieces (more state)
after_turn style (over refusal) more = refused style refusal

abbrev pub bundle_refusal : List ℕ → Refusal
bundle_refusal text = record { text = text; cause = BundleFault }

abbrev pub broken : RecordFault → Refusal
broken fault = bundle_refusal (record_fault_text fault)

-- a record that the command doesn't take
abbrev pub misplaced : Item → Refusal
misplaced item = bundle_refusal (bundle_text item.at (codes "misplaced"))

-- what is written at the end of the input
abbrev pub at_end : {S : Type 0} → Style → (S → Output) → S → Option RecordFault → Output
at_end style finish state None = finish state
at_end style finish state (Some fault) = refused style (broken fault)

-- A turn for each record, numbered from k, in order, to the end of the bundle.
unfoldable pub run_over : {S : Type 0} → Style → (ℕ → Item → S → Turn S) → (S → Output) → S → ℕ → List Item → Option RecordFault → Output
run_over style turn finish state k [] end = at_end style finish state end
run_over style turn finish state k (item ∷ items) end = after_turn style (turn k item state) (λ next. run_over style turn finish next (k + 1) items end)

abbrev pub run : {S : Type 0} → Style → (ℕ → Item → S → Turn S) → (S → Output) → S → ℕ → Bundle → Output
run style turn finish state k bundle = run_over style turn finish state k bundle.items bundle.end

-- ---- which records a body holds

abbrev pub same_kind : Kind → Kind → Bool
same_kind Object Object = true
same_kind Sample Sample = true
same_kind Idl Idl = true
same_kind Json Json = true
same_kind Note Note = true
same_kind kind other = false

-- Notes are passed over, and nothing else has a place.
abbrev pub passed : {S : Type 0} → Item → S → Turn S
passed item state = if same_kind item.kind Note then goes_on [] state else over (misplaced item)

-- Records of one kind are taken as said.
abbrev pub taking : {S : Type 0} → Kind → (ℕ → Item → S → Turn S) → ℕ → Item → S → Turn S
taking kind take k item state = if same_kind item.kind kind then take k item state else passed item state

-- No record is taken.
abbrev pub taking_none : {S : Type 0} → ℕ → Item → S → Turn S
taking_none k item state = passed item state

-- a record that is not taken, before what else is written
abbrev pub other_output : Style → Item → Output → Output
other_output style item more = if same_kind item.kind Note then more else refused style (misplaced item)
