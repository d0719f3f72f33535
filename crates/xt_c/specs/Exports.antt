-- What each export answers, by what its handles held (this profile's own).
use Rattle.std.specs.Prelude.{◌≡◌, ◌⊎◌, ℕ, List, [], Option, Some, None, Result, Ok, Err}
use Rattle.xt_io.specs.declared.Item.{Item}
use Rattle.type_trees.specs.Trees.{Tree}
use Rattle.type_trees.specs.View.{tree}
use Rattle.tool_types.specs.Types.{declare}
use Rattle.tool_types.specs.names.Names.{pair_named}
use Rattle.tool_words.specs.Words.{Pair}
use Rattle.tool_runs.specs.output.Outputs.{Refusal}
use Rattle.xt_calls.specs.Calls as calls
use Rattle.xt_calls.specs.Answering.{Tells, TellsNone}
use Rattle.xt_calls.specs.Laws.{Agrees, Projected, ComesBack}
use Rattle.xt_calls.specs.Opened.{front}
use Rattle.xt_calls.specs.declared.answers.Answer.{Answer}
use Rattle.xt_calls.specs.declared.types.Types.{Types}
use Rattle.xt_calls.specs.declared.words.Floats.{Floats}
use Rattle.xt_calls.specs.declared.readers.Reader.{Reader}
use Rattle.xt_handles.specs.Handled.{TellsShown}

-- ---- a call that answers: 13 where the handle is null, 6 for want of memory

abbrev pub Says : {K : Type 0} → (K → Answer) → Option K → (old new : List ℕ) → (needed status : ℕ) → Type 0
Says answer None old new needed status = TellsNone 13 old new needed status
Says answer (Some kept) old new needed status = Tells (answer kept) old new needed status ⊎ TellsNone 6 old new needed status

-- a call that is answered, or refused
abbrev pub AnswersOrNot : Result Answer Refusal → (old new : List ℕ) → (needed status : ℕ) → Type 0
AnswersOrNot (Ok answer) old new needed status = Tells answer old new needed status ⊎ TellsNone 6 old new needed status
AnswersOrNot (Err refusal) old new needed status = Tells (calls.refused refusal) old new needed status ⊎ TellsNone 6 old new needed status

abbrev pub SaysOrNot : {K : Type 0} → (K → Result Answer Refusal) → Option K → (old new : List ℕ) → (needed status : ℕ) → Type 0
SaysOrNot answer None old new needed status = TellsNone 13 old new needed status
SaysOrNot answer (Some kept) old new needed status = AnswersOrNot (answer kept) old new needed status

-- ---- what the commands write

-- An answer was told that is this line or record.
abbrev pub TellsAs : {X : Type 0} → (Answer → X) → X → (old new : List ℕ) → (needed status : ℕ) → Type 0
TellsAs view x old new needed status = (answer : Answer) × (view answer ≡ x) × Tells answer old new needed status

abbrev pub WritesAs : {A K X : Type 0} → Option A → (Answer → X) → (A → K → X) → K → (old new : List ℕ) → (needed status : ℕ) → Type 0
WritesAs None view x kept old new needed status = TellsNone 2 old new needed status
WritesAs (Some form) view x kept old new needed status = TellsAs view (x form kept) old new needed status ⊎ TellsNone 6 old new needed status

-- What is answered is what a command writes.
abbrev pub WritesIn : {A K X : Type 0} → Option A → (Answer → X) → (A → K → X) → Option K → (old new : List ℕ) → (needed status : ℕ) → Type 0
WritesIn asked view x None old new needed status = TellsNone 13 old new needed status
WritesIn asked view x (Some kept) old new needed status = WritesAs asked view x kept old new needed status

-- The commands judge and name, over any records that declare what is held, as the calls do.
abbrev pub AgreesWithCommands : Option Types → Type 0
AgreesWithCommands None = Unit {0}
AgreesWithCommands (Some types) = (records : List Item) → declare 0 [] records ≡ Ok (front types) → Agrees records (front types)

-- ---- JSON with floats as they are asked

-- An answer was told that is a line of a command, with floats as numbers or as it stands.
abbrev pub TellsLine : {X : Type 0} → (Answer → X) → X → Floats → Tree → (old new : List ℕ) → (needed status : ℕ) → Type 0
TellsLine view x floats t old new needed status = (plain : Answer) × (view plain ≡ x) × TellsShown floats t plain old new needed status

abbrev pub ShowsLine : {X : Type 0} → Option Floats → (Answer → X) → (Reader → X) → Option Reader → (old new : List ℕ) → (needed status : ℕ) → Type 0
ShowsLine floats view x None old new needed status = TellsNone 13 old new needed status
ShowsLine None view x (Some kept) old new needed status = TellsNone 2 old new needed status
ShowsLine (Some floats) view x (Some kept) old new needed status = TellsLine view (x kept) floats (tree kept.ty) old new needed status ⊎ TellsNone 6 old new needed status

-- What is read of a sample's value is written as that value.
abbrev pub ReadComesBack : Option Reader → Type 0
ReadComesBack None = Unit {0}
ReadComesBack (Some kept) = ComesBack kept.rep (tree kept.ty)

-- ---- the headline

-- Where a reader was opened among the types of a bundle, each sample that spells a value of the writer's type is read as the value's projection.
abbrev pub ReadsProjections : Option Types → Option Pair → Option Reader → Type 0
ReadsProjections None pair held = Unit {0}
ReadsProjections (Some types) None held = Unit {0}
ReadsProjections (Some types) (Some pair) None = Unit {0}
ReadsProjections (Some types) (Some pair) (Some reader) = (bundle : List ℕ) (writer : Tree) → calls.types_of bundle ≡ Ok (front types) → pair_named pair.reader pair.writer (front types) ≡ Ok (tree reader.ty, writer) → Projected pair (tree reader.ty) writer
