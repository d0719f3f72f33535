-- What a call answers by what its handles held (this profile's own): 13 where the handle is null, 6 for want of memory.
use Rattle.std.specs.Prelude.{◌≡◌, ◌⊎◌, ℕ, List, Option, Some, None, Result, Ok, Err}
use Rattle.type_trees.specs.Trees.{Tree}
use Rattle.type_trees.specs.View.{tree}
use Rattle.tool_runs.specs.output.Outputs.{Refusal}
use Rattle.tool_runs.specs.output.Runs.{refusal}
use Rattle.tool_runs.specs.declared.output.stop.Stop.{Stop}
use Rattle.tool_runs.specs.declared.output.stop.Stop.TheVariants as stops
use Rattle.xt_calls.specs.Calls as calls
use Rattle.xt_calls.specs.Answering.{Tells, TellsNone}
use Rattle.xt_calls.specs.Opened.{front}
use Rattle.xt_calls.specs.declared.answers.Answer.{Answer}
use Rattle.xt_calls.specs.declared.types.Types.{Types}
use Rattle.xt_calls.specs.declared.words.Floats.{Floats}
use Rattle.xt_calls.specs.declared.readers.Reader.{Reader}

-- ---- a call that opens: with 0 the handle holds what was asked; else it is null, and the refusal is told, or memory was wanting

abbrev pub Opens : {A K : Type 0} → (K → A) → Result A Refusal → Option K → (old new : List ℕ) → (needed status : ℕ) → Type 0
Opens view (Ok a) (Some kept) old new needed status = (view kept ≡ a) × TellsNone 0 old new needed status
Opens view (Err refusal) (Some kept) old new needed status = ⊥
Opens view (Ok a) None old new needed status = TellsNone 6 old new needed status
Opens view (Err refusal) None old new needed status = Tells (calls.refused refusal) old new needed status ⊎ TellsNone 6 old new needed status

-- a reader among types that are held
abbrev pub OpensReader : Option Types → List ℕ → List ℕ → ℕ → ℕ → Option Reader → (old new : List ℕ) → (needed status : ℕ) → Type 0
OpensReader None r w rep flags None old new needed status = TellsNone 13 old new needed status
OpensReader None r w rep flags (Some kept) old new needed status = ⊥
OpensReader (Some types) r w rep flags held old new needed status = Opens (λ (k : Reader). tree k.ty) (calls.reader_of (calls.pair_of r w rep flags) (front types)) held old new needed status

-- the representation that was asked
abbrev pub HasRep : ℕ → Option Reader → Type 0
HasRep rep None = Unit {0}
HasRep rep (Some kept) = calls.rep_of rep ≡ Some kept.rep

-- ---- parts of these

abbrev pub HandsStop : Stop → (old new : List ℕ) → (needed status : ℕ) → Type 0
HandsStop (stops.Refused r) old new needed status = Tells (calls.refused (refusal r)) old new needed status
HandsStop (stops.Halted halt) old new needed status = TellsNone 6 old new needed status

-- the handle holds what was opened, or memory was wanting
abbrev pub Keeps : {K : Type 0} → K → Option K → (needed status : ℕ) → Type 0
Keeps opened None needed status = (needed ≡ 0) × (status ≡ 6)
Keeps opened (Some kept) needed status = (kept ≡ opened) × (needed ≡ 0) × (status ≡ 0)

-- ---- a call in a form that numbers ask for

abbrev pub SaysAs : {A K : Type 0} → Option A → (A → K → Answer) → K → (old new : List ℕ) → (needed status : ℕ) → Type 0
SaysAs None answer kept old new needed status = TellsNone 2 old new needed status
SaysAs (Some form) answer kept old new needed status = Tells (answer form kept) old new needed status ⊎ TellsNone 6 old new needed status

-- the same call in a form that numbers ask for, 2 where they ask for none
abbrev pub SaysIn : {A K : Type 0} → Option A → (A → K → Answer) → Option K → (old new : List ℕ) → (needed status : ℕ) → Type 0
SaysIn asked answer None old new needed status = TellsNone 13 old new needed status
SaysIn asked answer (Some kept) old new needed status = SaysAs asked answer kept old new needed status

-- ---- JSON with floats as they are asked

-- An answer was told that is this one with floats as numbers, or itself.
abbrev pub TellsShown : Floats → Tree → Answer → (old new : List ℕ) → (needed status : ℕ) → Type 0
TellsShown floats t plain old new needed status = (shown : Answer) × calls.Shows floats t plain shown × Tells shown old new needed status

abbrev pub SaysShown : Option Floats → (Reader → Answer) → Option Reader → (old new : List ℕ) → (needed status : ℕ) → Type 0
SaysShown floats answer None old new needed status = TellsNone 13 old new needed status
SaysShown None answer (Some kept) old new needed status = TellsNone 2 old new needed status
SaysShown (Some floats) answer (Some kept) old new needed status = TellsShown floats (tree kept.ty) (answer kept) old new needed status ⊎ TellsNone 6 old new needed status
