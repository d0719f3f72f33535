-- What was told is the line or the record of a command, and what a reader reads are projections.
use Rattle.std.proofs.Common.{◌≡◌, sym, ap, ℕ, List, inl, inr, None, Some, Result, Ok, Err}
use Rattle.std.specs.declared.option.Option.{Option}
use Rattle.type_trees.specs.View.{tree}
use Rattle.tool_runs.specs.output.Outputs.{Refusal}
use Rattle.tool_words.specs.Words.{Pair}
use Rattle.xt_calls.specs.declared.answers.Answer.{Answer}
use Rattle.xt_calls.specs.declared.types.Types.{Types}
use Rattle.xt_calls.specs.declared.readers.Reader.{Reader}
use Rattle.xt_calls.specs.Calls as calls
use Rattle.xt_calls.specs.declared.words.Floats.{Floats}
use Rattle.xt_calls.specs.Laws.{ValuesComeBack, CommandsAgree, Headline}
use Rattle.xt_calls.specs.Opened.{front}
use Rattle.xt_handles.specs.Handled.{SaysIn, SaysAs, SaysShown, Opens, OpensReader}
use Rattle.xt_c.specs.Exports.{WritesIn, WritesAs, ShowsLine, ReadComesBack, AgreesWithCommands, ReadsProjections}

writes_as : {A K X : Type 0} (asked : Option A) (view : Answer → X) (answer : A → K → Answer) (x : A → K → X) (kept : K) (old new : List ℕ) (needed status : ℕ) → ((a : A) (k : K) → view (answer a k) ≡ x a k) → SaysAs asked answer kept old new needed status → WritesAs asked view x kept old new needed status
writes_as None view answer x kept old new needed status law says = says
writes_as (Some a) view answer x kept old new needed status law (inl told) = inl (answer a kept, law a kept, told)
writes_as (Some a) view answer x kept old new needed status law (inr none) = inr none

pub writes : {A K X : Type 0} (asked : Option A) (view : Answer → X) (answer : A → K → Answer) (x : A → K → X) (held : Option K) (old new : List ℕ) (needed status : ℕ) → ((a : A) (k : K) → view (answer a k) ≡ x a k) → SaysIn asked answer held old new needed status → WritesIn asked view x held old new needed status
writes asked view answer x None old new needed status law says = says
writes asked view answer x (Some kept) old new needed status law says = writes_as asked view answer x kept old new needed status law says

-- ---- lines with floats as numbers

pub shows_line : {X : Type 0} (floats : Option Floats) (view : Answer → X) (answer : Reader → Answer) (x : Reader → X) (held : Option Reader) (old new : List ℕ) (needed status : ℕ) → ((r : Reader) → view (answer r) ≡ x r) → SaysShown floats answer held old new needed status → ShowsLine floats view x held old new needed status
shows_line floats view answer x None old new needed status law says = says
shows_line None view answer x (Some kept) old new needed status law says = says
shows_line (Some floats) view answer x (Some kept) old new needed status law (inl told) = inl (answer kept, law kept, told)
shows_line (Some floats) view answer x (Some kept) old new needed status law (inr none) = inr none

-- a reader's type is valid
pub read_comes_back : ValuesComeBack → (held : Option Reader) → ReadComesBack held
read_comes_back law None = tt
read_comes_back law (Some kept) = law kept.rep (tree kept.ty) kept.valid

pub agrees : CommandsAgree → (held : Option Types) → AgreesWithCommands held
agrees law None = tt
agrees law (Some types) = λ records declared. law records (front types) declared

-- a reader that was opened has the type that was asked
opened : {K A : Type 0} (view : K → A) (asked : Result A Refusal) (kept : K) (old new : List ℕ) (needed status : ℕ) → Opens view asked (Some kept) old new needed status → asked ≡ Ok (view kept)
opened view (Ok a) kept old new needed status opens = ap (λ (x : _). Ok x) (sym opens.0)
opened view (Err refusal) kept old new needed status opens = absurd opens

by_pair : Headline → (types : Types) (pair : Option Pair) (held : Option Reader) (old new : List ℕ) (needed status : ℕ) → Opens (λ (k : Reader). tree k.ty) (calls.reader_of pair (front types)) held old new needed status → ReadsProjections (Some types) pair held
by_pair law types None held old new needed status opens = tt
by_pair law types (Some pair) None old new needed status opens = tt
by_pair law types (Some pair) (Some reader) old new needed status opens = λ bundle writer declares named.
    law bundle (front types) pair (tree reader.ty) writer declares named (opened (λ (k : Reader). tree k.ty) (calls.reader_of (Some pair) (front types)) reader old new needed status opens)

pub projections : Headline → (types : Option Types) (r w : List ℕ) (rep flags : ℕ) (held : Option Reader) (old new : List ℕ) (needed status : ℕ) → OpensReader types r w rep flags held old new needed status → ReadsProjections types (calls.pair_of r w rep flags) held
projections law None r w rep flags held old new needed status opens = tt
projections law (Some types) r w rep flags held old new needed status opens = by_pair law types (calls.pair_of r w rep flags) held old new needed status opens
