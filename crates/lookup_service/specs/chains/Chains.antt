-- Sessions one after another, by what is held of each (own).
use Rattle.std.specs.Prelude.{◌≡◌, ◌≢◌, ℕ, List, [], ◌∷◌, ◌++◌, Bool, true, Some}
use Rattle.xt_io.specs.Links.{Held, is_nothing}
use Rattle.type_registry.specs.Passed.{PassView, IsPass}
use Rattle.lookup_service.specs.declared.ended.Ended.{Ended}
use Rattle.lookup_service.specs.declared.ended.Ended.TheVariants.{OutOfMemory}
use Rattle.lookup_service.specs.Sessions.{Session, HasSessionCause}

-- What is held of a session that led a pass from one state to the next: it read what was got and sent what was taken, and the octets that it left
-- unread say whether the input had ended. A link that hasn't failed didn't end it; where all went well, want of memory didn't either.
pub record IsEntry (name : List ℕ → List ℕ) (good : Bool) (first next : PassView) (entry : Held) : Type 0 where
  pub sound : IsPass name first
  pub ended : Ended
  pub left : List ℕ
  pub session : Session name first next entry.got entry.taken (Some left) ended
  pub at_end : entry.ended ≡ is_nothing left
  pub cause : HasSessionCause 0 entry.faults ended
  pub memory : good ≡ true → ended ≢ OutOfMemory

-- Entries one after another lead a pass from a first state to a last one, each from where the one before ended.
abbrev pub Chain : (List ℕ → List ℕ) → Bool → PassView → List Held → PassView → Type 0
Chain name good first [] last = last ≡ first
Chain name good first (entry ∷ entries) last = (next : PassView) × IsEntry name good first next entry × Chain name good next entries last

-- all that was got, and all that was taken
abbrev pub got_of : List Held → List ℕ
got_of [] = []
got_of (entry ∷ entries) = entry.got ++ got_of entries

abbrev pub taken_of : List Held → List ℕ
taken_of [] = []
taken_of (entry ∷ entries) = entry.taken ++ taken_of entries
