-- The requests of a push and their replies over a link, one after another (own).
use Rattle.std.specs.Prelude.{◌≡◌, ◌+◌, ℕ, List, [], ◌∷◌, ◌++◌, length, drop, Option, Some, None, Result, Ok, Err}
use Rattle.type_lookup.specs.declared.messages.messages.Fetched.{Fetched}
use Rattle.type_lookup.specs.declared.messages.messages.Message.{Message}
use Rattle.type_lookup.specs.Sequences.{frames_of, AreFrames}
use Rattle.lookup_fetch.specs.declared.faults.FetchFault.{FetchFault}
use Rattle.lookup_fetch.specs.declared.faults.FetchFault.TheVariants as fetch
use Rattle.lookup_fetch.specs.Fetches.{Passed}
use Rattle.type_mirror.specs.declared.told.told.Told.{Told}
use Rattle.type_mirror.specs.declared.told.told.What.{What}
use Rattle.type_mirror.specs.declared.told.told.What.TheVariants.{Clash}
use Rattle.type_mirror.specs.declared.told.told.PushFault.{PushFault}
use Rattle.type_mirror.specs.declared.told.told.PushFault.TheVariants.{LinkFault, BadReply, OutOfMemory}
use Rattle.type_mirror.specs.told.Rounds.{Outcome, State, rounds, asks, batch, count_of, paired, settled, told_as}
use Rattle.type_mirror.specs.told.Pushes.{PushesFrom}

-- ---- faults

-- The fault of a fetch for the same reason: a request and its reply go over the link in the same way.
abbrev pub fetch_fault : PushFault → FetchFault
fetch_fault LinkFault = fetch.LinkFault
fetch_fault BadReply = fetch.BadReply
fetch_fault OutOfMemory = fetch.OutOfMemory

abbrev pub as_fetch : Result Message PushFault → Result Message FetchFault
as_fetch (Ok reply) = Ok reply
as_fetch (Err fault) = Err (fetch_fault fault)

-- ---- what a reply says

-- This is what a reply says; a bad reply says nothing. What is said of a reply has no fault of the link.
abbrev pub Says : {T : Type 0} → Option T → Result T PushFault → Type 0
Says said (Ok found) = said ≡ Some found
Says said (Err LinkFault) = ⊥
Says said (Err BadReply) = said ≡ None
Says said (Err OutOfMemory) = Unit {0}

-- ---- rounds

-- From a tag and a state on, messages were read and requests sent, and whatever messages come later, the rounds of all go on from another tag and
-- another state.
pub record Going (name : List ℕ → List ℕ) (tag : ℕ) (state : State) (tag_now : ℕ) (state_now : State) (octets sent : List ℕ) : Type 0 where
  pub messages : List Message
  pub requests : List Message
  pub read : AreFrames octets messages
  pub whole : sent ≡ frames_of requests
  pub as_many : length messages ≡ length requests
  pub leads : (later : List Message) → rounds name tag state (messages ++ later) ≡ asks requests (rounds name tag_now state_now later)

-- the same over a link
pub record GoingOver (name : List ℕ → List ℕ) (tag : ℕ) (state : State) (tag_now : ℕ) (state_now : State) (got_before got_now left_before left_now taken_before taken_now : Option (List ℕ)) : Type 0 where
  pub octets : List ℕ
  pub sent : List ℕ
  pub passed : Passed got_before got_now left_before left_now taken_before taken_now octets sent
  pub going : Going name tag state tag_now state_now octets sent

-- The rounds go on from the state that the answer makes, or the push ends with the fault.
abbrev pub GoesOver : {T : Type 0} → (List ℕ → List ℕ) → ℕ → State → ℕ → (T → State) → Option (List ℕ) → Option (List ℕ) → Option (List ℕ) → Option (List ℕ) → Option (List ℕ) → Option (List ℕ) → Result T PushFault → Type 0
GoesOver name tag state tag_now next got_before got_now left_before left_now taken_before taken_now (Ok found) = GoingOver name tag state tag_now (next found) got_before got_now left_before left_now taken_before taken_now
GoesOver name tag state tag_now next got_before got_now left_before left_now taken_before taken_now (Err fault) = PushesFrom name tag state got_before got_now left_before left_now taken_before taken_now (Err fault)

-- ---- the parts of a push

-- Nothing is asked for: this was told, and these objects are still to be put.
abbrev pub telling : List Told → List Fetched → State
telling told rest = record { told = told; asking = []; rest = rest }

-- The next of these objects are put, and their outcomes come.
abbrev pub PutsNext : ℕ → List Fetched → Option (List ℕ) → Option (List ℕ) → Option (List ℕ) → Option (List ℕ) → Option (List ℕ) → Option (List ℕ) → Result (List ℕ) PushFault → Type 0
PutsNext tag objects got_before got_now left_before left_now taken_before taken_now result = (name : List ℕ → List ℕ) (told : List Told) → GoesOver name tag (telling told objects) (tag + 1) (λ outcomes. settled told (paired (batch objects) outcomes) (drop (count_of objects) objects)) got_before got_now left_before left_now taken_before taken_now result

-- An object clashed, and the other octets under its identifier come.
abbrev pub GetsOther : (List ℕ → List ℕ) → ℕ → Fetched → Option (List ℕ) → Option (List ℕ) → Option (List ℕ) → Option (List ℕ) → Option (List ℕ) → Option (List ℕ) → Result (List ℕ) PushFault → Type 0
GetsOther name tag object got_before got_now left_before left_now taken_before taken_now result = (told : List Told) (outcome : ℕ) (later : List Outcome) (rest : List Fetched) → GoesOver name tag (record { told = told; asking = record { object = object; outcome = outcome } ∷ later; rest = rest }) (tag + 1) (λ octets. settled (told ++ told_as object.id (Clash octets)) later rest) got_before got_now left_before left_now taken_before taken_now result

-- What became of an object with this outcome is known.
abbrev pub Settles : (List ℕ → List ℕ) → ℕ → Fetched → ℕ → ℕ → Option (List ℕ) → Option (List ℕ) → Option (List ℕ) → Option (List ℕ) → Option (List ℕ) → Option (List ℕ) → Result What PushFault → Type 0
Settles name tag object outcome tag_now got_before got_now left_before left_now taken_before taken_now result = (told : List Told) (later : List Outcome) (rest : List Fetched) → GoesOver name tag (settled told (record { object = object; outcome = outcome } ∷ later) rest) tag_now (λ what. settled (told ++ told_as object.id what) later rest) got_before got_now left_before left_now taken_before taken_now result

-- What became of these objects with these outcomes is told, of one after another.
abbrev pub TellsAll : {T : Type 0} → (List ℕ → List ℕ) → ℕ → List Told → List Fetched → List ℕ → ℕ → List Told → Option (List ℕ) → Option (List ℕ) → Option (List ℕ) → Option (List ℕ) → Option (List ℕ) → Option (List ℕ) → Result T PushFault → Type 0
TellsAll name tag told objects outcomes tag_now told_now got_before got_now left_before left_now taken_before taken_now result = (rest : List Fetched) → GoesOver name tag (settled told (paired objects outcomes) rest) tag_now (λ _. telling told_now rest) got_before got_now left_before left_now taken_before taken_now result
