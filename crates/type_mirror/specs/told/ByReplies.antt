-- What a push tells by the replies that it read, without its requests (own).
use Rattle.std.specs.Prelude.{◌≡◌, ℕ, List, [], ◌∷◌, ◌++◌, cond, nat_eq, length, take}
use Rattle.type_lookup.specs.declared.messages.messages.Fetched.{Fetched}
use Rattle.type_lookup.specs.declared.messages.messages.Message.{Message}
use Rattle.type_lookup.specs.declared.messages.messages.Message.TheVariants.{GetTypes, GetTypeDependencies, PutTypes, Types, Dependencies, Put}
use Rattle.type_mirror.specs.declared.told.told.Told.{Told}
use Rattle.type_mirror.specs.declared.told.told.What.TheVariants.{Clash}
use Rattle.type_mirror.specs.told.Rounds.{told_as, what_of, requests_of}

-- the outcomes that the replies to putTypes have, of one reply after another
abbrev pub outcomes_in : List Message → List ℕ
outcomes_in [] = []
outcomes_in (Put tag outcomes ∷ messages) = outcomes ++ outcomes_in messages
outcomes_in (Types tag objects ∷ messages) = outcomes_in messages
outcomes_in (GetTypes tag ids ∷ messages) = outcomes_in messages
outcomes_in (GetTypeDependencies tag ids point ∷ messages) = outcomes_in messages
outcomes_in (PutTypes tag objects ∷ messages) = outcomes_in messages
outcomes_in (Dependencies tag needed point ∷ messages) = outcomes_in messages

-- the objects that the replies to getTypes have
abbrev pub objects_in : List Message → List Fetched
objects_in [] = []
objects_in (Put tag outcomes ∷ messages) = objects_in messages
objects_in (Types tag objects ∷ messages) = objects ++ objects_in messages
objects_in (GetTypes tag ids ∷ messages) = objects_in messages
objects_in (GetTypeDependencies tag ids point ∷ messages) = objects_in messages
objects_in (PutTypes tag objects ∷ messages) = objects_in messages
objects_in (Dependencies tag needed point ∷ messages) = objects_in messages

-- The first of the peer's objects is the one that clashes.
abbrev pub clashing : List Fetched → (List Fetched → List Told) → List Told
clashing [] more = []
clashing (there ∷ others) more = told_as there.id (Clash there.octets) ++ more others

-- What outcomes tell, one an object: 3 tells the octets of the next of the peer's objects, under their identifier, and any other what it says
-- itself.
abbrev pub told_by : List Fetched → List ℕ → List Fetched → List Told
told_by [] outcomes there = []
told_by (object ∷ objects) [] there = []
told_by (object ∷ objects) (outcome ∷ outcomes) there = cond (nat_eq outcome 3) (clashing there (told_by objects outcomes)) (told_as object.id (what_of outcome) ++ told_by objects outcomes there)

-- the replies to the requests of a push, one to each
abbrev pub replies_of : (List ℕ → List ℕ) → List Fetched → List Message → List Message
replies_of name objects messages = take (length (requests_of name objects messages)) messages
