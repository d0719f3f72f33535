-- Worked examples, checked by computation: rounds without an object (this profile's own).
use Rattle.std.specs.Prelude.{◌≡◌, ℕ, List, [], ◌∷◌}
use Rattle.std.proofs.Common.{refl}
use Rattle.type_trees.specs.declared.types.HashId.{HashId}
use Rattle.type_lookup.specs.declared.messages.messages.Message.{Message}
use Rattle.type_lookup.specs.declared.messages.messages.Message.TheVariants.{GetTypes, Types, Put}
use Rattle.type_object.specs.visits.Visits.{visits}
use Rattle.lookup_fetch.specs.declared.faults.FetchFault.TheVariants.{BadReply, NotServed}
use Rattle.lookup_fetch.specs.Rounds.{reached, closure, plan, done, stopped, waits, rounds}

unfoldable worked : ℕ
unfolding visits reached closure plan rounds
worked = 0

abbrev id : ℕ → HashId
id n = record { kind = 241; hash = n ∷ [] }

abbrev request : ℕ → Message
request tag = GetTypes tag (id 7 ∷ [])

-- one that was asked for twice is asked for once
asked_once : rounds (id 7 ∷ id 7 ∷ []) 1 [] [] ≡ record { requests = request 1 ∷ []; end = waits }
unfolding worked
asked_once = refl

nothing_asked : rounds [] 1 [] [] ≡ record { requests = []; end = done [] }
unfolding worked
nothing_asked = refl

-- the peer serves nothing
not_served : rounds (id 7 ∷ []) 1 [] (Types 1 [] ∷ []) ≡ record { requests = request 1 ∷ []; end = stopped (NotServed (id 7)) }
unfolding worked
not_served = refl

-- an object that was not asked for, another tag, another operation
not_asked : rounds (id 7 ∷ []) 1 [] (Types 1 (record { id = id 8; octets = [] } ∷ []) ∷ []) ≡ record { requests = request 1 ∷ []; end = stopped BadReply }
unfolding worked
not_asked = refl

other_tag : rounds (id 7 ∷ []) 1 [] (Types 2 [] ∷ []) ≡ record { requests = request 1 ∷ []; end = stopped BadReply }
unfolding worked
other_tag = refl

other_operation : rounds (id 7 ∷ []) 1 [] (Put 1 [] ∷ []) ≡ record { requests = request 1 ∷ []; end = stopped BadReply }
unfolding worked
other_operation = refl
