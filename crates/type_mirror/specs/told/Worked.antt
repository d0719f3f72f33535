-- Worked examples, checked by computation: requests and how a push ends, without an object's text being read (this profile's own).
use Rattle.std.specs.Prelude.{◌≡◌, ℕ, List, [], ◌∷◌}
use Rattle.std.proofs.Common.{refl}
use Rattle.type_lookup.specs.declared.messages.messages.Fetched.{Fetched}
use Rattle.type_lookup.specs.declared.messages.messages.Message.{Message}
use Rattle.type_lookup.specs.declared.messages.messages.Message.TheVariants.{GetTypes, PutTypes, Types, Put}
use Rattle.type_mirror.specs.declared.told.told.What.TheVariants.{Added, Full}
use Rattle.type_mirror.specs.told.Rounds.{count_of, rounds, done, bad, waits, pushed}

unfoldable worked : ℕ
unfolding rounds count_of
worked = 0

abbrev name : List ℕ → List ℕ
name octets = []

abbrev object : ℕ → Fetched
object n = record { id = record { kind = 241; hash = n ∷ [] }; octets = n ∷ [] }

abbrev two : List Fetched
two = object 7 ∷ object 8 ∷ []

abbrev put : Message
put = PutTypes 1 ((7 ∷ []) ∷ (8 ∷ []) ∷ [])

nothing : pushed name [] [] ≡ record { requests = []; end = done [] }
unfolding worked
nothing = refl

waiting : pushed name two [] ≡ record { requests = put ∷ []; end = waits }
unfolding worked
waiting = refl

both_told : pushed name two (Put 1 (0 ∷ 4 ∷ []) ∷ []) ≡ record { requests = put ∷ []; end = done (record { id = (object 7).id; what = Added } ∷ record { id = (object 8).id; what = Full } ∷ []) }
unfolding worked
both_told = refl

-- the second clashes, and is asked for under the next tag
asked_for : pushed name two (Put 1 (1 ∷ 3 ∷ []) ∷ []) ≡ record { requests = put ∷ GetTypes 2 ((object 8).id ∷ []) ∷ []; end = waits }
unfolding worked
asked_for = refl

-- the peer leaves the identifier out
left_out : pushed name two (Put 1 (1 ∷ 3 ∷ []) ∷ Types 2 [] ∷ []) ≡ record { requests = put ∷ GetTypes 2 ((object 8).id ∷ []) ∷ []; end = bad }
unfolding worked
left_out = refl

-- an outcome that says that an object is none, too few outcomes, another tag
no_object : pushed name two (Put 1 (1 ∷ 2 ∷ []) ∷ []) ≡ record { requests = put ∷ []; end = bad }
unfolding worked
no_object = refl

too_few : pushed name two (Put 1 (1 ∷ []) ∷ []) ≡ record { requests = put ∷ []; end = bad }
unfolding worked
too_few = refl

other_tag : pushed name two (Put 2 (1 ∷ 1 ∷ []) ∷ []) ≡ record { requests = put ∷ []; end = bad }
unfolding worked
other_tag = refl
