-- Worked examples, checked by computation: replies to getTypes, pages of dependencies (this profile's own).
use Rattle.std.specs.Prelude.{◌≡◌, ℕ, zero, suc, if◌then◌else◌, List, [], ◌∷◌, length, Some, None}
use Rattle.std.proofs.Common.{refl}
use Rattle.type_trees.specs.declared.types.HashId.{HashId}
use Rattle.type_trees.specs.Ids.{same_id}
use Rattle.type_lookup.specs.declared.messages.messages.Message.TheVariants.{Dependencies}
use Rattle.type_object.specs.visits.Visits.{Known}
use Rattle.lookup_service.specs.replies.Replies.{served, page, point_after, dependencies, index_of}

abbrev id : ℕ → HashId
id n = record { kind = 241; hash = n ∷ [] }

-- ---- getTypes: an object that is known, asked twice beside one that is not

abbrev one_known : Known
one_known h = if same_id h (id 7) then Some (9 ∷ 9 ∷ []) else None

asked_twice : served one_known (id 7 ∷ id 8 ∷ id 7 ∷ []) ≡ record { id = id 7; octets = 9 ∷ 9 ∷ [] } ∷ []
unfolding served
asked_twice = refl

nothing_known : served (λ h. None) (id 7 ∷ []) ≡ []
unfolding served
nothing_known = refl

-- ---- seventy dependencies come in pages of 64 and 6

abbrev numbered : ℕ → List HashId
numbered zero = []
numbered (suc n) = id n ∷ numbered n

first_page : length (page one_known (numbered 70) (index_of [])) ≡ 64
first_page = refl

first_point : point_after (numbered 70) 0 ≡ 64 ∷ 0 ∷ 0 ∷ 0 ∷ []
first_point = refl

second_page : length (page one_known (numbered 70) (index_of (64 ∷ 0 ∷ 0 ∷ 0 ∷ []))) ≡ 6
second_page = refl

second_point : point_after (numbered 70) 64 ≡ []
second_point = refl

-- an index past the list
past_page : dependencies one_known 5 (numbered 70) (index_of (71 ∷ 0 ∷ 0 ∷ 0 ∷ [])) ≡ Dependencies 5 [] []
past_page = refl
