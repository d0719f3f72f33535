-- Worked examples, checked by computation: the order of visits, and their bound (this profile's own).
use Rattle.std.specs.Prelude.{◌≡◌, ℕ, ◌==◌, if◌then◌else◌, List, [], ◌∷◌, true}
use Rattle.std.proofs.Common.{refl}
use Rattle.type_trees.specs.declared.types.HashId.{HashId}
use Rattle.type_object.specs.visits.Visits.{visits}

abbrev id : ℕ → HashId
id n = record { kind = 241; hash = n ∷ [] }

abbrev number_of : List ℕ → ℕ
number_of [] = 0
number_of (n ∷ ns) = n

-- 1 refers to 2 and 3, 2 to 3 and 4, 4 to 1
abbrev refers : HashId → List HashId
refers h = let n = number_of h.hash in if n == 1 then id 2 ∷ id 3 ∷ [] else if n == 2 then id 3 ∷ id 4 ∷ [] else if n == 4 then id 1 ∷ [] else []

-- an object before those that it refers to, each at its first visit
depth_first : visits (λ h. true) refers 4097 [] (id 1 ∷ []) ≡ id 1 ∷ id 2 ∷ id 3 ∷ id 4 ∷ []
unfolding visits
depth_first = refl

-- no more than so many
three_visits : visits (λ h. true) refers 3 [] (id 1 ∷ []) ≡ id 1 ∷ id 2 ∷ id 3 ∷ []
unfolding visits
three_visits = refl
