-- Two sides that hand each other their objects (own). Each side is a finite map from identifiers to octets, here a list of objects, of which
-- the first with an identifier counts.
use Rattle.std.specs.Prelude.{◌≡◌, ◌≢◌, ℕ, List, [], ◌∷◌, ◌++◌, cond, Option, Some, None, ◌⊎◌}
use Rattle.std.specs.Str.{bytes_eq}
use Rattle.type_trees.specs.declared.types.HashId.{HashId}
use Rattle.type_trees.specs.Ids.{same_id}
use Rattle.type_lookup.specs.declared.messages.messages.Fetched.{Fetched}
use Rattle.type_mirror.specs.declared.pairs.pair.Pair.{Pair}
use Rattle.type_mirror.specs.declared.pairs.pair.Give.{Give}
use Rattle.type_mirror.specs.declared.pairs.pair.Gave.{Gave}
use Rattle.type_mirror.specs.declared.pairs.pair.Gave.TheVariants.{Added, Known, Clash, Lacking}
use Rattle.type_mirror.specs.declared.pairs.pair.Side.{Side}
use Rattle.type_mirror.specs.declared.pairs.pair.Side.TheVariants.{A, B}

-- the octets under an identifier
abbrev pub object_at : HashId → List Fetched → Option (List ℕ)
object_at id [] = None
object_at id (object ∷ objects) = cond (same_id id object.id) (Some object.octets) (object_at id objects)

-- no identifier comes twice
abbrev pub IsDistinct : List Fetched → Type 0
IsDistinct [] = Unit {0}
IsDistinct (object ∷ objects) = (object_at object.id objects ≡ None) × IsDistinct objects

abbrev pub objects_of : Side → Pair → List Fetched
objects_of A pair = pair.a
objects_of B pair = pair.b

-- ---- one side gives

-- what becomes of what the one has, where the other has this
abbrev pub gave : Option (List ℕ) → Option (List ℕ) → Gave
gave None there = Lacking
gave (Some octets) None = Added
gave (Some octets) (Some there) = cond (bytes_eq there octets) Known Clash

-- the other takes it where it has none
abbrev pub taken : HashId → Option (List ℕ) → Option (List ℕ) → List Fetched → List Fetched
taken id None there objects = objects
taken id (Some octets) None objects = objects ++ record { id = id; octets = octets } ∷ []
taken id (Some octets) (Some there) objects = objects

abbrev pub after_from : Side → HashId → Pair → Pair
after_from A id pair = record { a = pair.a; b = taken id (object_at id pair.a) (object_at id pair.b) pair.b }
after_from B id pair = record { a = taken id (object_at id pair.b) (object_at id pair.a) pair.a; b = pair.b }

abbrev pub answer_from : Side → HashId → Pair → Gave
answer_from A id pair = gave (object_at id pair.a) (object_at id pair.b)
answer_from B id pair = gave (object_at id pair.b) (object_at id pair.a)

-- the two sides behind a give
abbrev pub after : Pair → Give → Pair
after pair give = after_from give.from give.id pair

-- what became of a give
abbrev pub answer : Pair → Give → Gave
answer pair give = answer_from give.from give.id pair

-- ---- one give after another

abbrev pub ends : Pair → List Give → Pair
ends pair [] = pair
ends pair (give ∷ gives) = ends (after pair give) gives

-- one of the gives clashes for this identifier
abbrev pub Clashes : Pair → List Give → HashId → Type 0
Clashes pair [] id = ⊥
Clashes pair (give ∷ gives) id = ((give.id ≡ id) × (answer pair give ≡ Clash)) ⊎ Clashes (after pair give) gives id

-- both sides have the identifier, in different octets
pub record Differs (pair : Pair) (id : HashId) : Type 0 where
  pub octets : List ℕ
  pub others : List ℕ
  pub in_a : object_at id pair.a ≡ Some octets
  pub in_b : object_at id pair.b ≡ Some others
  pub differ : octets ≢ others

-- what both sides have, they have in the same octets
abbrev pub Agrees : Pair → Type 0
Agrees pair = (id : HashId) (octets others : List ℕ) → object_at id pair.a ≡ Some octets → object_at id pair.b ≡ Some others → octets ≡ others

abbrev pub IsGiven : Side → HashId → List Give → Type 0
IsGiven side id [] = ⊥
IsGiven side id (give ∷ gives) = (give ≡ record { from = side; id = id }) ⊎ IsGiven side id gives

-- each side gives each object that it has at least once
abbrev pub AllGiven : Pair → List Give → Type 0
AllGiven pair gives = (side : Side) (id : HashId) (octets : List ℕ) → object_at id (objects_of side pair) ≡ Some octets → IsGiven side id gives

abbrev pub first_of : Option (List ℕ) → Option (List ℕ) → Option (List ℕ)
first_of None second = second
first_of (Some octets) second = Some octets

-- the octets under an identifier in the union
abbrev pub union_at : Pair → HashId → Option (List ℕ)
union_at pair id = first_of (object_at id pair.a) (object_at id pair.b)
