-- What a push tells of what its peer knows (own).
use Rattle.std.specs.Prelude.{◌≡◌, ◌≢◌, List, [], ◌∷◌, Some}
use Rattle.std.specs.List.{All}
use Rattle.type_trees.specs.declared.types.HashId.{HashId}
use Rattle.type_lookup.specs.declared.messages.messages.Fetched.{Fetched}
use Rattle.type_object.specs.visits.Visits.{Known as KnownBy}
use Rattle.type_mirror.specs.declared.told.told.Told.{Told}
use Rattle.type_mirror.specs.declared.told.told.What.{What}
use Rattle.type_mirror.specs.declared.told.told.What.TheVariants.{Added, Known, Clash, Full}

-- what is told of one object holds of what is known
abbrev pub Holds : KnownBy → Fetched → What → Type 0
Holds known object Added = known object.id ≡ Some object.octets
Holds known object Known = known object.id ≡ Some object.octets
Holds known object (Clash octets) = (known object.id ≡ Some octets) × (octets ≢ object.octets)
Holds known object Full = Unit {0}

-- of each object, in order
abbrev pub IsTold : KnownBy → List Fetched → List Told → Type 0
IsTold known [] [] = Unit {0}
IsTold known [] (told ∷ tolds) = ⊥
IsTold known (object ∷ objects) [] = ⊥
IsTold known (object ∷ objects) (told ∷ tolds) = (told.id ≡ object.id) × Holds known object told.what × IsTold known objects tolds

-- neither a clash nor a want of room
abbrev pub IsGoodWhat : What → Type 0
IsGoodWhat Added = Unit {0}
IsGoodWhat Known = Unit {0}
IsGoodWhat (Clash octets) = ⊥
IsGoodWhat Full = ⊥

abbrev pub IsGood : Told → Type 0
IsGood told = IsGoodWhat told.what

-- all of the objects are known
abbrev pub HasAll : KnownBy → List Fetched → Type 0
HasAll known objects = All (λ object. known object.id ≡ Some object.octets) objects

abbrev pub fetched_id : Fetched → HashId
fetched_id object = object.id

abbrev pub told_id : Told → HashId
told_id told = told.id
