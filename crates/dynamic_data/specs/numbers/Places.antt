-- Members that are found by their names (this profile's own).
use Rattle.std.specs.Prelude.{◌≡◌, ℕ, List, Option, String, bytes_eq, position}
use Rattle.std.specs.Bool.{⊤}
use Rattle.std.specs.BTreeMap.{BTreeMap, get_by_text}
use Rattle.std.specs.declared.alloc.Global.{Global}
use Rattle.type_trees.specs.declared.types.Member.{Member}
use Rattle.json_values.specs.Names.{name_text}
use Rattle.dynamic_data.specs.declared.numbers.members.Finder.TheVariants as finder
use Rattle.dynamic_data.specs.declared.numbers.members.Finder.{Finder}

-- the place of the first member with that name
abbrev pub place_of : List Member → List ℕ → Option ℕ
place_of members name = position (λ member. bytes_eq (name_text member.name) name) members

abbrev pub HoldsPlaces : List Member → BTreeMap (String Global) ℕ → Type 0
HoldsPlaces members places = (name : List ℕ) → get_by_text places name ≡ place_of members name

abbrev pub Finds : List Member → Finder → Type 0
Finds members finder.OneByOne = ⊤
Finds members (finder.ByIndex places) = HoldsPlaces members places
