-- Worked examples, checked by computation: an object on one side alone, and a clash (this profile's own).
use Rattle.std.specs.Prelude.{◌≡◌, ℕ, List, [], ◌∷◌}
use Rattle.std.proofs.Common.{refl}
use Rattle.type_trees.specs.declared.types.HashId.{HashId}
use Rattle.type_lookup.specs.declared.messages.messages.Fetched.{Fetched}
use Rattle.type_mirror.specs.declared.pairs.pair.Pair.{Pair}
use Rattle.type_mirror.specs.declared.pairs.pair.Give.{Give}
use Rattle.type_mirror.specs.declared.pairs.pair.Gave.TheVariants.{Added, Known, Clash, Lacking}
use Rattle.type_mirror.specs.declared.pairs.pair.Side.TheVariants.{A, B}
use Rattle.type_mirror.specs.pairs.Pairs.{answer, ends}

abbrev id : HashId
id = record { kind = 241; hash = 7 ∷ [] }

abbrev object : List ℕ → List Fetched
object octets = record { id = id; octets = octets } ∷ []

abbrev from_a : Give
from_a = record { from = A; id = id }

abbrev from_b : Give
from_b = record { from = B; id = id }

abbrev alone : Pair
alone = record { a = object (5 ∷ []); b = [] }

lacking : answer alone from_b ≡ Lacking
lacking = refl

added : answer (ends alone (from_b ∷ [])) from_a ≡ Added
added = refl

both : ends alone (from_b ∷ from_a ∷ []) ≡ record { a = object (5 ∷ []); b = object (5 ∷ []) }
both = refl

-- from either side
known_from_a : answer (ends alone (from_b ∷ from_a ∷ [])) from_a ≡ Known
known_from_a = refl

known_from_b : answer (ends alone (from_b ∷ from_a ∷ [])) from_b ≡ Known
known_from_b = refl

clash : answer (record { a = object (5 ∷ []); b = object (6 ∷ []) }) from_a ≡ Clash
clash = refl
