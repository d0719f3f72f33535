-- Identifiers that are met depth first through objects (this profile's own): an object before those that it refers to, these in the order
-- of its text, each identifier at its first visit.
use Rattle.std.specs.Prelude.{ℕ, zero, suc, List, [], ◌∷◌, ◌++◌, Bool, cond, not, ◌&&◌, Option, Some, None}
use Rattle.std.specs.Option.{is_some}
use Rattle.type_trees.specs.declared.types.HashId.{HashId}
use Rattle.object_formats.specs.Objects.{Object}
use Rattle.type_object.specs.Pools.{object_in}
use Rattle.type_object.specs.References.{references, is_among}

-- the texts of objects by their identifiers
abbrev pub Known : Type 0
Known = HashId → Option (List ℕ)

abbrev pub is_known : Known → HashId → Bool
is_known known id = is_some (known id)

abbrev pub references_in : Option Object → List HashId
references_in None = []
references_in (Some object) = references object

-- what the object of an identifier refers to
abbrev pub referred : Known → HashId → List HashId
referred known id = references_in (object_in (known id))

-- the first of these that is to be visited, and those behind it
abbrev pub first_of : (HashId → Bool) → List HashId → Option (HashId × List HashId)
first_of wanted [] = None
first_of wanted (id ∷ ids) = cond (wanted id) (Some (id, ids)) (first_of wanted ids)

abbrev pub is_new : (HashId → Bool) → List HashId → HashId → Bool
is_new wanted seen id = wanted id && not (is_among id seen)

abbrev pub then_visits : (HashId → List HashId → List HashId) → List HashId → Option (HashId × List HashId) → List HashId
then_visits visit seen None = seen
then_visits visit seen (Some next) = visit next.0 next.1

-- At most so many further visits, of wanted identifiers, where these were seen and those are still to be tried: all that were seen then.
unfoldable pub visits : (HashId → Bool) → (HashId → List HashId) → ℕ → List HashId → List HashId → List HashId
visits wanted refers zero seen todo = seen
visits wanted refers (suc n) seen todo = then_visits (λ id rest. visits wanted refers n (seen ++ id ∷ []) (refers id ++ rest)) seen (first_of (is_new wanted seen) todo)

-- the known objects that are met from these identifiers, at most so many
abbrev pub met : Known → ℕ → List HashId → List HashId
met known n ids = visits (is_known known) (referred known) n [] ids
