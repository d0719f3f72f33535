-- The hash identifiers in an object, each once, in the order of its text (DDS-XTypes 1.3, 7.3.4).
use Rattle.std.specs.Prelude.{List, [], ◌∷◌, ◌++◌, Bool, false, cond, ◌||◌}
use Rattle.type_trees.specs.declared.types.HashId.{HashId}
use Rattle.object_formats.specs.Objects.{Identifier, MemberPart, CasePart, Object}
use Rattle.object_formats.specs.Objects.{none, prim, str, sequence, array, map_of, hash, alias, enumeration, bitmask, structure, union}
use Rattle.type_trees.specs.Ids.{same_id}

-- in the order of the text, where a map's value stands before its key
abbrev pub hashes : Identifier → List HashId
hashes none = []
hashes (prim p) = []
hashes (str n) = []
hashes (sequence ek flags bound t) = hashes t
hashes (array ek flags dims t) = hashes t
hashes (map_of ek flags bound v kf k) = hashes v ++ hashes k
hashes (hash h) = h ∷ []

abbrev pub member_hashes : List MemberPart → List HashId
member_hashes [] = []
member_hashes (m ∷ ms) = hashes m.ty ++ member_hashes ms

abbrev pub case_hashes : List CasePart → List HashId
case_hashes [] = []
case_hashes (c ∷ cs) = hashes c.ty ++ case_hashes cs

abbrev pub in_order : Object → List HashId
in_order (alias n t) = hashes t
in_order (enumeration n f b l) = []
in_order (bitmask n b f) = []
in_order (structure n f b ms) = hashes b ++ member_hashes ms
in_order (union n f df d cs) = hashes d ++ case_hashes cs

abbrev pub is_among : HashId → List HashId → Bool
is_among id [] = false
is_among id (h ∷ hs) = same_id id h || is_among id hs

-- those that are not among the ones before, each at its first place
abbrev pub once : List HashId → List HashId → List HashId
once before [] = []
once before (h ∷ hs) = cond (is_among h before) (once before hs) (h ∷ once (before ++ h ∷ []) hs)

unfoldable pub references : Object → List HashId
references o = once [] (in_order o)

-- ---- the same, one after another

-- a list with one more, unless it is there
abbrev pub note : List HashId → HashId → List HashId
note seen h = cond (is_among h seen) seen (seen ++ h ∷ [])

abbrev pub noted : List HashId → List HashId → List HashId
noted seen [] = seen
noted seen (h ∷ hs) = noted (note seen h) hs
