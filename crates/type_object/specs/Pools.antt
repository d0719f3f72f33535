-- Pools: texts of objects by their identifiers, in the order in which they came (this profile's own).
use Rattle.std.specs.Prelude.{◌≡◌, ◌≢◌, ◌≤◌, All, AllPairs, ℕ, List, [], ◌∷◌, ◌++◌, Bool, cond, Option, Some, None, Result, Ok, Err, length, nat_le, nat_eq}
use Rattle.std.specs.Cmp.Lexicographic.{pointwise}
use Rattle.type_trees.specs.declared.types.HashId.{HashId}
use Rattle.object_formats.specs.declared.faults.Fault.{Fault}
use Rattle.object_formats.specs.Objects.{Object}
use Rattle.object_formats.specs.Tables.{object_of}
use Rattle.type_trees.specs.Ids.{same_id}
use Rattle.type_object.specs.Names.{named}

abbrev pub Texts : Type 0
Texts = List (HashId × List ℕ)

-- the text with an identifier
abbrev pub found : HashId → Texts → Option (List ℕ)
found id [] = None
found id (e ∷ es) = cond (same_id id e.0) (Some e.1) (found id es)

-- the octets are an object's text
pub record IsObject (bs : List ℕ) : Type 0 where
  pub object : Object
  pub read : object_of bs ≡ Ok object

-- What holds of every pool: there are at most 4,096 texts, each is an object's under the identifier that is its own, and no two have
-- the same identifier.
pub record IsPool (pool : Texts) : Type 0 where
  pub few : length pool ≤ 4096
  pub objects : All (λ e. IsObject e.1) pool
  pub own : All (λ e. e.0 ≡ named e.1) pool
  pub distinct : AllPairs (λ a b. a.0 ≢ b.0) pool

abbrev pub answered : Result Object Fault → Option Object
answered (Ok o) = Some o
answered (Err f) = None

abbrev pub object_in : Option (List ℕ) → Option Object
object_in None = None
object_in (Some bs) = answered (object_of bs)

-- the object with an identifier
abbrev pub object_at : HashId → Texts → Option Object
object_at id pool = object_in (found id pool)

-- why a text isn't added: it is no object's, another has its identifier, or there are 4,096 others
pub data Refusal : Type 0 where
  no_object : Fault → Refusal
  clash : HashId → Refusal
  full : Refusal

abbrev same_text : List ℕ → List ℕ → Bool
same_text = pointwise nat_eq

abbrev pub put : Texts → HashId → List ℕ → Option (List ℕ) → Result (HashId × Texts) Refusal
put pool id bs None = cond (nat_le 4096 (length pool)) (Err full) (Ok (id, pool ++ (id, bs) ∷ []))
put pool id bs (Some there) = cond (same_text there bs) (Ok (id, pool)) (Err (clash id))

abbrev pub added_so : Texts → List ℕ → Result Object Fault → Result (HashId × Texts) Refusal
added_so pool bs (Err f) = Err (no_object f)
added_so pool bs (Ok o) = put pool (named bs) bs (found (named bs) pool)

-- the text's identifier and the pool with the text; one that is there already is not added again
unfoldable pub added : Texts → List ℕ → Result (HashId × Texts) Refusal
added pool bs = added_so pool bs (object_of bs)
