-- Laws of the walk through a pool: what an identifier stands for doesn't depend on where it is met (this profile's own).
use Rattle.std.specs.Prelude.{◌≡◌, ℕ, List, [], true, All, Some, Ok}
use Rattle.type_trees.specs.declared.types.HashId.{HashId}
use Rattle.type_trees.specs.Trees.{Tree}
use Rattle.object_formats.specs.Objects.{Identifier, Object}
use Rattle.type_object.specs.Pools.{Texts, object_at}
use Rattle.type_object.specs.References.{in_order, is_among}
use Rattle.object_walks.specs.Resolving.{◌>>=◌, Walk, of_object, walk, walked, resolved}

-- Whatever identifiers it stands in, whatever levels are left and whatever nodes were visited before: where it has a tree, it is the same.
abbrev pub TreeIsOne : Type 0
TreeIsOne = (pool : Texts) (t : Identifier) (levels more : ℕ) (inside within : List HashId) (n k : ℕ) (x y : Tree × ℕ) → walk levels pool inside t n ≡ Ok x → walk more pool within t k ≡ Ok y → x.0 ≡ y.0

-- each identifier walked by itself, wherever it stands; no node is counted
abbrev pub by_itself : Texts → Walk
by_itself pool inside t n = walk 16 pool [] t 0 >>= λ r. Ok (r.0, n)

-- Where an identifier has a tree, it is the one that its object gives where each identifier in the object is walked by itself.
abbrev pub PartsAreWalked : Type 0
PartsAreWalked = (pool : Texts) (id : HashId) (x : Object) (t : Tree) → walked pool id ≡ Ok t → object_at id pool ≡ Some x → of_object pool (by_itself pool) [] x 0 ≡ Ok (t, 0)

-- What resolves is walked to the same tree.
abbrev pub ResolvedIsWalked : Type 0
ResolvedIsWalked = (pool : Texts) (id : HashId) (t : Tree) → resolved pool id ≡ Ok t → walked pool id ≡ Ok t

-- ---- the identifiers that are reached from one: what its type stands on

-- with each identifier whose object the pool has, the list has those in the object
abbrev pub IsClosed : Texts → List HashId → Type 0
IsClosed pool ids = (id : HashId) (x : Object) → is_among id ids ≡ true → object_at id pool ≡ Some x → All (λ i. is_among i ids ≡ true) (in_order x)

-- the list has the asked identifier and all that are reached from it
pub record HasReached (pool : Texts) (asked : HashId) (ids : List HashId) : Type 0 where
  pub itself : is_among asked ids ≡ true
  pub closed : IsClosed pool ids

-- Reached is what is in each such list: the asked identifier, and the identifiers in the object of each that is reached.
abbrev pub IsReached : Texts → HashId → HashId → Type 0
IsReached pool asked id = (ids : List HashId) → HasReached pool asked ids → is_among id ids ≡ true
