-- Texts that are added to a pool one after another, and what an answer says of them (this profile's own).
use Rattle.std.specs.Prelude.{◌≡◌, ℕ, List, [], ◌∷◌, ◌++◌, Option, Some, None, Result, Ok, Err}
use Rattle.type_trees.specs.declared.types.HashId.{HashId}
use Rattle.type_object.specs.Pools.{Texts, Refusal, no_object, clash, full, added}
use Rattle.type_object.specs.declared.pool.PoolFault.{PoolFault}
use Rattle.type_object.specs.declared.pool.PoolFault.TheVariants as F

abbrev pub after_added : Texts → Result (HashId × Texts) Refusal → (Texts → Texts × Option Refusal) → Texts × Option Refusal
after_added pool (Ok r) more = more r.1
after_added pool (Err refusal) more = (pool, Some refusal)

-- the pool after texts are added up to the first that is refused, and why that is refused
unfoldable pub all_added : Texts → List (List ℕ) → Texts × Option Refusal
all_added pool [] = (pool, None)
all_added pool (t ∷ ts) = after_added pool (added pool t) (λ p. all_added p ts)

-- all of them are added
pub record Adds (old : Texts) (texts : List (List ℕ)) (new : Texts) : Type 0 where
  pub all : all_added old texts ≡ (new, None)

-- those of a beginning of the list are added
pub record Begins (old : Texts) (texts : List (List ℕ)) (new : Texts) : Type 0 where
  pub before : List (List ℕ)
  pub after : List (List ℕ)
  pub parts : texts ≡ before ++ after
  pub adds : Adds old before new

-- those before the first that is refused are added
pub record Stops (old : Texts) (texts : List (List ℕ)) (new : Texts) (refusal : Refusal) : Type 0 where
  pub first : all_added old texts ≡ (new, Some refusal)

-- what a fault says; where memory is wanting, a beginning is added
abbrev pub Halts : PoolFault → Texts → List (List ℕ) → Texts → Type 0
Halts (F.Object fault) old texts new = Stops old texts new (no_object fault)
Halts (F.Clash id) old texts new = Stops old texts new (clash id)
Halts F.Full old texts new = Stops old texts new full
Halts F.OutOfMemory old texts new = Begins old texts new
