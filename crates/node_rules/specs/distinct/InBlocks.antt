-- Blocks of the numbers of a list (this profile's own).
use Rattle.std.specs.Prelude.{◌≡◌, ◌+◌, ℤ, Bool, true, cond, List, [], ◌∷◌, ◌++◌, length}
use Rattle.std.specs.List.Sorted.{IsPermutation, IsSorted}
use Rattle.std.specs.Ordering.{int_eq, int_cmp}
use Rattle.xt_shapes.specs.Lists.{has}
use Rattle.xt_shapes.specs.NodeRules.{distinct}

-- a number is in a block
abbrev pub holds_one : List ℤ → ℤ → Bool
holds_one block n = has (λ held. int_eq held n) block

-- A block was taken off the front. It is empty only where nothing is left.
pub record IsTaken (all block rest : List ℤ) : Type 0 where
  pub split : all ≡ block ++ rest
  pub ends : block ≡ [] → rest ≡ []

-- The numbers of a block, which are distinct, were taken off the front and sorted. The block is empty only where there were none.
pub record IsFilled (all block rest : List ℤ) : Type 0 where
  pub front : List ℤ
  pub split : all ≡ front ++ rest
  pub moved : IsPermutation front block
  pub sorted : IsSorted int_cmp block
  pub apart : distinct int_eq front ≡ true
  pub fewer : length block + length rest ≡ length all
  pub ends : block ≡ [] → all ≡ []

-- the numbers that are not in a block
abbrev pub without : List ℤ → List ℤ → List ℤ
without block [] = []
without block (x ∷ xs) = cond (holds_one block x) (without block xs) (x ∷ without block xs)

-- The numbers of a block were taken off the front and sorted. The block is empty only where there were none.
pub record IsOrdered (all block rest : List ℤ) : Type 0 where
  pub front : List ℤ
  pub split : all ≡ front ++ rest
  pub moved : IsPermutation front block
  pub sorted : IsSorted int_cmp block
  pub fewer : length block + length rest ≡ length all
  pub ends : block ≡ [] → all ≡ []
