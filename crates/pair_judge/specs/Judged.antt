-- What an examination answers (this profile's own).
use Rattle.std.specs.Prelude.{◌≡◌, ℕ, ◌<◌, List, length, None, Some, Result, Ok, Err}
use Rattle.std.specs.Prelude.{◌+◌, ◌≤◌, ◌↔◌, IfOk}
use Rattle.xt_lists.specs.declared.memory.OutOfMemory.{OutOfMemory}
use Rattle.xt_shapes.specs.declared.leaves.Rep.{Rep}
use Rattle.xcdr_model.specs.declared.verdict.Policy.{Policy}
use Rattle.xcdr_model.specs.Assignable.{Assignable}
use Rattle.xcdr_model.specs.Failure.{First, first_failure}
use Rattle.type_trees.specs.Bridge.{shape}
use Rattle.type_trees.specs.Trees.{Tree}
use Rattle.type_trees.specs.declared.types.HashId.{HashId}
use Rattle.type_object.specs.Pools.{Texts}
use Rattle.object_walks.specs.Laws.{HasReached}
use Rattle.object_walks.specs.Resolving.{Refusal}
use Rattle.assignability.specs.Views.{verdict_view}
use Rattle.assignability.specs.declared.verdict.Verdict.{Verdict}
use Rattle.pair_memo.specs.Bound.{four_of_each}
use Rattle.pair_judge.specs.declared.stops.Stop.{Stop}
use Rattle.pair_judge.specs.declared.stops.Stop.TheVariants as stops

-- the examination ended at the first failure; nothing is said where memory was wanting
abbrev pub Ends : Stop → First → Type 0
Ends (stops.Fails rule path) first = first ≡ Some (rule, path)
Ends stops.OutOfMemory first = Unit {0}

-- nothing fails, or the first failure
abbrev pub Says : {A : Type 0} → Result A Stop → First → Type 0
Says (Ok x) first = first ≡ None
Says (Err stop) first = Ends stop first

-- the path of what fails has fewer steps than so many
abbrev pub IsNear : ℕ → Stop → Type 0
IsNear n (stops.Fails rule path) = length path < n
IsNear n stops.OutOfMemory = Unit {0}

abbrev pub IsShort : {A : Type 0} → ℕ → Result A Stop → Type 0
IsShort n (Ok x) = Unit {0}
IsShort n (Err stop) = IsNear n stop

-- ---- what the calls answer

-- a verdict on what was found; none where memory was wanting
abbrev pub Tells : Result (Unit {0}) Stop → Result Verdict OutOfMemory → Type 0
Tells found answer = (first : First) → Says found first → IfOk answer (λ v. verdict_view v ≡ first)

-- On two types it is the first failure, and nothing fails exactly where the reader's type is assignable from the writer's.
pub record IsVerdictOn (q : Policy) (r : Rep) (t u : Tree) (found : First) : Type 0 where
  pub first : found ≡ first_failure q r (shape t) (shape u)
  pub yes : (found ≡ None) ↔ Assignable q r (shape t) (shape u)

-- the same on what two identifiers resolve to, where both do
abbrev pub IsVerdict : Policy → Rep → Result Tree Refusal → Result Tree Refusal → First → Type 0
IsVerdict q r one two found = IfOk one (λ t. IfOk two (λ u. IsVerdictOn q r t u found))

-- The steps rise by at most 4ab: xs and ys have all that each side reaches, and a and b are their lengths, as few as can be.
abbrev pub IsFew : Texts → HashId → HashId → ℕ → ℕ → Type 0
IsFew pool reader writer before after = (xs ys : List HashId) → HasReached pool reader xs → HasReached pool writer ys → after ≤ before + four_of_each xs ys
