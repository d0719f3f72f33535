-- What was found of the types of streams: whether a reader's type is assignable from them (this profile's own).
use Rattle.std.specs.Prelude.{◌≡◌, Option, Some, None, Result, Ok, Err, IsOk, if◌then◌else◌}
use Rattle.std.specs.Result.{ForOk}
use Rattle.xt_shapes.specs.declared.leaves.Rep.{Rep}
use Rattle.type_trees.specs.Trees.{Tree}
use Rattle.type_trees.specs.Bridge.{shape}
use Rattle.xt_shapes.specs.Shape.{Shape}
use Rattle.type_trees.specs.samples.Tops.{is_top}
use Rattle.type_object.specs.Pools.{Texts}
use Rattle.object_walks.specs.Resolving.{Refusal, resolved}
use Rattle.assignability.specs.Views.{verdict_view}
use Rattle.xcdr_model.specs.Failure.{First, first_failure}
use Rattle.xcdr_model.specs.Policies.{standard}
use Rattle.xt_recorder.specs.declared.found.Found.{Found}

-- what is found of a structure or union: the first rule that fails
abbrev pub judged : Tree → Rep → Result Tree Refusal → Option First
judged reader rep (Ok t) = if is_top (shape t) then Some (first_failure standard rep (shape reader) (shape t)) else None
judged reader rep (Err refusal) = None

-- What is kept is what is found of the type that the identifier has in the pool.
abbrev pub IsSo : Tree → Texts → Found → Type 0
IsSo reader pool found = judged reader found.rep (resolved pool found.id) ≡ Some (verdict_view found.verdict)

-- what an identifier resolves to is judged as the reader's type is
abbrev pub IsJudgedAs : Tree → Result Tree Refusal → Type 0
IsJudgedAs reader r = IsOk r × ForOk r (λ t. (rep : Rep) (u : Shape) → first_failure standard rep (shape t) u ≡ first_failure standard rep (shape reader) u)
