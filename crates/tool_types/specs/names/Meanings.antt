-- What the program's meanings stand for (this profile's own).
use Rattle.std.specs.Prelude.{◌≡◌, Ok}
use Rattle.type_trees.specs.Trees.{Tree}
use Rattle.type_trees.specs.View.{tree}
use Rattle.projection_laws.specs.Premises.{IsValid}
use Rattle.object_walks.specs.declared.resolving.ResolveFault.{ResolveFault}
use Rattle.object_walks.specs.declared.resolving.ResolveFault.TheVariants as faults
use Rattle.object_walks.specs.Resolving as walks
use Rattle.object_walks.specs.Resolving.{resolved}
use Rattle.type_object.specs.Pools.{Texts}
use Rattle.idl_types.specs.Definitions.{declared}
use Rattle.idl_types.specs.Uses.{tree_at}
use Rattle.tool_runs.specs.declared.output.halt.Halt.TheVariants as halts
use Rattle.tool_runs.specs.declared.output.stop.Stop.{Stop}
use Rattle.tool_runs.specs.declared.output.stop.Stop.TheVariants as stops
use Rattle.tool_runs.specs.output.Runs.{Refuses}
use Rattle.tool_types.specs.Declaring.{Identifies}
use Rattle.tool_types.specs.declared.names.meanings.DeclaredType.{DeclaredType}
use Rattle.tool_types.specs.declared.names.meanings.Meaning.{Meaning}
use Rattle.tool_types.specs.declared.names.named.NamedType.{NamedType}
use Rattle.tool_types.specs.declared.names.meanings.Meaning.TheVariants.{Typed, Identified}
use Rattle.tool_types.specs.names.Names as spec

-- the type that stands at its place
abbrev pub tree_of : DeclaredType → Tree
tree_of found = tree_at (declared found.types.now) found.at

abbrev pub meaning_view : Meaning → spec.Meaning
meaning_view (Typed found) = spec.typed (tree_of found)
meaning_view (Identified id) = spec.identified id

-- a declared type has its identifiers
abbrev pub IsSound : Meaning → Type 0
IsSound (Typed found) = Identifies (tree_of found) found.ids
IsSound (Identified id) = Unit {0}

-- A type that a word names is valid, and its identifier resolves to it.
pub record IsFound (pool : Texts) (found : NamedType) : Type 0 where
  pub valid : IsValid found.ty
  pub back : resolved pool found.id ≡ Ok (tree found.ty)

-- what the fault of a walk says
abbrev pub WalkStops : ResolveFault → Stop → Type 0
WalkStops (faults.Missing id) stop = Refuses (spec.walk_refusal (walks.missing id)) stop
WalkStops (faults.Recursive id) stop = Refuses (spec.walk_refusal (walks.recursive id)) stop
WalkStops (faults.Invalid id fault) stop = Refuses (spec.walk_refusal (walks.invalid id fault.rule fault.node)) stop
WalkStops faults.OutOfMemory stop = stop ≡ stops.Halted halts.OutOfMemory
