use Rattle.std.proofs.Common.{◌≡◌, ◌≤◌, length}
use Rattle.idl_types.specs.Names.{outward}
use Rattle.idl_types.specs.Views.{scoped_name}
use Rattle.idl_types.proofs.places.outward.Given as goal

abbrev pub invariant-loop-inside : goal.invariant-loop-inside
invariant-loop-inside l = (outward l.scopes.names l.scopes.opened (scoped_name l.name) (length l.scopes.opened) ≡ outward l.scopes.names l.scopes.opened (scoped_name l.name) l.inside) × (l.inside ≤ length l.scopes.opened)

abbrev pub decreases-loop-inside : goal.decreases-loop-inside
decreases-loop-inside l = l.inside
