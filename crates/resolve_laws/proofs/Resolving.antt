-- What resolves, and what is in its object.
use Rattle.std.proofs.Common.{◌≡◌, List, Option, Some, None, Result, Ok, Err, refl, sym, ap, ◌∙◌, ℕ}
use Rattle.xt_shapes.specs.declared.leaves.Step.{Step}
use Rattle.type_trees.specs.declared.types.HashId.{HashId}
use Rattle.type_trees.specs.Trees.{Tree}
use Rattle.type_rules.specs.Valid.{type_fault}
use Rattle.type_rules.proofs.OfFaultless.Parts.{each_part_is_valid}
use Rattle.type_object.specs.Pools.{Texts}
use Rattle.object_walks.specs.Resolving.{Stop, checked, settled, resolved, walked}
use Rattle.object_walks.proofs.Freely.{parts_are_walked, resolved_is_walked}
use Rattle.resolve_laws.specs.Laws.{ValidResolves, PartsResolve}

pub valid_resolves : ValidResolves
unfolding resolved
valid_resolves pool id t e valid = ap (settled id) e ∙ ap (checked id t) valid

is_valid : (id : HashId) (u t : Tree) (fault : Option (ℕ × List Step)) → checked id u fault ≡ Ok t → (fault ≡ None) × (u ≡ t)
is_valid id u t None e = (refl, cc)
is_valid id u t (Some f) e = absurd cc

settled_valid : (id : HashId) (w : Result Tree Stop) (t : Tree) → settled id w ≡ Ok t → type_fault t ≡ None
settled_valid id (Ok u) t e = let both = is_valid id u t (type_fault u) e in ap type_fault (sym both.1) ∙ both.0
settled_valid id (Err s) t e = absurd cc

resolved_valid : (pool : Texts) (id : HashId) (t : Tree) → resolved pool id ≡ Ok t → type_fault t ≡ None
unfolding resolved
resolved_valid pool id t e = settled_valid id (walked pool id) t e

pub parts_resolve : PartsResolve
parts_resolve pool id x t e there = (parts_are_walked pool id x t (resolved_is_walked pool id t e) there, each_part_is_valid t (resolved_valid pool id t e))
