-- The complete identifier of a type resolves to the type.
use Rattle.std.proofs.Common.{◌≡◌, ◌+◌, [], sym, ap, ◌∙◌, le_refl, arith}
use Rattle.std.specs.Prelude.{None, Ok, true}
use Rattle.type_trees.specs.declared.types.HashId.{HashId}
use Rattle.type_trees.specs.Trees.{Tree}
use Rattle.type_trees.specs.sizes.TypeNodes.{nodes}
use Rattle.type_rules.specs.Valid.{type_fault}
use Rattle.type_rules.proofs.Kept.{limits_kept}
use Rattle.object_formats.specs.Objects as o
use Rattle.type_object.specs.Pools.{Texts}
use Rattle.object_walks.specs.Resolving.{◌>>=◌, walk, walked, checked, settled, resolved}
use Rattle.type_resolve.specs.Objects.{identifier}
use Rattle.type_resolve.specs.Held.{EachObject, IsIn, ResolvesAgain}
use Rattle.type_resolve.proofs.Returning.{ComesBack}
use Rattle.type_resolve.proofs.Present.{objects_are_in}
use Rattle.type_resolve.proofs.Weights.{weight}
use Rattle.type_resolve.proofs.Resolves.{tree_walks}
use Rattle.type_resolve.proofs.Valid.{comes_back}

walked_again : (pool : Texts) (t : Tree) (id : HashId) → EachObject (IsIn pool) t → ComesBack t → type_fault t ≡ None → identifier true t ≡ o.hash id → walked pool id ≡ Ok t
unfolding walked
walked_again pool t id each back valid is =
    let limits = limits_kept t valid in
    let found : walk 16 pool [] (identifier true t) 0 ≡ Ok (t, 0 + nodes t) = tree_walks pool (weight t) t each back (le_refl (weight t)) 16 0 [] limits.0 (omega (arith, limits.1)) tt in
    ap (λ i. walk 16 pool [] i 0 >>= λ r. Ok r.0) (sym is) ∙ ap (λ r. r >>= λ x. Ok x.0) found

pub resolves_again : ResolvesAgain
unfolding resolved
resolves_again old new t id good valid is adds =
    ap (settled id) (walked_again new t id (objects_are_in old new t good adds) (comes_back t valid) valid is) ∙ ap (checked id t) valid
