-- What is answered where the walk ended.
use Rattle.std.proofs.Common.{◌≡◌, ℕ, List, [], sym, ap, subst, ◌∙◌}
use Rattle.std.specs.Prelude.{Result, Ok, Err, IfOk, IfErr}
use Rattle.xt_shapes.specs.declared.leaves.Step.{Step}
use Rattle.type_trees.specs.declared.types.HashId.{HashId}
use Rattle.type_trees.specs.declared.types.XType.{XType}
use Rattle.type_trees.specs.Trees.{Tree}
use Rattle.type_trees.specs.View.{tree}
use Rattle.type_object.specs.Pools.{Texts}
use Rattle.object_walks.specs.declared.stops.Stop.{Stop as Code}
use Rattle.object_walks.specs.declared.stops.Stop.TheVariants as stops
use Rattle.object_walks.specs.declared.resolving.ResolveFault.{ResolveFault}
use Rattle.object_walks.specs.declared.resolving.ResolveFault.TheVariants as faults
use Rattle.object_walks.specs.Resolving.{Refusal, invalid, settled, resolved, walked}
use Rattle.object_walks.specs.Walking.{Ends, Refuses, RefusesStop}

module _ (pool : Texts) (id : HashId) where
  pub resolved_ok : (answer : Result XType ResolveFault) (t : Tree) → walked pool id ≡ Ok t → IfOk answer (λ ty. settled id (Ok t) ≡ Ok (tree ty)) → IfOk answer (λ ty. resolved pool id ≡ Ok (tree ty))
  unfolding resolved
  resolved_ok (Ok ty) t e h = ap (settled id) e ∙ h
  resolved_ok (Err fault) t e h = tt

  pub resolved_err : (answer : Result XType ResolveFault) (t : Tree) → walked pool id ≡ Ok t → IfErr answer (λ fault. Refuses fault (settled id (Ok t))) → IfErr answer (λ fault. Refuses fault (resolved pool id))
  unfolding resolved
  resolved_err (Ok ty) t e h = tt
  resolved_err (Err fault) t e h = subst (λ r. Refuses fault (settled id r)) (sym e) h

  abbrev broken : HashId → ℕ → List Step → Result Tree Refusal
  broken asked rule node = Err (invalid asked rule node)

  broken_at : (asked : HashId) (rule whole : ℕ) (node path : List Step) (found : Result Tree Refusal) → found ≡ broken id rule node → asked ≡ id → rule ≡ whole → node ≡ path → found ≡ broken asked whole path
  broken_at asked rule whole node path found e a r p = e ∙ ap (λ (i : HashId). broken i rule node) (sym a) ∙ ap (λ (n : ℕ). broken asked n node) r ∙ ap (broken asked whole) p

  pub refused_so : (fault : ResolveFault) (stop : Code) → Ends stop (walked pool id) → RefusesStop fault id stop → Refuses fault (resolved pool id)
  unfolding resolved
  refused_so (faults.Missing m) stop e is = ap (settled id) (subst (λ s. Ends s (walked pool id)) is e)
  refused_so (faults.Recursive m) stop e is = ap (settled id) (subst (λ s. Ends s (walked pool id)) is e)
  refused_so (faults.Invalid asked fault) (stops.AtNode f) e is = broken_at asked f.rule fault.rule f.node fault.node (settled id (walked pool id)) (ap (settled id) e) is.0 is.1.0 is.1.1
  refused_so (faults.Invalid asked fault) (stops.OfWhole rule) e is = broken_at asked rule fault.rule [] fault.node (settled id (walked pool id)) (ap (settled id) e) is.0 is.1.0 (sym is.1.1)
  refused_so (faults.Invalid asked fault) (stops.Missing m) e is = absurd is.1
  refused_so (faults.Invalid asked fault) (stops.Recursive m) e is = absurd is.1
  refused_so (faults.Invalid asked fault) stops.OutOfMemory e is = absurd is.1
  refused_so faults.OutOfMemory stop e is = tt
