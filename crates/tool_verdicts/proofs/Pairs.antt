-- The verdict by objects is that on the types.
use Rattle.std.proofs.Common.{◌≡◌, refl, subst, Result, Ok, Err, IsOk}
use Rattle.std.specs.Prelude.{IfOk}
use Rattle.xt_lists.specs.declared.memory.OutOfMemory.{OutOfMemory}
use Rattle.xt_shapes.specs.declared.leaves.Rep.{Rep}
use Rattle.assignability.specs.Views.{verdict_view}
use Rattle.assignability.specs.declared.verdict.Verdict.{Verdict}
use Rattle.type_trees.specs.Trees.{Tree}
use Rattle.type_trees.specs.Bridge.{shape}
use Rattle.object_walks.specs.Resolving as walks
use Rattle.xcdr_model.specs.declared.verdict.Policy.{Policy}
use Rattle.xcdr_model.specs.Failure.{First, first_failure}
use Rattle.pair_judge.specs.Judged.{IsVerdict}

pub is_resolved : (r : Result Tree walks.Refusal) (t : Tree) → r ≡ Ok t → IsOk r
is_resolved (Ok u) t e = refl
is_resolved (Err why) t e = absurd cc

pub verdict_is : (q : Policy) (rep : Rep) (a b : Result Tree walks.Refusal) (t u : Tree) (found : First) → a ≡ Ok t → b ≡ Ok u → IsVerdict q rep a b found → found ≡ first_failure q rep (shape t) (shape u)
verdict_is q rep a b t u found e f v =
    let left = subst (λ (x : Result Tree walks.Refusal). IsVerdict q rep x b found) e v in
    (subst (λ (x : Result Tree walks.Refusal). IsVerdict q rep (Ok t) x found) f left).first

-- in an answer
pub verdicts_are : (q : Policy) (rep : Rep) (a b : Result Tree walks.Refusal) (t u : Tree) (result : Result Verdict OutOfMemory) → a ≡ Ok t → b ≡ Ok u → IfOk result (λ v. IsVerdict q rep a b (verdict_view v)) → IfOk result (λ v. verdict_view v ≡ first_failure q rep (shape t) (shape u))
verdicts_are q rep a b t u (Ok v) e f is = verdict_is q rep a b t u (verdict_view v) e f is
verdicts_are q rep a b t u (Err why) e f is = tt
