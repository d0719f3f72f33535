-- The verdict on what two identifiers resolve to.
use Rattle.std.proofs.Common.{◌≡◌, List, Option, Some, None, refl, ap, subst, ◌∙◌}
use Rattle.std.specs.Prelude.{IfOk, IsOk, IsTrue, Result, Ok, Err, ℕ}
use Rattle.xt_lists.specs.declared.memory.OutOfMemory.{OutOfMemory}
use Rattle.xt_shapes.specs.declared.leaves.Rep.{Rep}
use Rattle.xt_shapes.specs.declared.leaves.Step.{Step}
use Rattle.xcdr_model.specs.declared.verdict.Policy.{Policy}
use Rattle.xcdr_model.specs.Failure.{First, first_failure}
use Rattle.type_trees.specs.Bridge.{shape}
use Rattle.type_trees.specs.Trees.{Tree}
use Rattle.type_trees.specs.declared.types.HashId.{HashId}
use Rattle.type_rules.specs.Valid.{type_fault}
use Rattle.type_rules.proofs.Kept.{rules_kept}
use Rattle.object_formats.specs.Objects.{hash}
use Rattle.type_object.specs.Pools.{Texts}
use Rattle.object_walks.specs.Resolving.{Refusal, Stop, checked, settled, resolved, walked}
use Rattle.pair_memo.specs.nodes.Seen.{shape_in, is_seen}
use Rattle.pair_memo.proofs.OfNodes.Resolved.{resolved_seen}
use Rattle.assignability.specs.Views.{verdict_view}
use Rattle.assignability.specs.declared.verdict.Verdict.{Verdict}
use Rattle.assignability.proofs.YesSteps.{yes_is}
use Rattle.pair_judge.specs.declared.stops.Stop as stops
use Rattle.pair_judge.specs.Judged.{Says, Tells, IsVerdict, IsVerdictOn}

-- what resolves breaks no rule of valid types
checked_valid : (id : HashId) (x t : Tree) (f : Option (ℕ × List Step)) → type_fault x ≡ f → checked id x f ≡ Ok t → type_fault t ≡ None
checked_valid id x t None is e = let same : x ≡ t = cc in subst (λ (y : Tree). type_fault y ≡ None) same is
checked_valid id x t (Some f) is e = absurd cc

settled_valid : (id : HashId) (w : Result Tree Stop) (t : Tree) → settled id w ≡ Ok t → type_fault t ≡ None
settled_valid id (Ok x) t e = checked_valid id x t (type_fault x) refl e
settled_valid id (Err s) t e = absurd cc

resolved_valid : (pool : Texts) (id : HashId) (t : Tree) → resolved pool id ≡ Ok t → type_fault t ≡ None
unfolding resolved
resolved_valid pool id t e = settled_valid id (walked pool id) t e

seen_by : (pool : Texts) (id : HashId) (r : Result Tree Refusal) → resolved pool id ≡ r → IsOk r → IsTrue (is_seen pool (hash id))
seen_by pool id (Ok t) e h = (resolved_seen pool id t e).0
seen_by pool id (Err x) e h = absurd cc

pub seen : (pool : Texts) (id : HashId) → IsOk (resolved pool id) → IsTrue (is_seen pool (hash id))
seen pool id h = seen_by pool id (resolved pool id) refl h

module _ (q : Policy) (r : Rep) (pool : Texts) (reader writer : HashId) where
  abbrev first : First
  first = first_failure q r (shape_in pool (hash reader)) (shape_in pool (hash writer))

  on_types : (t u : Tree) (found : First) → resolved pool reader ≡ Ok t → resolved pool writer ≡ Ok u → found ≡ first → IsVerdictOn q r t u found
  on_types t u found e f h =
      let one = (resolved_seen pool reader t e).1 in
      let two = (resolved_seen pool writer u f).1 in
      let is : found ≡ first_failure q r (shape t) (shape u) = h ∙ ap (λ x. first_failure q r x (shape_in pool (hash writer))) one ∙ ap (first_failure q r (shape t)) two in
      record { first = is; yes = yes_is q r (shape t) (shape u) found is (rules_kept t (resolved_valid pool reader t e)) }

  on_resolved : (one two : Result Tree Refusal) (found : First) → resolved pool reader ≡ one → resolved pool writer ≡ two → found ≡ first → IsVerdict q r one two found
  on_resolved (Ok t) (Ok u) found e f h = on_types t u found e f h
  on_resolved (Ok t) (Err x) found e f h = tt
  on_resolved (Err x) two found e f h = tt

  on_answer : (answer : Result Verdict OutOfMemory) → IfOk answer (λ v. verdict_view v ≡ first) → IfOk answer (λ v. IsVerdict q r (resolved pool reader) (resolved pool writer) (verdict_view v))
  on_answer (Ok v) h = on_resolved (resolved pool reader) (resolved pool writer) (verdict_view v) refl refl h
  on_answer (Err x) h = tt

  pub verdicts : (found : Result (Unit {0}) stops.Stop) (answer : Result Verdict OutOfMemory) → Tells found answer → Says found first → IfOk answer (λ v. IsVerdict q r (resolved pool reader) (resolved pool writer) (verdict_view v))
  verdicts found answer tells says = on_answer answer (tells first says)
