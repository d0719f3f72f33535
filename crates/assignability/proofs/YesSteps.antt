-- Nothing fails exactly where the reader's type is assignable.
use Rattle.std.proofs.Common.{◌≡◌, ◌↔◌, IsTrue, None}
use Rattle.shape_laws.proofs.Theorems.{the_judged}
use Rattle.xcdr_model.specs.Assignable.{Assignable}
use Rattle.xcdr_model.specs.Failure.{First, first_failure}
use Rattle.xcdr_model.specs.declared.verdict.Policy.{Policy}
use Rattle.xt_shapes.specs.NodeRules.{rules_hold}
use Rattle.xt_shapes.specs.Shape.{Shape}
use Rattle.xt_shapes.specs.declared.leaves.Rep.{Rep}

pub yes_is : (q : Policy) (r : Rep) (t u : Shape) (o : First) → o ≡ first_failure q r t u → IsTrue (rules_hold t) → (o ≡ None) ↔ Assignable q r t u
yes_is q r t u o is valid = rw is (the_judged q r t u valid)
