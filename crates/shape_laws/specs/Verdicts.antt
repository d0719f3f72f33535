-- The law that the first failure is none exactly where the reader's type is assignable (DDS-XTypes 1.3, 7.2.4; the law is this profile's own).
use Rattle.std.specs.Prelude.{◌≡◌, ◌↔◌, true, false, Some, None, IsTrue, ◌⊎◌}
use Rattle.xt_shapes.specs.declared.leaves.Rep.{Rep}
use Rattle.xt_shapes.specs.NodeRules.{rules_hold}
use Rattle.xt_shapes.specs.Shape.{Shape}
use Rattle.xcdr_model.specs.declared.verdict.Policy.{Policy}
use Rattle.xcdr_model.specs.Assignable.{Fits, Assignable}
use Rattle.xcdr_model.specs.Equivalence.{same_shape}
use Rattle.xcdr_model.specs.Failure.{Failure, failure, first_failure}

-- The test of equivalence is equality.
abbrev pub Equivalent : Type 0
Equivalent = (t u : Shape) → (same_shape t u ≡ true) ↔ (t ≡ u)

-- At the top nothing fails exactly where the reader's type is assignable.
abbrev pub Judged : Type 0
Judged = (q : Policy) (r : Rep) (t u : Shape) → IsTrue (rules_hold t) → (first_failure q r t u ≡ None) ↔ Assignable q r t u

-- At a nested pair nothing fails exactly where the types fit.
abbrev pub JudgedNested : Type 0
JudgedNested = (q : Policy) (r : Rep) (t u : Shape) → IsTrue (rules_hold t) → (failure q r false t u ≡ None) ↔ Fits q r t u

-- Exactly one of these is true of a pair: assignable, or one rule at one path.
pub record Verdict (q : Policy) (r : Rep) (t u : Shape) : Type 0 where
  pub some : Assignable q r t u ⊎ ((f : Failure) × (first_failure q r t u ≡ Some f))
  pub one_failure : (f g : Failure) → first_failure q r t u ≡ Some f → first_failure q r t u ≡ Some g → f ≡ g
  pub not_both : Assignable q r t u → (f : Failure) → first_failure q r t u ≡ Some f → ⊥

abbrev pub ExactlyOne : Type 0
ExactlyOne = (q : Policy) (r : Rep) (t u : Shape) → IsTrue (rules_hold t) → Verdict q r t u
