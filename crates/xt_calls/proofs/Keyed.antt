-- The value of a sample that was read has its type, and its key is not too long.
use Rattle.std.proofs.Common.{◌≡◌, ℕ, ◌≤◌, List, Ok, IsTrue, nat_lt, length, arith}
use Rattle.xt_shapes.specs.declared.leaves.Rep.{Rep}
use Rattle.xt_shapes.specs.Lists.{all}
use Rattle.xt_shapes.specs.NodeRules.{rules_hold}
use Rattle.xt_shapes.specs.Shape.{Shape}
use Rattle.xt_shapes.specs.Weight.{weight}
use Rattle.shape_laws.specs.KeyLaws.{KeyOctetsBound}
use Rattle.shape_laws.specs.Readings.{SampleTyped}
use Rattle.xcdr_model.specs.Samples.{Outcome, sample, discarded, must_understand, read_sample}
use Rattle.xt_calls.specs.Answering.{HasKey}

pub has_key : (rep : Rep) (t : Shape) (payload : List ℕ) (x : Outcome) → SampleTyped → KeyOctetsBound → IsTrue (rules_hold t) → weight t ≤ 65536 → IsTrue (all (λ c. nat_lt c 256) payload) → length payload ≤ 1048576 → read_sample rep t payload ≡ Ok x → HasKey t x
has_key rep t payload (sample v) typed bound rules light octets few read =
    let most = bound rep t payload v rules octets read in
    (typed rep t payload v rules octets read, omega (arith, most, light, few))
has_key rep t payload discarded typed bound rules light octets few read = tt
has_key rep t payload must_understand typed bound rules light octets few read = tt
