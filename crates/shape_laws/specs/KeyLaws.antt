-- Laws: key octets and key hashes (DDS-XTypes 1.3, 7.6.8) tell keys apart, and come through a projection (this profile's own).
use Rattle.std.specs.Prelude.{ℕ, List, nat_lt, Ok, ◌+◌, ◌*◌, ◌≤◌, ◌≡◌, ◌↔◌, ◌^◌, ◌<◌, length, IsTrue, ◌⊎◌}
use Rattle.xt_shapes.specs.declared.leaves.Rep.{Rep}
use Rattle.xt_shapes.specs.Lists.{all}
use Rattle.xt_shapes.specs.NodeRules.{rules_hold}
use Rattle.xt_shapes.specs.Shape.{Shape}
use Rattle.xt_shapes.specs.Typing.{has_type}
use Rattle.xt_shapes.specs.Vals.{Val}
use Rattle.xt_shapes.specs.Weight.{weight}
use Rattle.xcdr_model.specs.declared.verdict.Policy.{Policy}
use Rattle.xcdr_model.specs.Assignable.{Assignable}
use Rattle.xcdr_model.specs.KeyOctets.{key_octets, short, key_hash}
use Rattle.xcdr_model.specs.Keys.{key}
use Rattle.xcdr_model.specs.Samples.{sample, projection, read_sample}

-- Values of one type, each with fewer than 2^32 key octets, have equal key octets exactly where their keys are equal.
abbrev pub KeyOctetsTell : Type 0
KeyOctetsTell = (t : Shape) (v w : Val) → IsTrue (rules_hold t) → IsTrue (has_type t v) → IsTrue (has_type t w) → length (key_octets t v) < 2 ^ 32 → length (key_octets t w) < 2 ^ 32 → (key_octets t v ≡ key_octets t w) ↔ (key t v ≡ key t w)

-- Where the projection is a sample, its key octets are the writer's, and so is its hash where both types or neither are short.
abbrev pub KeysCross : Type 0
KeysCross = (q : Policy) (r : Rep) (t t2 : Shape) (v w : Val) → IsTrue (rules_hold t) → IsTrue (rules_hold t2) → (t ≡ t2) ⊎ Assignable q r t t2 → IsTrue (has_type t2 v) → projection t t2 v ≡ sample w
    → (key_octets t w ≡ key_octets t2 v) × (short t ≡ short t2 → key_hash t w ≡ key_hash t2 v)

-- A sample that was read from n octets has at most 16 key octets for each node of its type's weight and for each of the n.
abbrev pub KeyOctetsBound : Type 0
KeyOctetsBound = (r : Rep) (t : Shape) (s : List ℕ) (v : Val) → IsTrue (rules_hold t) → IsTrue (all (λ c. nat_lt c 256) s) → read_sample r t s ≡ Ok (sample v) → length (key_octets t v) ≤ 16 * (weight t + length s)
