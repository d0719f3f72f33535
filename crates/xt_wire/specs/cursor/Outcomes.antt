-- What comes out of a decoder, beside its being what the reading gives (this profile's own): a value that comes out has the reader's type and
-- is not too large.
use Rattle.std.specs.Prelude.{ℕ, ◌+◌, ◌-◌, ◌*◌, ◌≤◌, take, nat_lt, IsTrue, IfSome}
use Rattle.xt_shapes.specs.Lists.{all}
use Rattle.xt_shapes.specs.Nodes.{nodes}
use Rattle.xt_shapes.specs.Shape.{Shape}
use Rattle.xt_shapes.specs.Typing.{has_type}
use Rattle.xt_shapes.specs.Weight.{weight}
use Rattle.xcdr_model.specs.Samples.{Outcome, sample, discarded, must_understand}
use Rattle.xt_wire.specs.cursor.Standing.{Standing, room}

abbrev pub IsTyped : Shape → Outcome → Type 0
IsTyped t (sample v) = IsTrue (has_type t v)
IsTyped t discarded = Unit {0}
IsTyped t must_understand = Unit {0}

-- at most the type's weight, and 128 nodes for each of n octets
abbrev pub IsLight : Shape → ℕ → Outcome → Type 0
IsLight t n (sample v) = nodes v ≤ weight t + 128 * n
IsLight t n discarded = Unit {0}
IsLight t n must_understand = Unit {0}

-- A value that comes out has the reader's type, where the region's octets are told and each is one.
abbrev pub ComesTyped : Shape → Standing → Outcome → Type 0
ComesTyped t a x = IfSome a.ahead (λ xs. IsTrue (all (λ c. nat_lt c 256) (take (room a) xs)) → IsTyped t x)

-- A value that comes out has few nodes for the octets that were read, where these are told.
abbrev pub ComesLight : Shape → Standing → Standing → Outcome → Type 0
ComesLight t a b x = IfSome a.ahead (λ xs. IsLight t (b.place - a.place) x)
