-- The four octets of the encapsulation (DDS-XTypes 1.3, 7.6.3.1.2): the identifier, which tells representation, extensibility and byte
-- order, and the options, whose low two bits count the padding behind the body. Faults and their places are this profile's own.
use Rattle.std.specs.Prelude.{ℕ, ◌+◌, ◌*◌, ◌/◌, ◌%◌, List, [], ◌∷◌, Option, Some, None, Ok, cond, length, nat_lt, ◌==◌}
use Rattle.xt_shapes.specs.declared.leaves.Ext.{Ext}
use Rattle.xt_shapes.specs.declared.leaves.Order.{Order}
use Rattle.xt_shapes.specs.declared.leaves.Rep.{Rep}
use Rattle.xcdr_model.specs.declared.malformed.Why.TheVariants.{Encapsulation}
use Rattle.xcdr_model.specs.Reading.{Spot, Reading, fault_at, ◌>>=◌, octets_at}
use Rattle.xcdr_model.specs.Samples.{row_of, order_of}
use Rattle.xcdr_samples.specs.declared.frames.heads.Head.{Head}

-- the body's byte order, and how many octets of padding there are
abbrev pub Told : Type 0
Told = Order × ℕ

abbrev pub head_view : Head → Told
head_view h = (h.order, h.padding)

-- what four octets say to a reader of this extensibility
abbrev pub head_told : Rep → Ext → List ℕ → Option Told
head_told r e (a ∷ b ∷ c ∷ d ∷ []) = cond ((256 * a + b) / 2 == row_of r e) (Some (order_of ((256 * a + b) % 2), d % 4)) None
head_told r e _ = None

-- there may not be more padding than octets
abbrev pub head_in : ℕ → Option Told → Spot → Reading Told
head_in at None s = fault_at at Encapsulation
head_in at (Some h) s = cond (nat_lt (length s.rest) h.1) (fault_at (at + 2) Encapsulation) (Ok (h, s))

abbrev pub head_at : Rep → Ext → Order → Spot → Reading Told
head_at r e o s = cond (nat_lt (length s.rest) 4) (fault_at s.at Encapsulation) (octets_at 4 s >>= λ h. head_in s.at (head_told r e h.0) h.1)
