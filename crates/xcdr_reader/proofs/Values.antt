-- A value's outcome: what is read, and what may be left behind it.
use Rattle.std.proofs.Common.{◌≡◌, refl, ◌∙◌, ◌+◌, ◌*◌, ◌≤◌, Bool, true, false, cond, ◌==◌, nat_lt, IsTrue, length, Result, Ok, Err, IfOk}
use Rattle.xt_shapes.specs.declared.leaves.Order.{Order}
use Rattle.xt_shapes.specs.declared.leaves.Rep.{Rep}
use Rattle.xt_shapes.specs.declared.leaves.Rep.TheVariants.{Xcdr1, Xcdr2}
use Rattle.xt_shapes.specs.Shape.{Shape, prim, str, enumeration, bitmask, sequence, array, map_of, structure, union}
use Rattle.xt_shapes.specs.Lists.{all}
use Rattle.xt_shapes.specs.Nodes.{nodes}
use Rattle.xt_shapes.specs.Typing.{has_type}
use Rattle.xt_shapes.specs.Vals.{Val}
use Rattle.xt_shapes.specs.Weight.{weight}
use Rattle.xcdr_model.specs.declared.malformed.Why.TheVariants.{Trailing}
use Rattle.xcdr_model.specs.Projection.{Part, got}
use Rattle.xcdr_model.specs.Reading.{Spot, Reading, fault_at, ◌>>=◌}
use Rattle.xcdr_model.specs.Samples.{Outcome, outcome_of, union_whole, value_read}
use Rattle.xcdr_model.specs.Xcdr1Reading.{read1}
use Rattle.xcdr_model.specs.Xcdr2Reading.{read}
use Rattle.xt_wire.specs.declared.cursor.faults.DecodeFault.{DecodeFault}
use Rattle.xt_wire.specs.cursor.Standing.{Standing, Stands}
use Rattle.xt_wire.specs.cursor.Decoding.{Decodes}
use Rattle.xt_wire.specs.cursor.Outcomes.{ComesTyped, ComesLight}
use Rattle.xt_wire.proofs.OfCursor.Ahead.{Ahead, begins}
use Rattle.xt_wire.proofs.OfCursor.Outcomes.{comes_typed, comes_light}
use Rattle.xcdr_reader.specs.Bodies.{value_outcome, behind_union, value_end}
use Rattle.xcdr_reader.specs.Modes.{read_in, mode_of}
use Rattle.xcdr_reader.proofs.Gathering.{bind_bind, each_bind}

abbrev pub made : Part → Unit {0} → Order → Spot → Reading Outcome
made x u o s = Ok (outcome_of x, s)

abbrev pub ended_outcome : Rep → Shape → Part → Order → Spot → Reading Outcome
ended_outcome r t x o s = value_end r t o s >>= λ u. made x u.0 o u.1

abbrev with_outcome : Part × Spot → Reading Outcome
with_outcome x = Ok (outcome_of x.0, x.1)

abbrev ended_at : Spot → Reading (Unit {0})
ended_at s = Ok (tt, s)

union_end : (x : Part × Spot) (o : Order) (b : Bool) → (cond {A = Reading Part} b (Ok x) (fault_at x.1.at Trailing) >>= with_outcome) ≡ (cond {A = Reading (Unit {0})} b (Ok (tt, x.1)) (fault_at x.1.at Trailing) >>= λ u. made x.0 u.0 o u.1)
unfolding ◌>>=◌
union_end x o true = refl
union_end x o false = refl

plain_end : (x : Part × Spot) (o : Order) → (Ok x >>= with_outcome) ≡ (ended_at x.1 >>= λ u. made x.0 u.0 o u.1)
unfolding ◌>>=◌
plain_end x o = refl

two_end : (x : Part × Spot) (o : Order) → with_outcome x ≡ (ended_at x.1 >>= λ u. made x.0 u.0 o u.1)
unfolding ◌>>=◌
two_end x o = refl

behind : (t : Shape) (x : Part × Spot) (o : Order) → (union_whole t x >>= with_outcome) ≡ (behind_union t x.1 >>= λ u. made x.0 u.0 o u.1)
behind (prim p) x o = plain_end x o
behind (str bound) x o = plain_end x o
behind (enumeration e bits ls) x o = plain_end x o
behind (bitmask bits fs) x o = plain_end x o
behind (sequence bound tc t) x o = plain_end x o
behind (array dims tc t) x o = plain_end x o
behind (map_of bound kc k vc t) x o = plain_end x o
behind (structure e ms) x o = plain_end x o
behind (union e key disc cs) x o = union_end x o (length x.1.rest == 0)

outcome_parts : (r : Rep) (t : Shape) (o : Order) (s : Spot) → value_outcome r t o s ≡ (read_in (mode_of r) o t s >>= λ x. ended_outcome r t x.0 o x.1)
outcome_parts Xcdr1 t o s =
    bind_bind (read1 true o t s) (λ x. union_whole t x) with_outcome
    ∙ each_bind (read1 true o t s) (λ x. union_whole t x >>= with_outcome) (λ x. ended_outcome Xcdr1 t x.0 o x.1) (λ x. behind t x o)
outcome_parts Xcdr2 t o s = each_bind (read o t s) with_outcome (λ x. ended_outcome Xcdr2 t x.0 o x.1) (λ x. two_end x o)

pub outcome_begin : (r : Rep) (t : Shape) (a : Standing) → Ahead (value_outcome r t) (λ o s. read_in (mode_of r) o t s >>= λ x. ended_outcome r t x.0 o x.1) a a
outcome_begin r t a = begins (value_outcome r t) _ a (λ s. outcome_parts r t a.order s)

-- ---- what comes out, where something does

pub comes_typed_if : {T : Type 0} (view : T → Outcome) (r : Rep) (t : Shape) {a b : Standing} (out : Result T DecodeFault) → ((o : Order) (s s2 : Spot) (v : Val) (u : Bool) → IsTrue (all (λ c. nat_lt c 256) s.rest) → value_read r o t s ≡ Ok ((got v, u), s2) → IsTrue (has_type t v))
    → Decodes view (value_outcome r t) a b out → IfOk out (λ x. ComesTyped t a (view x))
comes_typed_if view r t (Ok x) law d = comes_typed view r t law d
comes_typed_if view r t (Err e) law d = tt

pub comes_light_if : {T : Type 0} (view : T → Outcome) (r : Rep) (t : Shape) {a b : Standing} (out : Result T DecodeFault) → Stands a → Stands b → ((o : Order) (s s2 : Spot) (v : Val) (u : Bool) → value_read r o t s ≡ Ok ((got v, u), s2) → nodes v + 128 * length s2.rest ≤ weight t + 128 * length s.rest)
    → Decodes view (value_outcome r t) a b out → IfOk out (λ x. ComesLight t a b (view x))
comes_light_if view r t (Ok x) st st2 law d = comes_light view r t st st2 law d
comes_light_if view r t (Err e) st st2 law d = tt
