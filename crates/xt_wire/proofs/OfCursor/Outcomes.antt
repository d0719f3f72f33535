-- What comes out of a decoder has the reader's type, and few nodes for its octets.
use Rattle.std.proofs.Common.{◌≡◌, refl, sym, ap, ◌∙◌, subst, ℕ, ◌+◌, ◌-◌, ◌*◌, ◌≤◌, Bool, true, false, List, length, Option, Some, None, Ok, Err, arith, IsTrue, nat_lt}
use Rattle.xt_shapes.specs.declared.leaves.Order.{Order}
use Rattle.xt_shapes.specs.declared.leaves.Rep.{Rep}
use Rattle.xt_shapes.specs.Lists.{all}
use Rattle.xt_shapes.specs.Nodes.{nodes}
use Rattle.xt_shapes.specs.Shape.{Shape}
use Rattle.xt_shapes.specs.Typing.{has_type}
use Rattle.xt_shapes.specs.Vals.{Val}
use Rattle.xt_shapes.specs.Weight.{weight}
use Rattle.xcdr_model.specs.Projection.{Built, Part, got, over, failed}
use Rattle.xcdr_model.specs.Reading.{Spot, Reading, ◌>>=◌}
use Rattle.xcdr_model.specs.Samples.{Outcome, outcome_of, value_read}
use Rattle.xt_wire.specs.cursor.Standing.{Standing, Stands, room}
use Rattle.xt_wire.specs.cursor.Decoding.{spot, after, Answers, Decodes}
use Rattle.xt_wire.specs.cursor.Outcomes.{IsTyped, IsLight, ComesTyped, ComesLight}
use Rattle.xt_wire.proofs.OfCursor.Ahead.{reads_ok, room_is}

from_reading : (r : Reading Part) (y : Outcome × Spot) → (r >>= λ x. Ok (outcome_of x.0, x.1)) ≡ Ok y → (x : Part × Spot) × (r ≡ Ok x) × (outcome_of x.0 ≡ y.0) × (x.1 ≡ y.1)
unfolding ◌>>=◌
from_reading (Ok x) y e = (let same : (outcome_of x.0, x.1) ≡ y = cc in (x, refl, ap (λ (z : Outcome × Spot). z.0) same, ap (λ (z : Outcome × Spot). z.1) same))
from_reading (Err f) y e = absurd cc

typed_part : (t : Shape) (x : Part) → ((v : Val) (u : Bool) → x ≡ (got v, u) → IsTrue (has_type t v)) → IsTyped t (outcome_of x)
typed_part t x h = by_parts x.0 x.1 h
  where
    by_parts : (b : Built) (u : Bool) → ((v : Val) (w : Bool) → ◌≡◌ {A = Part} (b, u) (got v, w) → IsTrue (has_type t v)) → IsTyped t (outcome_of (b, u))
    by_parts b true h = tt
    by_parts (got v) false h = h v false refl
    by_parts (over v) false h = tt
    by_parts failed false h = tt

light_part : (t : Shape) (n : ℕ) (x : Part) → ((v : Val) (u : Bool) → x ≡ (got v, u) → nodes v ≤ weight t + 128 * n) → IsLight t n (outcome_of x)
light_part t n x h = by_parts x.0 x.1 h
  where
    by_parts : (b : Built) (u : Bool) → ((v : Val) (w : Bool) → ◌≡◌ {A = Part} (b, u) (got v, w) → nodes v ≤ weight t + 128 * n) → IsLight t n (outcome_of (b, u))
    by_parts b true h = tt
    by_parts (got v) false h = h v false refl
    by_parts (over v) false h = tt
    by_parts failed false h = tt

abbrev pub outcome_read : Rep → Shape → Order → Spot → Reading Outcome
outcome_read r t o s = value_read r o t s >>= λ x. Ok (outcome_of x.0, x.1)

pub comes_typed : {T : Type 0} (view : T → Outcome) (r : Rep) (t : Shape) {a b : Standing} {out : T}
    → ((o : Order) (s s2 : Spot) (v : Val) (u : Bool) → IsTrue (all (λ c. nat_lt c 256) s.rest) → value_read r o t s ≡ Ok ((got v, u), s2) → IsTrue (has_type t v))
    → Decodes view (outcome_read r t) a b (Ok out) → ComesTyped t a (view out)
comes_typed view r t {a} {b} {out} law d = by_told a.ahead (λ xs e. d.told xs e)
  where
    by_told : (o : Option (List ℕ)) → ((xs : List ℕ) → o ≡ Some xs → Answers view a b xs (outcome_read r t a.order (spot a xs)) (Ok out)) → ComesTyped t (record a { ahead = o }) (view out)
    by_told None told = tt
    by_told (Some xs) told = λ small.
        let one = reads_ok view (outcome_read r t a.order (spot a xs)) a b xs out (told xs refl) in
        let two = from_reading (value_read r a.order t (spot a xs)) one.0 one.2 in
        subst (IsTyped t) (two.2 ∙ sym one.1.value) (typed_part t two.0.0 (λ v u is. law a.order (spot a xs) two.0.1 v u small (two.1 ∙ ap (λ (p : Part). Ok (p, two.0.1)) is)))

pub comes_light : {T : Type 0} (view : T → Outcome) (r : Rep) (t : Shape) {a b : Standing} {out : T} → Stands a → Stands b
    → ((o : Order) (s s2 : Spot) (v : Val) (u : Bool) → value_read r o t s ≡ Ok ((got v, u), s2) → nodes v + 128 * length s2.rest ≤ weight t + 128 * length s.rest)
    → Decodes view (outcome_read r t) a b (Ok out) → ComesLight t a b (view out)
comes_light view r t {a} {b} {out} st st2 law d = by_told a.ahead refl
  where
    by_told : (o : Option (List ℕ)) → a.ahead ≡ o → ComesLight t (record a { ahead = o }) b (view out)
    by_told None e = tt
    by_told (Some xs) e =
        let one = reads_ok view (outcome_read r t a.order (spot a xs)) a b xs out (d.told xs e) in
        let two = from_reading (value_read r a.order t (spot a xs)) one.0 one.2 in
        let before : length (spot a xs).rest ≡ room a = room_is xs st e in
        let behind : length two.0.1.rest ≡ room b = ap (λ (s : Spot). length s.rest) (two.3 ∙ sym one.1.spot) ∙ room_is (after a b xs) st2 one.1.ahead in
        subst (IsLight t (b.place - a.place)) (two.2 ∙ sym one.1.value) (light_part t (b.place - a.place) two.0.0 (λ v u is.
        omega (arith, law a.order (spot a xs) two.0.1 v u (two.1 ∙ ap (λ (p : Part). Ok (p, two.0.1)) is), before, behind, d.within.region_end, d.later, st.in_region, st2.in_region)))
