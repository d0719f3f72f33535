-- What comes out of a sample has the reader's type, and few nodes for its octets.
use Rattle.std.proofs.Common.{◌≡◌, refl, sym, ap, ◌∙◌, subst, ℕ, ◌+◌, ◌-◌, ◌*◌, ◌≤◌, List, length, Option, Some, None, Result, Ok, Err, arith, IsTrue, nat_lt}
use Rattle.xt_shapes.specs.declared.leaves.Rep.{Rep}
use Rattle.xt_shapes.specs.Lists.{all}
use Rattle.xt_shapes.specs.Nodes.{nodes}
use Rattle.xt_shapes.specs.Shape.{Shape}
use Rattle.xt_shapes.specs.Typing.{has_type}
use Rattle.xt_shapes.specs.Vals.{Val}
use Rattle.xt_shapes.specs.Weight.{weight}
use Rattle.xcdr_model.specs.declared.malformed.Fault.{Fault}
use Rattle.xcdr_model.specs.Reading.{Spot, Reading}
use Rattle.xcdr_model.specs.Samples.{Outcome, sample, discarded, must_understand, read_sample}
use Rattle.xt_wire.specs.cursor.Standing.{Standing, Stands}
use Rattle.xt_wire.specs.cursor.Decoding.{spot, Answers, Decodes}
use Rattle.xt_wire.specs.cursor.Outcomes.{IsTyped, IsLight, ComesTyped, ComesLight}
use Rattle.xt_wire.proofs.OfCursor.Ahead.{reads_ok, room_is}
use Rattle.xcdr_samples.specs.frames.Frames.{over_region}
use Rattle.xcdr_samples.specs.Samples.{sample_outcome}

abbrev outcome_in : Outcome → Reading Outcome → Outcome
outcome_in d (Ok x) = x.0
outcome_in d (Err f) = d

from_region : (s : Spot) (r : Result Outcome Fault) (y : Outcome × Spot) → over_region s r ≡ Ok y → r ≡ Ok y.0
from_region s (Ok x) y e = ap (λ (z : Outcome). Ok z) (ap (outcome_in x) e)
from_region s (Err f) y e = absurd cc

typed_outcome : (t : Shape) (y : Outcome) → ((v : Val) → y ≡ sample v → IsTrue (has_type t v)) → IsTyped t y
typed_outcome t (sample v) h = h v refl
typed_outcome t discarded h = tt
typed_outcome t must_understand h = tt

light_outcome : (t : Shape) (n : ℕ) (y : Outcome) → ((v : Val) → y ≡ sample v → nodes v ≤ weight t + 128 * n) → IsLight t n y
light_outcome t n (sample v) h = h v refl
light_outcome t n discarded h = tt
light_outcome t n must_understand h = tt

pub sample_typed : {T : Type 0} (view : T → Outcome) (rep : Rep) (t : Shape) {a b : Standing} {out : T}
    → ((s : List ℕ) (v : Val) → IsTrue (all (λ c. nat_lt c 256) s) → read_sample rep t s ≡ Ok (sample v) → IsTrue (has_type t v))
    → Decodes view (sample_outcome rep t) a b (Ok out) → ComesTyped t a (view out)
sample_typed view rep t {a} {b} {out} law d = by_told a.ahead (λ xs e. d.told xs e)
  where
    by_told : (o : Option (List ℕ)) → ((xs : List ℕ) → o ≡ Some xs → Answers view a b xs (sample_outcome rep t a.order (spot a xs)) (Ok out)) → ComesTyped t (record a { ahead = o }) (view out)
    by_told None told = tt
    by_told (Some xs) told = λ small.
        let one = reads_ok view (sample_outcome rep t a.order (spot a xs)) a b xs out (told xs refl) in
        let read = from_region (spot a xs) (read_sample rep t (spot a xs).rest) one.0 one.2 in
        subst (IsTyped t) (sym one.1.value) (typed_outcome t one.0.0 (λ v is. law (spot a xs).rest v small (read ∙ ap (λ (z : Outcome). Ok z) is)))

pub sample_light : {T : Type 0} (view : T → Outcome) (rep : Rep) (t : Shape) {a b : Standing} {out : T} → Stands a → b.place ≡ a.region_end
    → ((s : List ℕ) (v : Val) → read_sample rep t s ≡ Ok (sample v) → nodes v ≤ weight t + 128 * length s)
    → Decodes view (sample_outcome rep t) a b (Ok out) → ComesLight t a b (view out)
sample_light view rep t {a} {b} {out} st whole law d = by_told a.ahead refl
  where
    by_told : (o : Option (List ℕ)) → a.ahead ≡ o → ComesLight t (record a { ahead = o }) b (view out)
    by_told None e = tt
    by_told (Some xs) e =
        let one = reads_ok view (sample_outcome rep t a.order (spot a xs)) a b xs out (d.told xs e) in
        let read = from_region (spot a xs) (read_sample rep t (spot a xs).rest) one.0 one.2 in
        let all_of : length (spot a xs).rest ≡ b.place - a.place = omega (arith, room_is xs st e, whole) in
        subst (IsLight t (b.place - a.place)) (sym one.1.value) (light_outcome t (b.place - a.place) one.0.0 (λ v is.
        omega (arith, law (spot a xs).rest v (read ∙ ap (λ (z : Outcome). Ok z) is), all_of)))
