-- The laws of valid types: their premises follow from the rules.
use Rattle.std.proofs.Common.{◌≡◌, ℕ, ◌+◌, ◌*◌, ◌-◌, ◌%◌, ◌/◌, ◌^◌, ◌<◌, ◌≤◌, ◌==◌, ◌&&◌, Bool, true, false, cond, List, [], ◌∷◌, length, take, replicate, length-append, length-take, nat_lt, Option, Some, Result, Ok, Err, refl, sym, ap, subst, ◌∙◌, inl, inr, ◌⊎◌, IsTrue, arith}
use Rattle.std.proofs.lemmas.Bool.{and_parts}
use Rattle.std.proofs.lemmas.List.{length-replicate}
use Rattle.xt_shapes.specs.declared.leaves.Ext.{Ext}
use Rattle.xt_shapes.specs.declared.leaves.Order.{Order}
use Rattle.xt_shapes.specs.declared.leaves.Order.TheVariants.{Little}
use Rattle.xt_shapes.specs.declared.leaves.Rep.{Rep}
use Rattle.xt_shapes.specs.declared.leaves.Rep.TheVariants.{Xcdr1, Xcdr2}
use Rattle.xt_shapes.specs.Keyable.{counted_keyable}
use Rattle.xt_shapes.specs.Kinds.{is_number}
use Rattle.xt_shapes.specs.Lists.{all}
use Rattle.xt_shapes.specs.NodeRules.{rules_hold, keys_discard}
use Rattle.xt_shapes.specs.Shape.{Members, heads, Shape, prim, str, enumeration, bitmask, sequence, array, map_of, structure, union}
use Rattle.xt_shapes.specs.Typing.{has_type}
use Rattle.xt_shapes.specs.Vals.{Val, slots_in}
use Rattle.xt_shapes.specs.Weight.{weight}
use Rattle.xcdr_model.specs.declared.malformed.Fault.{Fault}
use Rattle.xcdr_model.specs.declared.malformed.Why.TheVariants.{Trailing, Encapsulation}
use Rattle.xcdr_model.specs.Equivalence.{same_shape}
use Rattle.xcdr_model.specs.Failure.{first_failure}
use Rattle.xcdr_model.specs.FixedSpelling.{fixed, fixed_of}
use Rattle.xcdr_model.specs.Numbers.{padding}
use Rattle.xcdr_model.specs.Policies.{standard}
use Rattle.xcdr_model.specs.Premises.{storable, cases_storable}
use Rattle.xcdr_model.specs.Projection.{Built, got, Part}
use Rattle.xcdr_model.specs.Reading.{Spot, fault_at, ◌>>=◌}
use Rattle.xcdr_model.specs.SampleSpelling.{IsSample, identifier, final_padding, with_head, fixed_sample}
use Rattle.xcdr_model.specs.Samples.{Outcome, sample, outcome_of, order_of, row_of, top_ext, body_read, body_outcome, past_head, read_sample}
use Rattle.xcdr_model.specs.Xcdr1Reading.{read1, read_body1}
use Rattle.xcdr_model.specs.Xcdr2Reading.{read, read_body}
use Rattle.xcdr_model.proofs.FromRules.{sound_from, storable_from, apart_from, light_from, defaults_from, keys_from, premises_from, default_typed}
use Rattle.shape_laws.specs.KeyLaws.{KeyOctetsTell, KeysCross, KeyOctetsBound}
use Rattle.shape_laws.specs.Premises.{PremisesHold, DefaultTyped}
use Rattle.shape_laws.specs.Readings.{OneOf, OneReading, BodyIsValue, ValueTyped, ReadTyped, SampleTyped, ValueNodesBound, NodesBound, SampleNodesBound}
use Rattle.shape_laws.specs.RoundTrips.{SelfRead, SelfProjected, FixedSpells, RoundTrip, SampleWritten, SizeSame, SampleSized}
use Rattle.shape_laws.specs.Soundness.{Cross, CrossSample, CrossTail, CrossInner, CrossKey, ProjectionTyped}
use Rattle.shape_laws.specs.Verdicts.{Equivalent, Judged, JudgedNested, ExactlyOne}
use Rattle.shape_laws.proofs.Costs.{bind_ok}
use Rattle.shape_laws.proofs.Crossing.{test_ok, crossing, crossing_tail, crossing_inner, crossing_key, crossing_sample, reading_self, spelling_fixed, tripping, judging, judging_nested, exactly, bounding, bounding_value, typing, reading_typed, value_typed, sizing}
use Rattle.shape_laws.proofs.GatherTyped.{take_ok}
use Rattle.shape_laws.proofs.KeyCosts.{top_key_costs}
use Rattle.shape_laws.proofs.KeyCosts1.{top_key_costs1}
use Rattle.shape_laws.proofs.KeyInstances.{telling, keys_crossing}
use Rattle.shape_laws.proofs.KeyLength.{top_length, union_length}
use Rattle.shape_laws.proofs.KeyRoom.{counted_room, keyed_room}
use Rattle.shape_laws.proofs.KeyTop.{built_sample}
use Rattle.shape_laws.proofs.Rules.{left}
use Rattle.shape_laws.proofs.Same.{same_is, shape_self}
use Rattle.shape_laws.proofs.Self.{self}
use Rattle.shape_laws.proofs.Steps.{spot}

pub the_premises_hold : PremisesHold
the_premises_hold t h = premises_from t h

pub the_default_typed : DefaultTyped
the_default_typed t h = default_typed t h

-- ---- verdicts

pub the_equivalent : Equivalent
the_equivalent t u = (same_is t u, (λ e. subst (λ (x : Shape). same_shape t x ≡ true) e (shape_self t)))

pub the_judged : Judged
the_judged q r t u h = judging q r t u (apart_from t h)

pub the_judged_nested : JudgedNested
the_judged_nested q r t u h = judging_nested q r t u (apart_from t h)

some_same : {A : Type 0} (x : Option A) (a b : A) → x ≡ Some a → x ≡ Some b → a ≡ b
some_same x a b e f = (let z : Some a ≡ Some b = sym e ∙ f in cc)

pub the_exactly_one : ExactlyOne
the_exactly_one q r t u h = let x = exactly q r t u (apart_from t h) in record { some = x.0; one_failure = λ f g. some_same (first_failure q r t u) f g; not_both = x.1 }

-- ---- soundness

pub the_cross : Cross
the_cross q r o t t2 v b h k = crossing q r o t t2 v b (sound_from t h) (sound_from t2 k)

pub the_cross_sample : CrossSample
the_cross_sample q r t t2 v s h k = crossing_sample q r t t2 v s (sound_from t h) (sound_from t2 k)

pub the_cross_tail : CrossTail
the_cross_tail q Xcdr1 o t t2 v p b h k = crossing_tail q Xcdr1 o t t2 v p b (sound_from t h) (sound_from t2 k)
the_cross_tail q Xcdr2 o t t2 v p b h k = crossing_tail q Xcdr2 o t t2 v p b (sound_from t h) (sound_from t2 k)

pub the_cross_inner : CrossInner
the_cross_inner q Xcdr1 o t t2 v p b rest h k = crossing_inner q Xcdr1 o t t2 v p b rest (sound_from t h) (sound_from t2 k)
the_cross_inner q Xcdr2 o t t2 v p b rest h k = crossing_inner q Xcdr2 o t t2 v p b rest (sound_from t h) (sound_from t2 k)

pub the_cross_key : CrossKey
the_cross_key q r t t2 v w h k = crossing_key q r t t2 v w (sound_from t h) (sound_from t2 k) (keys_from t h) (keys_from t2 k)

pub the_projection_typed : ProjectionTyped
the_projection_typed q r t t2 v w h k = typing q r t t2 v w (sound_from t h) (sound_from t2 k) (defaults_from t h)

-- ---- round trips

pub the_self_read : SelfRead
the_self_read r o t v b h = reading_self r o t v b (sound_from t h)

pub the_self_projected : SelfProjected
the_self_projected t v h k = ap outcome_of (self t (sound_from t h) v k)

pub the_fixed_spells : FixedSpells
the_fixed_spells r o t v p h = spelling_fixed r o t v p (sound_from t h) (storable_from t h)

pub the_round_trip : RoundTrip
the_round_trip r o t v h = tripping r o t v (sound_from t h) (storable_from t h)

padding_small : (n : ℕ) → padding 4 n % 4 ≡ padding 4 n
unfolding padding
padding_small n = omega arith

is_written : (r : Rep) (o : Order) (t : Shape) (v : Val) → IsTrue (rules_hold t) → IsTrue (has_type t v) → length (fixed_of r o t v 0) < 2 ^ 32 → IsSample r t v (fixed_sample r o t v)
is_written r o t v h k l =
    let body = fixed_of r o t v 0 in
    record {
      order = o;
      body = body;
      pad = replicate (final_padding body) 0;
      option = 0;
      counting = final_padding body;
      counts = padding_small (length body) ∙ sym (length-replicate (final_padding body) 0);
      spelled = the_fixed_spells r o t v 0 h k l;
      parts = refl;
    }

pub the_sample_written : SampleWritten
the_sample_written r o t v h k l =
    let w = is_written r o t v h k l in
    let s = sound_from t h in
    (w, crossing_sample standard r t t v (fixed_sample r o t v) s s (inl refl) w ∙ ap (λ (x : Part). Ok (outcome_of x)) (self t s v k))

pub the_size_same : SizeSame
the_size_same r o o2 t v p = sizing r o o2 t v p

head_length : (id : ℕ) (body : List ℕ) → length (with_head id body) ≡ 4 + length body + final_padding body
head_length id body = omega (arith, length-append body (replicate (final_padding body) 0), length-replicate {A = ℕ} (final_padding body) 0)

pub the_sample_sized : SampleSized
the_sample_sized r o t v =
    head_length (identifier r t o) (fixed_of r o t v 0) ∙ ap (λ (n : ℕ). 4 + n + padding 4 n) (sizing r o Little t v 0)

-- ---- readings

one_of : (x : Result Outcome Fault) → OneOf x
one_of x = record { some = by_result x refl; one_outcome = λ a b e f. (let z : Ok a ≡ Ok b = sym e ∙ f in cc); one_fault = λ f g e h. (let z : Err f ≡ Err g = sym e ∙ h in cc); not_both = λ a f e h. (let z : Ok a ≡ Err f = sym e ∙ h in cc) }
  where
    by_result : (y : Result Outcome Fault) → x ≡ y → ((a : Outcome) × (x ≡ Ok a)) ⊎ ((f : Fault) × (x ≡ Err f))
    by_result (Ok a) e = inl (a, e)
    by_result (Err f) e = inr (f, e)

pub the_one_reading : OneReading
the_one_reading r o t b = (one_of (body_outcome r o t b), one_of (read_sample r t b))

abbrev whole : Part × Spot → Result Part Fault
whole x = cond (length x.1.rest == 0) (Ok x.0) (fault_at x.1.at Trailing)

open_whole : (x : Result (Part × Spot) Fault) → (x >>= whole) ≡ ((x >>= λ y. cond (length y.1.rest == 0) (Ok y) (fault_at y.1.at Trailing)) >>= whole)
unfolding ◌>>=◌
open_whole (Err f) = refl
open_whole (Ok y) = by_left (length y.1.rest == 0) refl
  where
    by_left : (c : Bool) → (length y.1.rest == 0) ≡ c → whole y ≡ (cond c (Ok y) (fault_at y.1.at Trailing) >>= whole)
    by_left true e = refl
    by_left false e = ap (λ (c : Bool). cond c (Ok y.0) (fault_at y.1.at Trailing)) e

same_whole : (x : Result (Part × Spot) Fault) → (x >>= whole) ≡ ((x >>= λ y. Ok y) >>= whole)
unfolding ◌>>=◌
same_whole (Err f) = refl
same_whole (Ok y) = refl

pub the_body_is_value : BodyIsValue
unfolding read_body read_body1
the_body_is_value Xcdr2 o t b = refl
the_body_is_value Xcdr1 o (union e key disc cs) b = open_whole (read1 true o (union e key disc cs) (record { at = 0; rest = b }))
the_body_is_value Xcdr1 o (prim p) b = same_whole (read1 true o (prim p) (record { at = 0; rest = b }))
the_body_is_value Xcdr1 o (str bound) b = same_whole (read1 true o (str bound) (record { at = 0; rest = b }))
the_body_is_value Xcdr1 o (enumeration e bits ls) b = same_whole (read1 true o (enumeration e bits ls) (record { at = 0; rest = b }))
the_body_is_value Xcdr1 o (bitmask bits fs) b = same_whole (read1 true o (bitmask bits fs) (record { at = 0; rest = b }))
the_body_is_value Xcdr1 o (sequence bound tc t) b = same_whole (read1 true o (sequence bound tc t) (record { at = 0; rest = b }))
the_body_is_value Xcdr1 o (array dims tc t) b = same_whole (read1 true o (array dims tc t) (record { at = 0; rest = b }))
the_body_is_value Xcdr1 o (map_of bound kc k vc t) b = same_whole (read1 true o (map_of bound kc k vc t) (record { at = 0; rest = b }))
the_body_is_value Xcdr1 o (structure e ms) b = same_whole (read1 true o (structure e ms) (record { at = 0; rest = b }))

pub the_value_typed : ValueTyped
the_value_typed r o t s s2 v u h = value_typed r o t s s2 v u (sound_from t h) (storable_from t h) (defaults_from t h)

pub the_read_typed : ReadTyped
the_read_typed r o t b v u h = reading_typed r o t b v u (sound_from t h) (storable_from t h) (defaults_from t h)

pub the_value_nodes_bound : ValueNodesBound
the_value_nodes_bound r o t s s2 v u h = bounding_value r o t s s2 v u (sound_from t h) (light_from t h)

pub the_nodes_bound : NodesBound
the_nodes_bound r o t b v u h = bounding r o t b v u (sound_from t h) (light_from t h)

-- the body of a sample that is read
record Within (r : Rep) (t : Shape) (s : List ℕ) (v : Val) : Type 0 where
  order : Order
  body : List ℕ
  unseen : Bool
  read_as : body_read r order t body ≡ Ok (got v, unseen)
  shorter : length body ≤ length s
  octets : all (λ c. nat_lt c 256) s ≡ true → all (λ c. nat_lt c 256) body ≡ true

then_test : {A : Type 0} (c : Bool) (x : Result A Fault) (f : Fault) (a : A) → cond c x (Err f) ≡ Ok a → x ≡ Ok a
then_test true x f a e = e
then_test false x f a e = absurd cc

else_test : {A : Type 0} (c : Bool) (x : Result A Fault) (f : Fault) (a : A) → cond c (Err f) x ≡ Ok a → x ≡ Ok a
else_test true x f a e = absurd cc
else_test false x f a e = e

head_passed : (x : Result Outcome Fault) (a : Outcome) → past_head x ≡ Ok a → x ≡ Ok a
head_passed (Ok x) a e = e
head_passed (Err f) a e = absurd cc

read_part : (r : Rep) (o : Order) (t : Shape) (b : List ℕ) (v : Val) → body_outcome r o t b ≡ Ok (sample v) → (u : Bool) × (body_read r o t b ≡ Ok (got v, u))
read_part r o t b v e =
    let x = bind_ok (body_read r o t b) (λ y. Ok (outcome_of y)) (sample v) e in
    let z : outcome_of x.0 ≡ sample v = cc in
    (x.0.1, x.1 ∙ ap (λ (y : Built). Ok (y, x.0.1)) (built_sample x.0 v z))

last_four : (a b c d q : Bool) → (a && (b && (c && (d && q)))) ≡ true → q ≡ true
last_four a b c d q e =
    let x = and_parts a (b && (c && (d && q))) e in
    let y = and_parts b (c && (d && q)) x.1 in
    let z = and_parts c (d && q) y.1 in
    (and_parts d q z.1).1

within : (r : Rep) (t : Shape) (s : List ℕ) (v : Val) → read_sample r t s ≡ Ok (sample v) → Within r t s v
unfolding read_sample
within r t [] v e = absurd cc
within r t (a ∷ []) v e = absurd cc
within r t (a ∷ b ∷ []) v e = absurd cc
within r t (a ∷ b ∷ c ∷ []) v e = absurd cc
within r t (a ∷ b ∷ c ∷ d ∷ body) v e =
    let o = order_of ((256 * a + b) % 2) in
    let inner = take (length body - d % 4) body in
    let x = then_test ((256 * a + b) / 2 == row_of r (top_ext t)) (cond (nat_lt (length body) (d % 4)) (fault_at 2 Encapsulation) (past_head (body_outcome r o t inner))) (record { at = 0; why = Encapsulation }) (sample v) e in
    let y = else_test (nat_lt (length body) (d % 4)) (past_head (body_outcome r o t inner)) (record { at = 2; why = Encapsulation }) (sample v) x in
    let z = read_part r o t inner v (head_passed (body_outcome r o t inner) (sample v) y) in
    record {
      order = o;
      body = inner;
      unseen = z.0;
      read_as = z.1;
      shorter = omega (arith, length-take (length body - d % 4) body);
      octets = λ k. take_ok (λ n. nat_lt n 256) (length body - d % 4) body (last_four (nat_lt a 256) (nat_lt b 256) (nat_lt c 256) (nat_lt d 256) (all (λ n. nat_lt n 256) body) k);
    }

pub the_sample_typed : SampleTyped
the_sample_typed r t s v h k e = let x = within r t s v e in the_read_typed r x.order t x.body v x.unseen h (x.octets k) x.read_as

pub the_sample_nodes_bound : SampleNodesBound
the_sample_nodes_bound r t s v h e =
    let x = within r t s v e in
    let n = the_nodes_bound r x.order t x.body v x.unseen h x.read_as in
    omega (arith, n, x.shorter)

-- ---- keys

pub the_key_octets_tell : KeyOctetsTell
the_key_octets_tell t v w h = telling t v w (sound_from t h) (storable_from t h) (keys_from t h)

pub the_keys_cross : KeysCross
the_keys_cross q r t t2 v w h k = keys_crossing q r t t2 v w (sound_from t h) (sound_from t2 k) (storable_from t h) (keys_from t h) (keys_from t2 k)

-- the key of a top structure that is read
key_room_read : (r : Rep) (o : Order) (e : Ext) (ms : Members) (b : List ℕ) (v : Val) (u : Bool) → IsTrue (rules_hold (structure e ms)) → body_read r o (structure e ms) b ≡ Ok (got v, u) → counted_room true ms (slots_in v) ≤ 16 * (weight (structure e ms) + length b)
unfolding read_body read_body1
key_room_read Xcdr2 o e ms b v u h f =
    let t = structure e ms in
    let k = left (counted_keyable true ms) (keys_discard (heads ms)) (keys_from t h) in
    let x = bind_ok (read o t (spot 0 b)) (λ z. cond (length z.1.rest == 0) (Ok z.0) (fault_at z.1.at Trailing)) (got v, u) f in
    let g = test_ok (length x.0.1.rest == 0) x.0.0 (record { at = x.0.1.at; why = Trailing }) (got v, u) x.2 in
    let c = top_key_costs e ms (sound_from t h) (light_from t h) k o (spot 0 b) x.0.1 x.0.0 x.1 in
    omega (arith, c.1, c.2.1, ap (λ (z : Part). keyed_room true ms z.0) g)
key_room_read Xcdr1 o e ms b v u h f =
    let t = structure e ms in
    let k = left (counted_keyable true ms) (keys_discard (heads ms)) (keys_from t h) in
    let x = bind_ok (read1 true o t (spot 0 b)) (λ z. cond (length z.1.rest == 0) (Ok z.0) (fault_at z.1.at Trailing)) (got v, u) f in
    let g = test_ok (length x.0.1.rest == 0) x.0.0 (record { at = x.0.1.at; why = Trailing }) (got v, u) x.2 in
    let c = top_key_costs1 e ms (sound_from t h) (light_from t h) k o (spot 0 b) x.0.1 x.0.0 x.1 in
    omega (arith, c.1, c.2, ap (λ (z : Part). keyed_room true ms z.0) g)

pub the_key_octets_bound : KeyOctetsBound
unfolding fixed
the_key_octets_bound r (structure e ms) s v h k f =
    let t = structure e ms in
    let x = within r t s v f in
    let typed = the_sample_typed r t s v h k f in
    let c = left (counted_keyable true ms) (keys_discard (heads ms)) (keys_from t h) in
    omega (arith, top_length e ms c v typed, key_room_read r x.order e ms x.body v x.unseen h x.read_as, x.shorter)
the_key_octets_bound r (union e key d cs) s v h k f =
    let t = union e key d cs in
    let n = left (is_number d) (storable d) (left (is_number d && storable d) (cases_storable cs) (storable_from t h)) in
    omega (arith, union_length e key d cs n v)
the_key_octets_bound r (prim p) s v h k f = omega arith
the_key_octets_bound r (str bound) s v h k f = omega arith
the_key_octets_bound r (enumeration e bits ls) s v h k f = omega arith
the_key_octets_bound r (bitmask bits fs) s v h k f = omega arith
the_key_octets_bound r (sequence bound tc t) s v h k f = omega arith
the_key_octets_bound r (array dims tc t) s v h k f = omega arith
the_key_octets_bound r (map_of bound kc j vc t) s v h k f = omega arith
