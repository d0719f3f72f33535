-- The law for whole bodies.
use Rattle.std.proofs.Common.{◌≡◌, ℕ, ◌+◌, ◌==◌, Bool, true, false, cond, List, length, arith, Some, None, sym, Ok, Err, refl, ap, subst, ◌∙◌, IsTrue, ◌⊎◌, inl, inr}
use Rattle.xt_shapes.specs.declared.leaves.Order.{Order}
use Rattle.xt_shapes.specs.declared.leaves.Rep.{Rep}
use Rattle.xt_shapes.specs.declared.leaves.Rep.TheVariants.{Xcdr1, Xcdr2}
use Rattle.xt_shapes.specs.Shape.{Shape, prim, str, enumeration, bitmask, sequence, array, map_of, structure, union}
use Rattle.xt_shapes.specs.Typing.{has_type}
use Rattle.xt_shapes.specs.Vals.{Val}
use Rattle.xcdr_model.specs.declared.malformed.Fault.{Fault}
use Rattle.xcdr_model.specs.declared.malformed.Why.TheVariants.{Trailing}
use Rattle.xcdr_model.specs.declared.verdict.Policy.{Policy}
use Rattle.xcdr_model.specs.Assignable.{Fits, Assignable}
use Rattle.xcdr_model.specs.Failure.{Failure, First, first_failure}
use Rattle.xcdr_model.specs.FixedSpelling.{fixed_of}
use Rattle.xcdr_model.specs.Keys.{key}
use Rattle.xcdr_model.specs.Policies.{standard}
use Rattle.xcdr_model.specs.Premises.{sound}
use Rattle.xcdr_model.specs.Projection.{Part, got, projected}
use Rattle.xcdr_model.specs.Reading.{Spot, fault_at, ◌>>=◌}
use Rattle.xcdr_model.specs.SampleSpelling.{spells}
use Rattle.xcdr_model.specs.Samples.{body_read, union_whole}
use Rattle.xcdr_model.specs.Xcdr1Reading.{read1, read_body1}
use Rattle.xcdr_model.specs.Xcdr2Reading.{read, read_body}
use Rattle.xcdr_model.specs.Xcdr2Spelling.{writes}
use Rattle.shape_laws.proofs.Agreement.{Agree}
use Rattle.shape_laws.proofs.Agreement1.{Tail}
use Rattle.shape_laws.proofs.Costs.{bind_ok}
use Rattle.shape_laws.proofs.FixedLaw.{fixed_spells}
use Rattle.shape_laws.proofs.FixedLaw1.{fixed1_spells}
use Rattle.shape_laws.proofs.GatherTyped.{ok}
use Rattle.shape_laws.proofs.Judge.{to_fits, from_fits}
use Rattle.shape_laws.proofs.KeyTop.{built_sample, key_same, key_through}
use Rattle.shape_laws.proofs.Law.{law}
use Rattle.shape_laws.proofs.Law1.{law1, law1_end}
use Rattle.shape_laws.proofs.NodesBuilt.{nodes_built}
use Rattle.shape_laws.proofs.NodesLaw.{read_costs}
use Rattle.shape_laws.proofs.NodesLaw1.{read1_costs}
use Rattle.shape_laws.proofs.ProjectLaw.{keeps}
use Rattle.shape_laws.proofs.ReadLaw.{read_gives}
use Rattle.shape_laws.proofs.ReadLaw1.{read1_gives}
use Rattle.shape_laws.proofs.Rules.{same, agree_from}
use Rattle.shape_laws.proofs.Rules1.{same1, fitted, by_strong1}
use Rattle.shape_laws.proofs.SampleLaw.{same_ext_of, sample_again}
use Rattle.shape_laws.proofs.Self.{self}
use Rattle.shape_laws.proofs.SizeLaw.{size_same, size1_same}
use Rattle.shape_laws.proofs.Statements.{Cross, CrossInner, CrossKey, CrossSample, CrossTail, ExactlyOne, FixedSpells, Judged, JudgedNested, NodesBound, ProjectionTyped, ReadTyped, RoundTrip, SelfRead, SizeSame, ValueNodesBound, ValueTyped}
use Rattle.shape_laws.proofs.Steps.{spot, then_ok, at_end}
use Rattle.shape_laws.proofs.TopJudge.{to_assignable, from_assignable}
use Rattle.shape_laws.proofs.Widen.{widen}

agrees : (q : Policy) (t t2 : Shape) → IsTrue (sound t) → IsTrue (sound t2) → (t ≡ t2) ⊎ Fits q Xcdr2 t t2 → Agree t t2
agrees q t t2 s s2 f = elim f [ inl e ↦ subst (λ (x : Shape). Agree t x) e (same t s) | inr g ↦ agree_from q t t2 s s2 g ]

tails : (q : Policy) (t t2 : Shape) → IsTrue (sound t) → IsTrue (sound t2) → (t ≡ t2) ⊎ Fits q Xcdr1 t t2 → Tail t t2
tails q t t2 s s2 f = elim f [ inl e ↦ subst (λ (x : Shape). Tail t x) e (same1 t s).1 | inr g ↦ (fitted q t t2 s s2 g).1 ]

pub test_ok : (c : Bool) (x : Part) (d : Fault) (y : Part) → cond c (Ok x) (Err d) ≡ Ok y → x ≡ y
test_ok true x d y e = cc
test_ok false x d y e = absurd cc

pub crossing_tail : CrossTail
crossing_tail q Xcdr2 o t t2 v p b s s2 f w = (p + length b, at_end (read o t) (writes o t2 v) (projected t t2 v) (law (agrees q t t2 s s2 f) o v) p b w)
crossing_tail q Xcdr1 o t t2 v p b s s2 f w = (law1_end (tails q t t2 s s2 f) o v).0 p b w

body_is : (q : Policy) (r : Rep) (o : Order) (t t2 : Shape) (v : Val) (b : List ℕ) → IsTrue (sound t) → IsTrue (sound t2) → (t ≡ t2) ⊎ Fits q r t t2 → spells r o t2 v 0 b → body_read r o t b ≡ Ok (projected t t2 v)
unfolding read_body read_body1
body_is q Xcdr2 o t t2 v b s s2 f w = then_ok _ (crossing_tail q Xcdr2 o t t2 v 0 b s s2 f w).1 refl
body_is q Xcdr1 o t t2 v b s s2 f w = then_ok _ (crossing_tail q Xcdr1 o t t2 v 0 b s s2 f w).1 refl

below : (q : Policy) (r : Rep) (t t2 : Shape) → (t ≡ t2) ⊎ Assignable q r t t2 → (t ≡ t2) ⊎ Fits q r t t2
below q r t t2 f = elim f [ inl e ↦ inl e | inr g ↦ inr g.fits ]

pub crossing : Cross
crossing q r o t t2 v b s s2 f w = then_ok _ (body_is q r o t t2 v b s s2 (below q r t t2 f) w) refl

pub reading_self : SelfRead
reading_self r o t v b s h w = body_is standard r o t t v b s s (inl refl) w ∙ ap (λ (x : Part). Ok x) (self t s v h)

pub spelling_fixed : FixedSpells
spelling_fixed Xcdr1 o t v p s k h l = fixed1_spells t s k o v h p l
spelling_fixed Xcdr2 o t v p s k h l = fixed_spells t s k o v h p l

pub tripping : RoundTrip
tripping r o t v s k h l = reading_self r o t v (fixed_of r o t v 0) s h (spelling_fixed r o t v 0 s k h l)

pub crossing_inner : CrossInner
crossing_inner q Xcdr2 o t t2 v p b rest s s2 f w = law (agrees q t t2 s s2 (elim f [ inl e ↦ inl e | inr g ↦ inr g.1 ])) o v p b rest w
crossing_inner q Xcdr1 o t t2 v p b rest s s2 f w = law1 (by_strong1 q t t2 f (same1 t s) (λ g. fitted q t t2 s s2 g)).0 o v p b rest w

pub judging_nested : JudgedNested
judging_nested q r t u d = (to_fits q r t u d, from_fits q r t u)

pub judging : Judged
judging q r t u d = (to_assignable q r t u d, from_assignable q r t u)

pub exactly : ExactlyOne
exactly q r t u d = (by_first (first_failure q r t u) refl, (λ a f e. (let z : None ≡ Some f = sym (from_assignable q r t u a) ∙ e in absurd cc)))
  where
    by_first : (x : First) → first_failure q r t u ≡ x → Assignable q r t u ⊎ ((f : Failure) × (first_failure q r t u ≡ Some f))
    by_first None e = inl (to_assignable q r t u d e)
    by_first (Some f) e = inr (f, e)

pub crossing_key : CrossKey
crossing_key q r t t2 v w s s2 k k2 f h e =
    let g = built_sample (projected t t2 v) w e in
    elim f [
      | inl z ↦ key_same t v w s (ap (λ (y : Shape). has_type y v) z ∙ h) (ap (λ (y : Shape). (projected t y v).0) z ∙ g) ∙ ap (λ (y : Shape). key y v) z
      | inr a ↦ key_through q r t t2 v w s s2 k k2 a.keys a.fits h g
    ]

pub crossing_sample : CrossSample
crossing_sample q r t t2 v s d d2 f k = sample_again r t t2 v s k (same_ext_of q r t t2 (below q r t t2 f)) (λ o b w. crossing q r o t t2 v b d d2 f w)

-- In XCDR1 a value is what was read, whatever is left behind it.
whole_ok : (c : Bool) (x : Part × Spot) (d : Fault) (y : Part × Spot) → cond c (Ok x) (Err d) ≡ Ok y → x ≡ y
whole_ok true x d y e = cc
whole_ok false x d y e = absurd cc

union_whole_ok : (t : Shape) (x y : Part × Spot) → union_whole t x ≡ Ok y → x ≡ y
union_whole_ok (union e key disc cs) x y f = whole_ok (length x.1.rest == 0) x (record { at = x.1.at; why = Trailing }) y f
union_whole_ok (prim p) x y f = cc
union_whole_ok (str bound) x y f = cc
union_whole_ok (enumeration e bits ls) x y f = cc
union_whole_ok (bitmask bits fs) x y f = cc
union_whole_ok (sequence bound tc t) x y f = cc
union_whole_ok (array dims tc t) x y f = cc
union_whole_ok (map_of bound kc k vc t) x y f = cc
union_whole_ok (structure e ms) x y f = cc

value1_ok : (o : Order) (t : Shape) (s : Spot) (y : Part × Spot) → (read1 true o t s >>= λ x. union_whole t x) ≡ Ok y → read1 true o t s ≡ Ok y
value1_ok o t s y e =
    let x = bind_ok (read1 true o t s) (λ x. union_whole t x) y e in
    x.1 ∙ ap (λ (z : Part × Spot). Ok z) (union_whole_ok t x.0 y x.2)

pub bounding_value : ValueNodesBound
bounding_value Xcdr2 o t s s2 v u h l e = let k = read_costs t h l o s s2 (got v, u) e in omega (arith, k.1, k.2.1)
bounding_value Xcdr1 o t s s2 v u h l e = let k = (read1_costs t h l o).1 s s2 (got v, u) (value1_ok o t s ((got v, u), s2) e) in omega (arith, k.1, k.2)

pub bounding : NodesBound
unfolding read_body read_body1
bounding Xcdr2 o t b v u s l e =
    let x = bind_ok (read o t (spot 0 b)) (λ z. cond (length z.1.rest == 0) (Ok z.0) (fault_at z.1.at Trailing)) (got v, u) e in
    let g = test_ok (length x.0.1.rest == 0) x.0.0 (record { at = x.0.1.at; why = Trailing }) (got v, u) x.2 in
    let k = read_costs t s l o (spot 0 b) x.0.1 x.0.0 x.1 in
    omega (arith, k.1, k.2.1, ap (λ (z : Part). nodes_built z.0) g)
bounding Xcdr1 o t b v u s l e =
    let x = bind_ok (read1 true o t (spot 0 b)) (λ z. cond (length z.1.rest == 0) (Ok z.0) (fault_at z.1.at Trailing)) (got v, u) e in
    let g = test_ok (length x.0.1.rest == 0) x.0.0 (record { at = x.0.1.at; why = Trailing }) (got v, u) x.2 in
    let k = (read1_costs t s l o).1 (spot 0 b) x.0.1 x.0.0 x.1 in
    omega (arith, k.1, k.2, ap (λ (z : Part). nodes_built z.0) g)

agrees_under : (q : Policy) (r : Rep) (t t2 : Shape) → IsTrue (sound t) → IsTrue (sound t2) → (t ≡ t2) ⊎ Fits q r t t2 → Agree t t2
agrees_under q Xcdr2 t t2 s s2 f = agrees q t t2 s s2 f
agrees_under q Xcdr1 t t2 s s2 f = agrees q t t2 s s2 (elim f [ inl e ↦ inl e | inr g ↦ inr (widen q t t2 g) ])

pub typing : ProjectionTyped
typing q r t t2 v w s s2 k f h e = ap (ok t) (sym (built_sample (projected t t2 v) w e)) ∙ keeps (agrees_under q r t t2 s s2 (below q r t t2 f)) s k v h

pub value_typed : ValueTyped
value_typed Xcdr2 o t s s2 v u h k l b e = (read_gives t h k l o s s2 (got v, u) b e).1
value_typed Xcdr1 o t s s2 v u h k l b e = (read1_gives t h k l o true s s2 (got v, u) b (value1_ok o t s ((got v, u), s2) e)).1

pub reading_typed : ReadTyped
unfolding read_body read_body1
reading_typed Xcdr2 o t b v u s k l h e =
    let x = bind_ok (read o t (spot 0 b)) (λ z. cond (length z.1.rest == 0) (Ok z.0) (fault_at z.1.at Trailing)) (got v, u) e in
    let g = test_ok (length x.0.1.rest == 0) x.0.0 (record { at = x.0.1.at; why = Trailing }) (got v, u) x.2 in
    ap (λ (z : Part). ok t z.0) (sym g) ∙ (read_gives t s k l o (spot 0 b) x.0.1 x.0.0 h x.1).1
reading_typed Xcdr1 o t b v u s k l h e =
    let x = bind_ok (read1 true o t (spot 0 b)) (λ z. cond (length z.1.rest == 0) (Ok z.0) (fault_at z.1.at Trailing)) (got v, u) e in
    let g = test_ok (length x.0.1.rest == 0) x.0.0 (record { at = x.0.1.at; why = Trailing }) (got v, u) x.2 in
    ap (λ (z : Part). ok t z.0) (sym g) ∙ (read1_gives t s k l o true (spot 0 b) x.0.1 x.0.0 h x.1).1

pub sizing : SizeSame
sizing Xcdr1 o o2 t v p = size1_same o o2 t v p
sizing Xcdr2 o o2 t v p = size_same o o2 t v p
