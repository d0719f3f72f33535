-- The law for whole samples, from that for their bodies.
use Rattle.std.proofs.Common.{◌≡◌, ℕ, ◌+◌, ◌-◌, ◌*◌, ◌/◌, ◌%◌, true, false, List, length, ◌++◌, Ok, refl, sym, ap, ap₂, ◌∙◌, arith, ltb, ◌==◌, ◌⊎◌, inl, inr}
use Rattle.std.proofs.lemmas.Bool.{le-ltb}
use Rattle.std.proofs.lemmas.List.{length-append, take_at}
use Rattle.xt_shapes.specs.declared.leaves.Ext.{Ext}
use Rattle.xt_shapes.specs.declared.leaves.Ext.TheVariants.{Final, Appendable, Mutable}
use Rattle.xt_shapes.specs.declared.leaves.Order.{Order}
use Rattle.xt_shapes.specs.declared.leaves.Order.TheVariants.{Big, Little}
use Rattle.xt_shapes.specs.declared.leaves.Rep.{Rep}
use Rattle.xt_shapes.specs.declared.leaves.Rep.TheVariants.{Xcdr1, Xcdr2}
use Rattle.xt_shapes.specs.Shape.{Shape, prim, str, enumeration, bitmask, sequence, array, map_of, structure, union}
use Rattle.xt_shapes.specs.Vals.{Val}
use Rattle.xcdr_model.specs.declared.verdict.Policy.{Policy}
use Rattle.xcdr_model.specs.Assignable.{Fits}
use Rattle.xcdr_model.specs.SampleSpelling.{spells, order_bit, IsSample}
use Rattle.xcdr_model.specs.Samples.{Outcome, row_of, order_of, top_ext, projection, body_outcome, past_head, body_of, read_sample}

ext_fits : (q : Policy) (r : Rep) (t t2 : Shape) → Fits q r t t2 → top_ext t ≡ top_ext t2
ext_fits q r (prim p) t2 f = sym (ap top_ext f)
ext_fits q r (str a) t2 f = sym (ap top_ext f.1)
ext_fits q r (enumeration e bits ls) t2 f = sym (ap top_ext f.1)
ext_fits q r (bitmask bits fs) t2 f = sym (ap top_ext f.1)
ext_fits q r (sequence a tc t) t2 f = sym (ap top_ext f.3)
ext_fits q r (array dims tc t) t2 f = sym (ap top_ext f.2)
ext_fits q r (map_of a kc k vc t) t2 f = sym (ap top_ext f.5)
ext_fits q r (structure Final ms) t2 f = sym (ap top_ext f.1)
ext_fits q r (structure Appendable ms) t2 f = sym (ap top_ext f.1)
ext_fits q r (structure Mutable ms) t2 f = sym (ap top_ext f.1)
ext_fits q r (union e key disc cs) t2 f = sym (ap top_ext f.3)

pub same_ext_of : (q : Policy) (r : Rep) (t t2 : Shape) → (t ≡ t2) ⊎ Fits q r t t2 → top_ext t ≡ top_ext t2
same_ext_of q r t t2 f = elim f [ inl e ↦ ap top_ext e | inr g ↦ ext_fits q r t t2 g ]

abbrev id_of : Rep → Ext → Order → ℕ
id_of r e o = 256 * 0 + (2 * row_of r e + order_bit o)

row_again : (r : Rep) (e : Ext) (o : Order) → (id_of r e o / 2 == row_of r e) ≡ true
row_again Xcdr1 Final Big = refl
row_again Xcdr1 Final Little = refl
row_again Xcdr1 Appendable Big = refl
row_again Xcdr1 Appendable Little = refl
row_again Xcdr1 Mutable Big = refl
row_again Xcdr1 Mutable Little = refl
row_again Xcdr2 Final Big = refl
row_again Xcdr2 Final Little = refl
row_again Xcdr2 Appendable Big = refl
row_again Xcdr2 Appendable Little = refl
row_again Xcdr2 Mutable Big = refl
row_again Xcdr2 Mutable Little = refl

order_again : (r : Rep) (e : Ext) (o : Order) → order_of (id_of r e o % 2) ≡ o
order_again Xcdr1 Final Big = refl
order_again Xcdr1 Final Little = refl
order_again Xcdr1 Appendable Big = refl
order_again Xcdr1 Appendable Little = refl
order_again Xcdr1 Mutable Big = refl
order_again Xcdr1 Mutable Little = refl
order_again Xcdr2 Final Big = refl
order_again Xcdr2 Final Little = refl
order_again Xcdr2 Appendable Big = refl
order_again Xcdr2 Appendable Little = refl
order_again Xcdr2 Mutable Big = refl
order_again Xcdr2 Mutable Little = refl

body_again : (r : Rep) (t : Shape) (o : Order) (body pad : List ℕ) (x : Outcome) → body_outcome r o t body ≡ Ok x → body_of r t (id_of r (top_ext t) o) (length pad) (body ++ pad) ≡ Ok x
body_again r t o body pad x e =
    let len = length-append body pad in
    let long : ltb (length (body ++ pad)) (length pad) ≡ false = le-ltb _ _ (omega (arith, len)) in
    let back : length (body ++ pad) - length pad ≡ length body = omega (arith, len) in
    rw (row_again r (top_ext t) o, order_again r (top_ext t) o, long, back, take_at body pad (length body) refl) (ap past_head e)

pub sample_again : (r : Rep) (t t2 : Shape) (v : Val) (s : List ℕ) → IsSample r t2 v s → top_ext t ≡ top_ext t2 → ((o : Order) (b : List ℕ) → spells r o t2 v 0 b → body_outcome r o t b ≡ Ok (projection t t2 v)) → read_sample r t s ≡ Ok (projection t t2 v)
unfolding read_sample
sample_again r t t2 v s k e f =
    let x = body_again r t k.order k.body k.pad (projection t t2 v) (f k.order k.body k.spelled) in
    ap (read_sample r t) k.parts
    ∙ ap₂ (λ (z : Ext) (n : ℕ). body_of r t (id_of r z k.order) n (k.body ++ k.pad)) (sym e) k.counts ∙ x
