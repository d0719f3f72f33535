-- The key of a top value comes through.
use Rattle.std.proofs.Common.{◌≡◌, ℕ, ℤ, Bool, true, false, not, ◌||◌, ◌&&◌, List, [], ◌∷◌, map, Option, Some, None, refl, sym, ap, ◌∙◌}
use Rattle.std.proofs.lemmas.Bool.{and_parts, and_from}
use Rattle.std.specs.Option.{option_map}
use Rattle.xt_shapes.specs.declared.leaves.Ext.{Ext}
use Rattle.xt_shapes.specs.declared.leaves.Ext.TheVariants.{Final, Appendable, Mutable}
use Rattle.xt_shapes.specs.declared.leaves.Rep.{Rep}
use Rattle.xt_shapes.specs.Keyable.{counted, counted_keyable}
use Rattle.xt_shapes.specs.Lists.{is_some_and}
use Rattle.xt_shapes.specs.NodeRules.{is_discard, keys_discard}
use Rattle.xt_shapes.specs.Select.{select, case_at, shape_at}
use Rattle.xt_shapes.specs.Shape.{Shape, prim, str, enumeration, bitmask, sequence, array, map_of, structure, union, Members, no_members, member, Cases, heads}
use Rattle.xt_shapes.specs.Typing.{has_type, have_types}
use Rattle.xt_shapes.specs.Vals.{Val, int, struct_of, Slots, disc_in, body_in}
use Rattle.xcdr_model.specs.declared.verdict.Policy.{Policy}
use Rattle.xcdr_model.specs.Assignable.{Fits, key_members_fit, keys_match}
use Rattle.xcdr_model.specs.Keys.{is_structure, key_fit, keys_fit, key, same_counted}
use Rattle.xcdr_model.specs.Premises.{keys_sound, sound, sound_members, some_member, distinct_members}
use Rattle.xcdr_model.specs.Projection.{Built, got, over, failed, Part, Body, no_body, one_sided, settled_body, union_built, gather_slots, built_at, within, by_sides, disc_across, projected, projected_members, projected_case}
use Rattle.xcdr_model.specs.Samples.{outcome_of, sample}
use Rattle.shape_laws.proofs.KeyAt.{key_at, is_there}
use Rattle.shape_laws.proofs.KeyKept.{same_parts, over_there, built_of, each_kept}
use Rattle.shape_laws.proofs.KeyLaw.{walk}
use Rattle.shape_laws.proofs.Rules.{left, right, beq_same}
use Rattle.shape_laws.proofs.Self.{struct_is, self}

sample_got : (b : Built) (u : Bool) (w : Val) → outcome_of (b, u) ≡ sample w → b ≡ got w
sample_got b true w e = absurd cc
sample_got (got v) false w e = (let z : v ≡ w = cc in ap got z)
sample_got (over v) false w e = absurd cc
sample_got failed false w e = absurd cc

pub built_sample : (x : Part) (w : Val) → outcome_of x ≡ sample w → x.0 ≡ got w
built_sample x w e = sample_got x.0 x.1 w e

one_fit : (k d s f : Bool) → (not k || f) ≡ true → (not k || d) ≡ true → (not k || ((not s || d) && f)) ≡ true
one_fit true d true f e g = and_from d f g e
one_fit true d false f e g = e
one_fit false d s f e g = refl

pub to_keys_fit : (ms ns : Members) → key_members_fit ms ns ≡ true → keys_discard (heads ms) ≡ true → keys_fit true ms ns ≡ true
to_keys_fit no_members ns f d = refl
to_keys_fit (member h t ms) ns f d =
    let F = is_some_and (shape_at ns h.id) (λ u. key_fit t u) in
    let p = and_parts (not h.key || F) (key_members_fit ms ns) f in
    let q = and_parts (not h.key || is_discard h.tc) (keys_discard (heads ms)) d in
    and_from (not (counted true h) || ((not (is_structure t) || is_discard h.tc) && F)) (keys_fit true ms ns) (one_fit h.key (is_discard h.tc) (is_structure t) F p.0 q.0) (to_keys_fit ms ns p.1 q.1)

some_gather : (o : Option Slots) (w : Val) → within false (option_map struct_of o) ≡ got w → (ss : Slots) × (o ≡ Some ss) × (w ≡ struct_of ss)
some_gather None w e = absurd cc
some_gather (Some ss) w e = (let z : struct_of ss ≡ w = cc in (ss, refl, sym z))

structures : (e : Ext) (ms ns : Members) (v w : Val) → sound (structure e ms) ≡ true → sound (structure e ns) ≡ true → keys_sound (structure e ms) ≡ true → keys_sound (structure e ns) ≡ true → keys_match (structure e ms) (structure e ns) ≡ true
    → has_type (structure e ns) v ≡ true → (projected (structure e ms) (structure e ns) v).0 ≡ got w → key (structure e ms) w ≡ key (structure e ns) v
unfolding has_type projected
structures e ms ns v w s s2 k k2 m h g =
    let x = struct_is v (λ ss. have_types ns ss) h in
    let a = and_parts (distinct_members ms) (sound_members ms) (right (some_member ms) (distinct_members ms && sound_members ms) s) in
    let b = and_parts (distinct_members ns) (sound_members ns) (right (some_member ns) (distinct_members ns && sound_members ns) s2) in
    let p = and_parts (same_counted true ms true ns) (key_members_fit ms ns) m in
    let f = built_at (projected_members ms ns x.0) in
    let fit = to_keys_fit ms ns p.1 (right (counted_keyable true ms) (keys_discard (heads ms)) k) in
    let each = each_kept true true ms ns x.0 f a.0 a.1 b.1 fit (λ id c. is_there true ns x.0 id b.0 x.2 (left (counted_keyable true ns) (keys_discard (heads ns)) k2) (over_there true true ms ns id p.0 c)) (λ id t u w e g. built_of ms ns x.0 id t u w e g) in
    let o = some_gather (gather_slots ms f) w (sym (ap (λ (z : Val). (projected (structure e ms) (structure e ns) z).0) x.1) ∙ g) in
    ap (key (structure e ms)) o.2 ∙ ap (λ (z : List (ℕ × Val)). map (λ y. y.1) z) (same_parts true true ms ns o.0 x.0 a.0 b.0 p.0 (walk true ms o.0 f (key_at true ns x.0) o.1 each)) ∙ ap (key (structure e ns)) (sym x.1)

body_disc : (b : Built) (d : ℤ) (y : Body) (w : Val) → union_built b d y ≡ got w → disc_in w ≡ d
body_disc failed d y w e = absurd cc
body_disc (over v) d y w e = absurd cc
body_disc (got v) d no_body w e = ap (λ (z : Built). of_built z) (sym e)
  where
    of_built : Built → ℤ
    of_built (got z) = disc_in z
    of_built _ = d
body_disc (got v) d one_sided w e = absurd cc
body_disc (got v) d (settled_body None) w e = absurd cc
body_disc (got v) d (settled_body (Some u)) w e = ap (λ (z : Built). of_built z) (sym e)
  where
    of_built : Built → ℤ
    of_built (got z) = disc_in z
    of_built _ = d

union_key : (e : Ext) (k k2 : Bool) (d d2 : Shape) (cs ds : Cases) (v w : Val) → k ≡ k2 → disc_in w ≡ disc_in v → key (union e k d cs) w ≡ key (union e k2 d2 ds) v
union_key e true true d d2 cs ds v w m z = ap (λ (i : ℤ). int i ∷ []) z
union_key e true false d d2 cs ds v w m z = absurd cc
union_key e false true d d2 cs ds v w m z = absurd cc
union_key e false false d d2 cs ds v w m z = refl

unions : (e : Ext) (k k2 : Bool) (d d2 : Shape) (cs ds : Cases) (v w : Val) → keys_match (union e k d cs) (union e k2 d2 ds) ≡ true → (projected (union e k d cs) (union e k2 d2 ds) v).0 ≡ got w → key (union e k d cs) w ≡ key (union e k2 d2 ds) v
unfolding projected
unions e k k2 d d2 cs ds v w m g =
    union_key e k k2 d d2 cs ds v w (beq_same k k2 m) (body_disc (disc_across d d2 (disc_in v)) (disc_in v) (by_sides (select cs (disc_in v)) (select ds (disc_in v)) (λ i j. projected_case cs i (case_at ds j) (body_in v))).0 w g)

pub key_through : (q : Policy) (r : Rep) (t u : Shape) (v w : Val) → sound t ≡ true → sound u ≡ true → keys_sound t ≡ true → keys_sound u ≡ true → keys_match t u ≡ true → Fits q r t u → has_type u v ≡ true → (projected t u v).0 ≡ got w → key t w ≡ key u v
key_through q r (prim p) u v w s s2 k k2 m f h g = ap (λ (z : Shape). key z v) (sym f)
key_through q r (str a) u v w s s2 k k2 m f h g = ap (λ (z : Shape). key z v) (sym f.1)
key_through q r (enumeration e bits ls) u v w s s2 k k2 m f h g = ap (λ (z : Shape). key z v) (sym f.1)
key_through q r (bitmask bits fs) u v w s s2 k k2 m f h g = ap (λ (z : Shape). key z v) (sym f.1)
key_through q r (sequence a tc t) u v w s s2 k k2 m f h g = ap (λ (z : Shape). key z v) (sym f.3)
key_through q r (array ds tc t) u v w s s2 k k2 m f h g = ap (λ (z : Shape). key z v) (sym f.2)
key_through q r (map_of a kc j vc t) u v w s s2 k k2 m f h g = ap (λ (z : Shape). key z v) (sym f.5)
key_through q r (structure Final ms) u v w s s2 k k2 m f h g =
    structures Final ms f.0 v w s (ap sound (sym f.1) ∙ s2) k (ap keys_sound (sym f.1) ∙ k2) (ap (keys_match (structure Final ms)) (sym f.1) ∙ m) (ap (λ (z : Shape). has_type z v) (sym f.1) ∙ h) (ap (λ (z : Shape). (projected (structure Final ms) z v).0) (sym f.1) ∙ g) ∙ ap (λ (z : Shape). key z v) (sym f.1)
key_through q r (structure Appendable ms) u v w s s2 k k2 m f h g =
    structures Appendable ms f.0 v w s (ap sound (sym f.1) ∙ s2) k (ap keys_sound (sym f.1) ∙ k2) (ap (keys_match (structure Appendable ms)) (sym f.1) ∙ m) (ap (λ (z : Shape). has_type z v) (sym f.1) ∙ h) (ap (λ (z : Shape). (projected (structure Appendable ms) z v).0) (sym f.1) ∙ g) ∙ ap (λ (z : Shape). key z v) (sym f.1)
key_through q r (structure Mutable ms) u v w s s2 k k2 m f h g =
    structures Mutable ms f.0 v w s (ap sound (sym f.1) ∙ s2) k (ap keys_sound (sym f.1) ∙ k2) (ap (keys_match (structure Mutable ms)) (sym f.1) ∙ m) (ap (λ (z : Shape). has_type z v) (sym f.1) ∙ h) (ap (λ (z : Shape). (projected (structure Mutable ms) z v).0) (sym f.1) ∙ g) ∙ ap (λ (z : Shape). key z v) (sym f.1)
key_through q r (union e y d cs) u v w s s2 k k2 m f h g =
    unions e y f.0 d f.1 cs f.2 v w (ap (keys_match (union e y d cs)) (sym f.3) ∙ m) (ap (λ (z : Shape). (projected (union e y d cs) z v).0) (sym f.3) ∙ g) ∙ ap (λ (z : Shape). key z v) (sym f.3)

pub key_same : (t : Shape) (v w : Val) → sound t ≡ true → has_type t v ≡ true → (projected t t v).0 ≡ got w → key t w ≡ key t v
key_same t v w s h g = (let e : got v ≡ got w = sym (ap (λ (z : Part). z.0) (self t s v h)) ∙ g in let z : v ≡ w = cc in ap (key t) (sym z))
