-- Key octets tell keys apart, and come through a projection.
use Rattle.std.proofs.Common.{◌≡◌, ◌<◌, ◌^◌, Bool, true, false, not, ◌&&◌, List, [], ◌∷◌, length, map, Result, Ok, refl, sym, ap, ap₂, ◌∙◌, inl, inr}
use Rattle.std.proofs.lemmas.Bool.{cases_Bool, and_parts, and_from}
use Rattle.xt_shapes.specs.declared.leaves.Ext.{Ext}
use Rattle.xt_shapes.specs.declared.leaves.Ext.TheVariants.{Final, Appendable, Mutable}
use Rattle.xt_shapes.specs.declared.leaves.Order.TheVariants.{Big}
use Rattle.xt_shapes.specs.declared.leaves.Rep.{Rep}
use Rattle.xt_shapes.specs.declared.leaves.Rep.TheVariants.{Xcdr2}
use Rattle.xt_shapes.specs.Keyable.{counted_keyable}
use Rattle.xt_shapes.specs.Kinds.{is_number}
use Rattle.xt_shapes.specs.NodeRules.{keys_discard}
use Rattle.xt_shapes.specs.Select.{select}
use Rattle.xt_shapes.specs.Shape.{Shape, prim, str, enumeration, bitmask, sequence, array, map_of, structure, union, Members, no_members, member, Cases, heads}
use Rattle.xt_shapes.specs.Typing.{of_body, has_type, have_types, case_type}
use Rattle.xt_shapes.specs.Vals.{Val, int, struct_of, Slots, no_slots, one_slot, absent, present, slots_in, disc_in, first}
use Rattle.xcdr_model.specs.declared.malformed.Fault.{Fault}
use Rattle.xcdr_model.specs.declared.verdict.Policy.{Policy}
use Rattle.xcdr_model.specs.Assignable.{Fits, Strong, key_members_fit, keys_match}
use Rattle.xcdr_model.specs.FixedSpelling.{Fixed, nothing, then_fixed, slot_fixed, fixed, members_fixed}
use Rattle.xcdr_model.specs.KeyOctets.{plain_head, members_from, key_types, key_shape, key_octets, hash_of}
use Rattle.xcdr_model.specs.Keys.{all_present, key_parts, key, same_counted}
use Rattle.xcdr_model.specs.Premises.{keys_sound, sound, sound_members, sound_cases, some_member, distinct_members, storable, cases_storable}
use Rattle.xcdr_model.specs.Projection.{Part, got, is_mutable}
use Rattle.xcdr_model.specs.Samples.{body_read}
use Rattle.shape_laws.proofs.AnyOrder.{all_same}
use Rattle.shape_laws.proofs.Crossing.{tripping, crossing_key}
use Rattle.shape_laws.proofs.KeyKept.{over_there, over_here}
use Rattle.shape_laws.proofs.KeySame.{same_members, same_types, walk_types}
use Rattle.shape_laws.proofs.KeySort.{Entries}
use Rattle.shape_laws.proofs.KeyTop.{to_keys_fit}
use Rattle.shape_laws.proofs.KeyTypes.{valid_members, good_types, rising_types, Aligned, aligned_types, aligned_parts}
use Rattle.shape_laws.proofs.Rules.{left, right, beq_same}
use Rattle.shape_laws.proofs.Self.{struct_is, union_is}
use Rattle.shape_laws.proofs.Statements.{KeyOctets, KeysCross}

-- ---- equal octets

abbrev present_in : Slots → List Val
present_in no_slots = []
present_in (one_slot absent ss) = present_in ss
present_in (one_slot (present w) ss) = w ∷ present_in ss

present_back : (xs : List Val) → present_in (all_present xs) ≡ xs
present_back [] = refl
present_back (x ∷ xs) = ap (λ (ys : List Val). x ∷ ys) (present_back xs)

abbrev keys_in : List Val → Result Part Fault → List Val
keys_in d (Ok (got v, u)) = present_in (slots_in v)
keys_in d _ = d

tell : (K : Shape) (ks js : List Val) → (sound K && storable K) ≡ true → has_type K (struct_of (all_present ks)) ≡ true → has_type K (struct_of (all_present js)) ≡ true → length (fixed Big K (struct_of (all_present ks)) 0) < 2 ^ 32 → length (fixed Big K (struct_of (all_present js)) 0) < 2 ^ 32
    → fixed Big K (struct_of (all_present ks)) 0 ≡ fixed Big K (struct_of (all_present js)) 0 → ks ≡ js
tell K ks js k h i l m e =
    let p = and_parts (sound K) (storable K) k in
    let a = tripping Xcdr2 Big K (struct_of (all_present ks)) p.0 p.1 h l in
    let b = tripping Xcdr2 Big K (struct_of (all_present js)) p.0 p.1 i m in
    let same = sym a ∙ ap (body_read Xcdr2 Big K) e ∙ b in
    sym (present_back ks) ∙ ap (keys_in []) same ∙ present_back js

typed_key : (e : Ext) (ms : Members) (v : Val) → counted_keyable true ms ≡ true → has_type (structure e ms) v ≡ true → Aligned (key_types true ms) (key_parts true ms (slots_in v))
unfolding has_type
typed_key e ms v k h = let x = struct_is v (λ ss. have_types ms ss) h in aligned_parts true ms k (slots_in v) (ap (λ (z : Val). have_types ms (slots_in z)) x.1 ∙ x.2)

typed_members : (xs : Entries Shape) (ys : Entries Val) → Aligned xs ys → has_type (structure Final (members_from xs)) (struct_of (all_present (map (λ y. y.1) ys))) ≡ true
unfolding has_type
typed_members xs ys a = aligned_types xs ys a

no_keys : (xs : Entries Shape) (ys : Entries Val) → some_member (members_from xs) ≡ false → Aligned xs ys → ys ≡ []
no_keys [] [] e a = refl
no_keys [] (y ∷ ys) e a = absurd a
no_keys (x ∷ xs) ys e a = absurd cc

typed_disc : (e : Ext) (d : Shape) (cs : Cases) (v : Val) → has_type (union e true d cs) v ≡ true → has_type (structure Final (member (plain_head 0) d no_members)) (struct_of (all_present (int (disc_in v) ∷ []))) ≡ true
unfolding has_type have_types
typed_disc e d cs v h =
    let x = union_is v (λ i b. has_type d (int i) && of_body (select cs i) (λ j w. case_type cs j w) b) h in
    and_from (has_type d (int (disc_in v))) true (ap (λ (z : Val). has_type d (int (disc_in z))) x.2 ∙ left (has_type d (int x.0)) (of_body (select cs x.0) (λ j w. case_type cs j w) x.1) x.3) refl

valid_disc : (d : Shape) → sound d ≡ true → storable d ≡ true → (sound (structure Final (member (plain_head 0) d no_members)) && storable (structure Final (member (plain_head 0) d no_members))) ≡ true
valid_disc d s k = and_from (sound (structure Final (member (plain_head 0) d no_members))) (storable d && true) (and_from (sound d) true s refl) (and_from (storable d) true k refl)

to_keys : (t : Shape) (v w : Val) → sound t ≡ true → storable t ≡ true → keys_sound t ≡ true → has_type t v ≡ true → has_type t w ≡ true → length (key_octets t v) < 2 ^ 32 → length (key_octets t w) < 2 ^ 32 → key_octets t v ≡ key_octets t w → key t v ≡ key t w
to_keys (structure e ms) v w s k u h i l m q =
    let xs = key_types true ms in
    let c = left (counted_keyable true ms) (keys_discard (heads ms)) u in
    let d = and_parts (distinct_members ms) (sound_members ms) (right (some_member ms) (distinct_members ms && sound_members ms) s) in
    let a = typed_key e ms v c h in
    let b = typed_key e ms w c i in
    elim (cases_Bool (some_member (members_from xs))) [
      | inl y ↦ tell (structure Final (members_from xs)) (key (structure e ms) v) (key (structure e ms) w) (valid_members xs y (rising_types true ms d.0) (good_types true ms d.1 k c)) (typed_members xs (key_parts true ms (slots_in v)) a) (typed_members xs (key_parts true ms (slots_in w)) b) l m q
      | inr n ↦ ap (λ (z : Entries Val). map (λ y. y.1) z) (no_keys xs (key_parts true ms (slots_in v)) n a ∙ sym (no_keys xs (key_parts true ms (slots_in w)) n b))
    ]
to_keys (union e true d cs) v w s k u h i l m q =
    let sd = left (sound d) (sound_cases cs) (right (not (is_mutable e)) (sound d && sound_cases cs) s) in
    let kd = right (is_number d) (storable d) (left (is_number d && storable d) (cases_storable cs) k) in
    tell (structure Final (member (plain_head 0) d no_members)) (key (union e true d cs) v) (key (union e true d cs) w) (valid_disc d sd kd) (typed_disc e d cs v h) (typed_disc e d cs w i) l m q
to_keys (union e false d cs) v w s k u h i l m q = refl
to_keys (prim p) v w s k u h i l m q = refl
to_keys (str a) v w s k u h i l m q = refl
to_keys (enumeration e bits ls) v w s k u h i l m q = refl
to_keys (bitmask bits fs) v w s k u h i l m q = refl
to_keys (sequence a tc t) v w s k u h i l m q = refl
to_keys (array ds tc t) v w s k u h i l m q = refl
to_keys (map_of a kc j vc t) v w s k u h i l m q = refl

pub telling : KeyOctets
telling t v w s k u h i l m = ((λ e. to_keys t v w s k u h i l m e), (λ e. ap (λ (z : List Val). fixed Big (key_shape t) (struct_of (all_present z)) 0) e))

-- ---- through a projection

abbrev Same : Shape → Shape → Type 0
Same t u = (v : Val) → fixed Big (key_shape t) v ≡ fixed Big (key_shape u) v

structures : (e e2 : Ext) (ms ns : Members) → sound (structure e ms) ≡ true → sound (structure e2 ns) ≡ true → keys_sound (structure e ms) ≡ true → keys_sound (structure e2 ns) ≡ true → keys_match (structure e ms) (structure e2 ns) ≡ true → Same (structure e ms) (structure e2 ns)
structures e e2 ms ns s s2 k k2 m v =
    let a = and_parts (distinct_members ms) (sound_members ms) (right (some_member ms) (distinct_members ms && sound_members ms) s) in
    let b = and_parts (distinct_members ns) (sound_members ns) (right (some_member ns) (distinct_members ns && sound_members ns) s2) in
    let p = and_parts (same_counted true ms true ns) (key_members_fit ms ns) m in
    let fit = to_keys_fit ms ns p.1 (right (counted_keyable true ms) (keys_discard (heads ms)) k) in
    same_members Big (key_types true ms) (key_types true ns) (same_types Big true true ms ns a.0 b.0 p.0 (λ id c. over_here true true ms ns id p.0 c)
    (λ id c. walk_types Big true true ms ns a.1 b.0 b.1 (left (counted_keyable true ns) (keys_discard (heads ns)) k2) fit (λ i d. over_there true true ms ns i p.0 d) id c)) v

-- a discriminator's holder
same_holder : (q : Policy) (r : Rep) (d d2 : Shape) → is_number d ≡ true → Fits q r d d2 → (v : Val) → fixed Big d v ≡ fixed Big d2 v
unfolding fixed
same_holder q r (prim p) d2 n f v = ap (λ (z : Shape). fixed Big z v) (sym f)
same_holder q r (enumeration e bits ls) d2 n f v = ap (λ (z : Shape). fixed Big z v) (sym f.1)
same_holder q r (bitmask bits fs) d2 n f v = ap (λ (z : Shape). fixed Big z v) (sym f.1)
same_holder q r _ d2 n f v = absurd cc

one_member : (d d2 : Shape) → ((w : Val) → fixed Big d w ≡ fixed Big d2 w) → (v : Val) → fixed Big (structure Final (member (plain_head 0) d no_members)) v ≡ fixed Big (structure Final (member (plain_head 0) d2 no_members)) v
unfolding fixed members_fixed
one_member d d2 f v = ap (λ (g : Val → Fixed). then_fixed (slot_fixed false Big (λ w. g w) (first (slots_in v))) nothing) (all_same (fixed Big d) (fixed Big d2) f)

unions : (q : Policy) (r : Rep) (e : Ext) (k k2 : Bool) (d d2 : Shape) (cs ds : Cases) → k ≡ k2 → is_number d ≡ true → Strong r (λ x. Fits q r d x) d d2 → Same (union e k d cs) (union e k2 d2 ds)
unions q r e true true d d2 cs ds m n f v = one_member d d2 (λ w. elim f [ inl z ↦ ap (λ (y : Shape). fixed Big y w) z | inr g ↦ same_holder q r d d2 n g.1 w ]) v
unions q r e true false d d2 cs ds m n f v = absurd cc
unions q r e false true d d2 cs ds m n f v = absurd cc
unions q r e false false d d2 cs ds m n f v = refl

same_keys : (q : Policy) (r : Rep) (t u : Shape) → sound t ≡ true → sound u ≡ true → storable t ≡ true → keys_sound t ≡ true → keys_sound u ≡ true → keys_match t u ≡ true → Fits q r t u → Same t u
same_keys q r (prim p) u s s2 st k k2 m f v = ap (λ (z : Shape). fixed Big (key_shape z) v) (sym f)
same_keys q r (str a) u s s2 st k k2 m f v = ap (λ (z : Shape). fixed Big (key_shape z) v) (sym f.1)
same_keys q r (enumeration e bits ls) u s s2 st k k2 m f v = ap (λ (z : Shape). fixed Big (key_shape z) v) (sym f.1)
same_keys q r (bitmask bits fs) u s s2 st k k2 m f v = ap (λ (z : Shape). fixed Big (key_shape z) v) (sym f.1)
same_keys q r (sequence a tc t) u s s2 st k k2 m f v = ap (λ (z : Shape). fixed Big (key_shape z) v) (sym f.3)
same_keys q r (array ds tc t) u s s2 st k k2 m f v = ap (λ (z : Shape). fixed Big (key_shape z) v) (sym f.2)
same_keys q r (map_of a kc j vc t) u s s2 st k k2 m f v = ap (λ (z : Shape). fixed Big (key_shape z) v) (sym f.5)
same_keys q r (structure Final ms) u s s2 st k k2 m f v = structures Final Final ms f.0 s (ap sound (sym f.1) ∙ s2) k (ap keys_sound (sym f.1) ∙ k2) (ap (keys_match (structure Final ms)) (sym f.1) ∙ m) v ∙ ap (λ (z : Shape). fixed Big (key_shape z) v) (sym f.1)
same_keys q r (structure Appendable ms) u s s2 st k k2 m f v = structures Appendable Appendable ms f.0 s (ap sound (sym f.1) ∙ s2) k (ap keys_sound (sym f.1) ∙ k2) (ap (keys_match (structure Appendable ms)) (sym f.1) ∙ m) v ∙ ap (λ (z : Shape). fixed Big (key_shape z) v) (sym f.1)
same_keys q r (structure Mutable ms) u s s2 st k k2 m f v = structures Mutable Mutable ms f.0 s (ap sound (sym f.1) ∙ s2) k (ap keys_sound (sym f.1) ∙ k2) (ap (keys_match (structure Mutable ms)) (sym f.1) ∙ m) v ∙ ap (λ (z : Shape). fixed Big (key_shape z) v) (sym f.1)
same_keys q r (union e y d cs) u s s2 st k k2 m f v =
    let n = left (is_number d) (storable d) (left (is_number d && storable d) (cases_storable cs) st) in
    unions q r e y f.0 d f.1 cs f.2 (beq_same y f.0 (ap (keys_match (union e y d cs)) (sym f.3) ∙ m)) n f.4 v ∙ ap (λ (z : Shape). fixed Big (key_shape z) v) (sym f.3)

pub keys_crossing : KeysCross
keys_crossing q r t t2 v w s s2 st k k2 f h e =
    let kept = crossing_key q r t t2 v w s s2 k k2 f h e in
    let same : Same t t2 = λ x. elim f [ inl z ↦ ap (λ (y : Shape). fixed Big (key_shape y) x) z | inr a ↦ same_keys q r t t2 s s2 st k k2 a.keys a.fits x ] in
    let octets : key_octets t w ≡ key_octets t2 v = ap (λ (z : List Val). fixed Big (key_shape t) (struct_of (all_present z)) 0) kept ∙ ap (λ (g : Fixed). g 0) (same (struct_of (all_present (key t2 v)))) in
    (octets, (λ z. ap₂ hash_of z octets))
