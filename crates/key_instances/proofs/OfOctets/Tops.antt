-- What a valid top type's parts keep, and whether its keys are short.
use Rattle.std.proofs.Common.{◌≡◌, Bool, true, ◌&&◌, Some, refl}
use Rattle.std.proofs.lemmas.Bool.{and_parts}
use Rattle.xt_shapes.specs.declared.leaves.Ext.{Ext}
use Rattle.xt_shapes.specs.Keyable.{is_leaf, counted_keyable}
use Rattle.xt_shapes.specs.Kinds.{as_structure, as_union, is_number}
use Rattle.xt_shapes.specs.NodeRules.{keys_discard}
use Rattle.xt_shapes.specs.Shape.{Shape, prim, str, enumeration, bitmask, sequence, array, map_of, structure, union, Members, Cases, heads}
use Rattle.xcdr_model.specs.Premises.{sound, sound_members, some_member, distinct_members, storable, cases_storable, cases_apart, light, defaults_typed, keys_sound, premises_hold}

-- ---- what is kept

pub record Kept (ms : Members) : Type 0 where
  pub distinct : distinct_members ms ≡ true
  pub sound : sound_members ms ≡ true
  pub keyable : counted_keyable true ms ≡ true

structure_kept : (e : Ext) (ms : Members) → premises_hold (structure e ms) ≡ true → Kept ms
structure_kept e ms h =
    let p = and_parts (sound (structure e ms)) _ h in
    let q = and_parts (some_member ms) (distinct_members ms && sound_members ms) p.0 in
    let r = and_parts (distinct_members ms) (sound_members ms) q.1 in
    let keys = (and_parts (defaults_typed (structure e ms)) (keys_sound (structure e ms)) (and_parts (light (structure e ms)) _ (and_parts (cases_apart (structure e ms)) _ (and_parts (storable (structure e ms)) _ p.1).1).1).1).1 in
    record { distinct = r.0; sound = r.1; keyable = (and_parts (counted_keyable true ms) (keys_discard (heads ms)) keys).0 }

pub members_kept : (t : Shape) (x : Ext × Members) → Some x ≡ as_structure t → premises_hold t ≡ true → Kept x.1
members_kept (structure e ms) x is h = let same : x ≡ (e, ms) = cc in rw same (structure_kept e ms h)
members_kept (prim p) x is h = absurd cc
members_kept (str bound) x is h = absurd cc
members_kept (enumeration e bits ls) x is h = absurd cc
members_kept (bitmask bits fs) x is h = absurd cc
members_kept (sequence bound tc t) x is h = absurd cc
members_kept (array dims tc t) x is h = absurd cc
members_kept (map_of bound kc k vc t) x is h = absurd cc
members_kept (union e k d cs) x is h = absurd cc

number_leaf : (t : Shape) → is_number t ≡ true → is_leaf t ≡ true
number_leaf (prim p) e = refl
number_leaf (enumeration k bits ls) e = refl
number_leaf (bitmask bits fs) e = refl
number_leaf (str bound) e = refl
number_leaf (sequence bound tc t) e = absurd cc
number_leaf (array dims tc t) e = absurd cc
number_leaf (map_of bound kc k vc t) e = absurd cc
number_leaf (structure k ms) e = absurd cc
number_leaf (union k y d cs) e = absurd cc

union_leaf : (e : Ext) (k : Bool) (d : Shape) (cs : Cases) → premises_hold (union e k d cs) ≡ true → is_leaf d ≡ true
union_leaf e k d cs h =
    let p = (and_parts (sound (union e k d cs)) _ h).1 in
    let q = (and_parts (storable (union e k d cs)) _ p).0 in
    let r = (and_parts (is_number d && storable d) (cases_storable cs) q).0 in
    number_leaf d (and_parts (is_number d) (storable d) r).0

pub disc_leaf : (t : Shape) (x : Ext × Bool × Shape × Cases) → Some x ≡ as_union t → premises_hold t ≡ true → is_leaf x.2 ≡ true
disc_leaf (union e k d cs) x is h = let same : x ≡ (e, k, d, cs) = cc in rw same (union_leaf e k d cs h)
disc_leaf (prim p) x is h = absurd cc
disc_leaf (str bound) x is h = absurd cc
disc_leaf (enumeration e bits ls) x is h = absurd cc
disc_leaf (bitmask bits fs) x is h = absurd cc
disc_leaf (sequence bound tc t) x is h = absurd cc
disc_leaf (array dims tc t) x is h = absurd cc
disc_leaf (map_of bound kc k vc t) x is h = absurd cc
disc_leaf (structure e ms) x is h = absurd cc
