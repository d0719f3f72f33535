-- The parts of a key, one after another.
use Rattle.std.proofs.Common.{◌≡◌, ◌∙◌, ℕ, suc, Bool, true, false, List, [], ◌∷◌, Some, None, refl, sym, ap, ap₂, append-nil, ◌<◌, length, get_or, drop}
use Rattle.type_trees.specs.Bridge.{type_shape, members_shape, member_head}
use Rattle.type_trees.specs.View.{slots_val}
use Rattle.type_trees.specs.declared.types.Member as declared
use Rattle.type_trees.specs.declared.values.Slot as values
use Rattle.xt_shapes.specs.declared.leaves.Ext.{Ext}
use Rattle.xt_shapes.specs.declared.leaves.Order.{Order}
use Rattle.xt_shapes.specs.Keyable.{counted_keyable}
use Rattle.xt_shapes.specs.Kinds.{as_structure, as_union}
use Rattle.xt_shapes.specs.Shape.{Head, Shape, prim, str, enumeration, bitmask, sequence, array, map_of, structure, union, Members, Cases}
use Rattle.xt_shapes.specs.Typing.{of_slot, has_type, have_types}
use Rattle.xt_shapes.specs.Vals.{Val, int, text, listed, mapped, struct_of, union_of, Slots, Slot, present, slots_in, disc_in, first}
use Rattle.xcdr_model.specs.FixedSpelling.{nothing, then_fixed, if_present_fixed, fixed, members_fixed}
use Rattle.xcdr_model.specs.KeyOctets.{key_type, key_types}
use Rattle.xcdr_model.specs.Keys.{key_part, key_parts}
use Rattle.xcdr_model.specs.Premises.{distinct_members}
use Rattle.key_instances.specs.declared.octets.order.Counted.{Counted}
use Rattle.key_instances.specs.octets.Chains.{chained, part_fixed, counted_fixed, top_fixed, is_filled}
use Rattle.key_instances.specs.octets.Orders.{IsLeast, IsNext, member_in}
use Rattle.key_instances.proofs.OfOctets.From.{from}
use Rattle.key_instances.proofs.OfOctets.Members.{member_is, slot_in, slot_is, present_there, next_type, next_value, no_more_types, no_more_values}

pub chained_next : (o : Order) (id j : ℕ) (t : Shape) (w : Val) (xs : List (ℕ × Shape)) (ys : List (ℕ × Val)) → chained o ((id, t) ∷ xs) ((j, w) ∷ ys) ≡ then_fixed (fixed o t w) (chained o xs ys)
unfolding fixed members_fixed
chained_next o id j t w xs ys = refl

pub chained_none : (o : Order) → chained o [] [] ≡ nothing
unfolding fixed members_fixed
chained_none o = refl

-- a structure's value has a slot for each member
pub typed_filled : (t : Shape) (v : Val) → has_type t v ≡ true → is_filled t v ≡ true
unfolding has_type
typed_filled (structure e ms) (struct_of ss) h = h
typed_filled (structure e ms) (int i) h = absurd cc
typed_filled (structure e ms) (text s) h = absurd cc
typed_filled (structure e ms) (listed vs) h = absurd cc
typed_filled (structure e ms) (mapped ps) h = absurd cc
typed_filled (structure e ms) (union_of d s) h = absurd cc
typed_filled (prim p) v h = refl
typed_filled (str bound) v h = refl
typed_filled (enumeration e bits ls) v h = refl
typed_filled (bitmask bits fs) v h = refl
typed_filled (sequence bound tc t) v h = refl
typed_filled (array dims tc t) v h = refl
typed_filled (map_of bound kc k vc t) v h = refl
typed_filled (union e k d cs) v h = refl

pub slots_typed : (t : Shape) (x : Ext × Members) (v : Val) → Some x ≡ as_structure t → has_type t v ≡ true → have_types x.1 (slots_in v) ≡ true
slots_typed (structure e ms) x v is h = let same : x ≡ (e, ms) = cc in ap (λ (y : Ext × Members). have_types y.1 (slots_in v)) same ∙ typed_filled (structure e ms) v h
slots_typed (prim p) x v is h = absurd cc
slots_typed (str bound) x v is h = absurd cc
slots_typed (enumeration e bits ls) x v is h = absurd cc
slots_typed (bitmask bits fs) x v is h = absurd cc
slots_typed (sequence bound tc t) x v is h = absurd cc
slots_typed (array dims tc t) x v is h = absurd cc
slots_typed (map_of bound kc k vc t) x v is h = absurd cc
slots_typed (union e k d cs) x v is h = absurd cc

-- a union whose discriminator is a key
pub disc_top : (t : Shape) (x : Ext × Bool × Shape × Cases) (o : Order) (v : Val) (p : ℕ) → Some x ≡ as_union t → x.1 ≡ true → top_fixed o t v p ≡ fixed o x.2 (int (disc_in v)) p
unfolding fixed members_fixed then_fixed
disc_top (union e true d cs) x o v p is keyed = let same : x ≡ (e, true, d, cs) = cc in append-nil (fixed o d (int (disc_in v)) p) ∙ ap (λ (y : Ext × Bool × Shape × Cases). fixed o y.2 (int (disc_in v)) p) (sym same)
disc_top (union e false d cs) x o v p is keyed = let same : x ≡ (e, false, d, cs) = cc in let no : x.1 ≡ false = ap (λ (y : Ext × Bool × Shape × Cases). y.1) same in absurd cc
disc_top (prim k) x o v p is keyed = absurd cc
disc_top (str bound) x o v p is keyed = absurd cc
disc_top (enumeration e bits ls) x o v p is keyed = absurd cc
disc_top (bitmask bits fs) x o v p is keyed = absurd cc
disc_top (sequence bound tc t) x o v p is keyed = absurd cc
disc_top (array dims tc t) x o v p is keyed = absurd cc
disc_top (map_of bound kc k vc t) x o v p is keyed = absurd cc
disc_top (structure e ms) x o v p is keyed = absurd cc

pub unkeyed_top : (t : Shape) (x : Ext × Bool × Shape × Cases) (o : Order) (v : Val) → Some x ≡ as_union t → x.1 ≡ false → top_fixed o t v ≡ nothing
unfolding fixed members_fixed
unkeyed_top (union e false d cs) x o v is keyed = refl
unkeyed_top (union e true d cs) x o v is keyed = let same : x ≡ (e, true, d, cs) = cc in let yes : x.1 ≡ true = ap (λ (y : Ext × Bool × Shape × Cases). y.1) same in absurd cc
unkeyed_top (prim k) x o v is keyed = absurd cc
unkeyed_top (str bound) x o v is keyed = absurd cc
unkeyed_top (enumeration e bits ls) x o v is keyed = absurd cc
unkeyed_top (bitmask bits fs) x o v is keyed = absurd cc
unkeyed_top (sequence bound tc t) x o v is keyed = absurd cc
unkeyed_top (array dims tc t) x o v is keyed = absurd cc
unkeyed_top (map_of bound kc k vc t) x o v is keyed = absurd cc
unkeyed_top (structure e ms) x o v is keyed = absurd cc

pub other_top : (t : Shape) (o : Order) (v : Val) → None ≡ as_structure t → None ≡ as_union t → top_fixed o t v ≡ nothing
unfolding fixed members_fixed
other_top (structure e ms) o v s u = absurd cc
other_top (union e k d cs) o v s u = absurd cc
other_top (prim p) o v s u = refl
other_top (str bound) o v s u = refl
other_top (enumeration e bits ls) o v s u = refl
other_top (bitmask bits fs) o v s u = refl
other_top (sequence bound tc t) o v s u = refl
other_top (array dims tc t) o v s u = refl
other_top (map_of bound kc k vc t) o v s u = refl

pub structure_top : (t : Shape) (x : Ext × Members) (o : Order) (v : Val) → Some x ≡ as_structure t → top_fixed o t v ≡ counted_fixed o true x.1 (slots_in v)
structure_top (structure e ms) x o v is = let same : x ≡ (e, ms) = cc in ap (λ (y : Ext × Members). counted_fixed o true y.1 (slots_in v)) (sym same)
structure_top (prim p) x o v is = absurd cc
structure_top (str bound) x o v is = absurd cc
structure_top (enumeration e bits ls) x o v is = absurd cc
structure_top (bitmask bits fs) x o v is = absurd cc
structure_top (sequence bound tc t) x o v is = absurd cc
structure_top (array dims tc t) x o v is = absurd cc
structure_top (map_of bound kc k vc t) x o v is = absurd cc
structure_top (union e k d cs) x o v is = absurd cc

-- ---- the next of the parts that are left

pub record Turn (keyed : Bool) (ms : Members) (ss : Slots) (n : ℕ) (c : Counted) (t : Shape) (s : Slot) : Type 0 where
  pub filled : of_slot true (λ w. is_filled t w) s ≡ true
  pub left : (o : Order) → chained o (from n (key_types keyed ms)) (from n (key_parts keyed ms ss))
      ≡ then_fixed (if_present_fixed s (λ w. part_fixed o t w)) (chained o (from (suc c.id) (key_types keyed ms)) (from (suc c.id) (key_parts keyed ms ss)))

pub turned : (keyed : Bool) (ms : Members) (ss : Slots) (n : ℕ) (c : Counted) (h : Head) (t : Shape) (s : Slot) → IsLeast keyed ms n c → member_in ms c.at ≡ Some (h, t) → s ≡ slot_in ss c.at → distinct_members ms ≡ true → counted_keyable keyed ms ≡ true → have_types ms ss ≡ true
    → Turn keyed ms ss n c t s
turned keyed ms ss n c h t s l e same d k y =
    let (w, there, typed) = present_there keyed ms ss n c h t l e k y in
    let is : s ≡ present w = same ∙ there in
    record {
      filled = ap (of_slot true (λ v. is_filled t v)) is ∙ typed_filled t w typed;
      left = λ o. ap₂ (chained o) (next_type keyed ms n c t h l e d) (next_value keyed ms ss n c t h w l e there d)
          ∙ chained_next o c.id c.id (key_type t) (key_part t w) (from (suc c.id) (key_types keyed ms)) (from (suc c.id) (key_parts keyed ms ss))
          ∙ ap (λ (x : Slot). then_fixed (if_present_fixed x (λ v. part_fixed o t v)) (chained o (from (suc c.id) (key_types keyed ms)) (from (suc c.id) (key_parts keyed ms ss)))) (sym is);
    }

pub turned_here : (keyed : Bool) (members : List declared.Member) (slots : List values.Slot) (n : ℕ) (c : Counted) (m : declared.Member) (s : Slot) → IsLeast keyed (members_shape members) n c → c.at < length members → m ≡ get_or members c.at m → s ≡ first (slots_val (drop c.at slots))
    → distinct_members (members_shape members) ≡ true → counted_keyable keyed (members_shape members) ≡ true → have_types (members_shape members) (slots_val slots) ≡ true → Turn keyed (members_shape members) (slots_val slots) n c (type_shape m.ty) s
turned_here keyed members slots n c m s l within same slot d k y = turned keyed (members_shape members) (slots_val slots) n c (member_head m) (type_shape m.ty) s l (member_is members c.at m within same) (slot ∙ slot_is slots c.at) d k y

-- none is left
pub all_chained : (o : Order) (keyed : Bool) (ms : Members) (ss : Slots) (n : ℕ) → IsNext keyed ms n None → distinct_members ms ≡ true → chained o (from n (key_types keyed ms)) (from n (key_parts keyed ms ss)) ≡ nothing
all_chained o keyed ms ss n none d = ap₂ (chained o) (no_more_types keyed ms n none d) (no_more_values keyed ms ss n none d) ∙ chained_none o
