-- The parts of a structure's key, where its slots are packed.
use Rattle.std.proofs.Common.{◌≡◌, ◌∙◌, refl, sym, ap, ℕ, zero, suc, ◌<◌, Bool, true, List, [], ◌∷◌, length, map, get_or, drop}
use Rattle.type_trees.specs.Bridge.{type_shape, members_shape, member_head}
use Rattle.type_trees.specs.declared.types.Member as declared
use Rattle.xt_shapes.specs.Keyable.{counted_keyable}
use Rattle.xt_shapes.specs.Typing.{have_types}
use Rattle.xt_shapes.specs.Vals.{slots_of, slots_in, first}
use Rattle.packed_reader.specs.declared.values.Packed as p
use Rattle.packed_reader.specs.declared.values.Packed.{Packed}
use Rattle.packed_reader.specs.declared.values.PackedSlot.{PackedSlot}
use Rattle.packed_reader.specs.View.{packed_val, packed_slot}
use Rattle.packed_reader.proofs.Views.{packed_struct}
use Rattle.xcdr_model.specs.Premises.{distinct_members}
use Rattle.key_instances.specs.declared.octets.order.Counted.{Counted}
use Rattle.key_instances.specs.octets.Orders.{IsLeast}
use Rattle.key_instances.proofs.OfOctets.Chained.{Turn, turned}
use Rattle.key_instances.proofs.OfOctets.Members.{member_is, slot_in, none_in}

slot_is : (ss : List PackedSlot) (i : ℕ) → first (slots_of (map packed_slot (drop i ss))) ≡ slot_in (slots_of (map packed_slot ss)) i
slot_is ss zero = refl
slot_is [] (suc i) = sym (none_in i)
slot_is (s ∷ ss) (suc i) = slot_is ss i

pub turned_here : (keyed : Bool) (members : List declared.Member) (slots : List PackedSlot) (n : ℕ) (c : Counted) (m : declared.Member) → IsLeast keyed (members_shape members) n c → c.at < length members → m ≡ get_or members c.at m
    → distinct_members (members_shape members) ≡ true → counted_keyable keyed (members_shape members) ≡ true → have_types (members_shape members) (slots_of (map packed_slot slots)) ≡ true
    → Turn keyed (members_shape members) (slots_of (map packed_slot slots)) n c (type_shape m.ty) (first (slots_of (map packed_slot (drop c.at slots))))
turned_here keyed members slots n c m l within same d k y = turned keyed (members_shape members) (slots_of (map packed_slot slots)) n c (member_head m) (type_shape m.ty) _ l (member_is members c.at m within same) (slot_is slots c.at) d k y

-- the slots of a packed structure
pub slots_are : (v : Packed) (all ss : List PackedSlot) → v ≡ p.Struct all → ss ≡ all → slots_of (map packed_slot ss) ≡ slots_in (packed_val v)
slots_are v all ss is same = ap (λ (l : List PackedSlot). slots_of (map packed_slot l)) same ∙ ap slots_in (sym (packed_struct all)) ∙ ap (λ (w : Packed). slots_in (packed_val w)) (sym is)
