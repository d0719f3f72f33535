-- What packed values stand for (this profile's own form of the values of DDS-XTypes 1.3, 7.2.2).
use Rattle.std.specs.Prelude.{ℕ, zero, suc, pos, List, [], ◌∷◌, take, drop}
use Rattle.xt_shapes.specs.declared.leaves.Order.{Order}
use Rattle.xt_shapes.specs.declared.leaves.Order.TheVariants.{Little}
use Rattle.xt_shapes.specs.declared.leaves.Primitive.{Primitive}
use Rattle.xt_shapes.specs.Sizes.{size, is_signed}
use Rattle.xt_shapes.specs.Vals.{Val, Slot, int, text, listed, struct_of, union_of, vals_of, slots_of, absent, present}
use Rattle.xcdr_model.specs.Numbers.{number, with_sign}
use Rattle.packed_reader.specs.declared.values.Numbers.{Numbers}
use Rattle.packed_reader.specs.declared.values.OwnNumbers.{OwnNumbers}
use Rattle.packed_reader.specs.declared.values.Packed.{Packed, fold-Packed}
use Rattle.packed_reader.specs.declared.values.Packed.TheOpen.{Packed-F, PackedSlot-F, PackedUnion-F}
use Rattle.packed_reader.specs.declared.values.PackedSlot.{PackedSlot, fold-PackedSlot}
use Rattle.packed_reader.specs.declared.values.PackedUnion.{PackedUnion, fold-PackedUnion}

-- the number of a primitive that these octets are
abbrev pub number_of : Primitive → Order → List ℕ → Val
number_of p o ys = int (with_sign (size p) (is_signed p) (number o ys))

-- n numbers of a primitive, one after another
abbrev pub numbers_in : Primitive → Order → ℕ → List ℕ → List Val
numbers_in p o zero ys = []
numbers_in p o (suc n) ys = number_of p o (take (size p) ys) ∷ numbers_in p o n (drop (size p) ys)

abbrev pub numbers_of : Numbers → List Val
numbers_of x = numbers_in x.prim x.order x.count x.octets.now

abbrev pub own_numbers : OwnNumbers → List Val
own_numbers x = numbers_in x.prim Little x.count x.octets

-- One level of a packed value.
module _ (F : Type 0 → Type 0 → Type 0 → Type 0) where
  abbrev pub PackedLevel : Type 0
  PackedLevel = F Val Slot Val

abbrev pub slot_level : PackedLevel PackedSlot-F → Slot
slot_level PackedSlot-F.Absent = absent
slot_level (PackedSlot-F.Present v) = present v

abbrev pub packed_level : PackedLevel Packed-F → Val
packed_level (Packed-F.Natural n) = int (pos n)
packed_level (Packed-F.Whole i) = int i
packed_level (Packed-F.Text t) = text t.now
packed_level (Packed-F.Numbers x) = listed (vals_of (numbers_of x))
packed_level (Packed-F.Own x) = listed (vals_of (own_numbers x))
packed_level (Packed-F.List vs) = listed (vals_of vs)
packed_level (Packed-F.Struct ss) = struct_of (slots_of ss)
packed_level (Packed-F.Union u) = u.value

abbrev pub union_level : PackedLevel PackedUnion-F → Val
union_level u = union_of u.disc u.body

-- the value
abbrev pub packed_val : Packed → Val
packed_val = fold-Packed _ _ _ packed_level slot_level union_level

-- the value of a union
abbrev pub packed_union : PackedUnion → Val
packed_union = fold-PackedUnion _ _ _ packed_level slot_level union_level

-- what a slot holds
abbrev pub packed_slot : PackedSlot → Slot
packed_slot = fold-PackedSlot _ _ _ packed_level slot_level union_level
