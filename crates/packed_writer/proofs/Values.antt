-- The parts of packed values, as lists.
use Rattle.std.proofs.Common.{◌≡◌, refl, ap, ◌∙◌, ℕ, zero, suc, ◌+◌, ◌<◌, ◌≤◌, Bool, true, false, List, [], ◌∷◌, map, drop, length, get_or}
use Rattle.std.proofs.lemmas.List.{drop_more, drop_all}
use Rattle.type_trees.specs.declared.types.Member.{Member}
use Rattle.type_trees.specs.Bridge.{type_shape, members_shape, member_head}
use Rattle.type_trees.proofs.Views.{member_tree_is}
use Rattle.xt_shapes.specs.declared.leaves.Order.{Order}
use Rattle.xt_shapes.specs.declared.leaves.Primitive.{Primitive}
use Rattle.xt_shapes.specs.declared.leaves.Rep.{Rep}
use Rattle.xt_shapes.specs.declared.leaves.Rep.TheVariants.{Xcdr1, Xcdr2}
use Rattle.xt_shapes.specs.Vals.{Val, absent, slots_of, items_in}
use Rattle.xcdr_model.specs.FixedSpelling.{Fixed, nothing, then_fixed, slot_fixed, fixed_of, members_fixed, members_fixed1, pieces_fixed, params_fixed, scalar_size}
use Rattle.packed_reader.specs.declared.values.Numbers.{Numbers}
use Rattle.packed_reader.specs.declared.values.OwnNumbers.{OwnNumbers}
use Rattle.packed_reader.specs.declared.values.Packed as p
use Rattle.packed_reader.specs.declared.values.Packed.{Packed}
use Rattle.packed_reader.specs.declared.values.PackedSlot.{PackedSlot}
use Rattle.packed_reader.specs.View.{packed_val, packed_slot, numbers_in, numbers_of, own_numbers}
use Rattle.packed_reader.proofs.Views.{packed_numbers, packed_own, packed_list}
use Rattle.value_writer.proofs.Parts.{each_val_of}
use Rattle.xcdr_writer.specs.Parts.{presence_fixed, slot_in, piece_in, members_of, pieces_of}

pub count_numbers : (p : Primitive) (o : Order) (n : ℕ) (ys : List ℕ) → length (numbers_in p o n ys) ≡ n
count_numbers p o zero ys = refl
count_numbers p o (suc n) ys = ap (λ (m : ℕ). suc m) (count_numbers p o n _)

pub items_of_numbers : (x : Numbers) → items_in (packed_val (p.Numbers x)) ≡ numbers_of x
items_of_numbers x = ap items_in (packed_numbers x) ∙ each_val_of (numbers_of x)

pub items_of_own : (x : OwnNumbers) → items_in (packed_val (p.Own x)) ≡ own_numbers x
items_of_own x = ap items_in (packed_own x) ∙ each_val_of (own_numbers x)

pub items_of_list : (vs : List Packed) → items_in (packed_val (p.List vs)) ≡ map packed_val vs
items_of_list vs = ap items_in (packed_list vs) ∙ each_val_of (map packed_val vs)

-- an optional member that is absent
pub absent_slot : (opt : Bool) (o : Order) (f : Val → Fixed) → slot_fixed opt o f absent ≡ presence_fixed o opt false
absent_slot true o f = refl
absent_slot false o f = refl

-- ---- the next of those that are left

pub next_packed : (vs : List Packed) (i : ℕ) (v : Packed) → i < length vs → v ≡ get_or vs i v → map packed_val (drop i vs) ≡ packed_val v ∷ map packed_val (drop (i + 1) vs)
next_packed vs i v within is = rw (drop_more vs i v within, ← is) refl

pub no_more_packed : (vs : List Packed) (i : ℕ) → length vs ≤ i → map packed_val (drop i vs) ≡ []
no_more_packed vs i past = ap (map packed_val) (drop_all i vs past)

pub members_step : (r : Rep) (o : Order) (ms : List Member) (ss : List PackedSlot) (i : ℕ) (m : Member) (s : PackedSlot) → i < length ms → m ≡ get_or ms i m → i < length ss → s ≡ get_or ss i s
    → members_of r o (members_shape (drop i ms)) (slots_of (map packed_slot (drop i ss))) ≡ then_fixed (slot_in r o (member_head m) (λ w. fixed_of r o (type_shape m.ty) w) (packed_slot s)) (members_of r o (members_shape (drop (i + 1) ms)) (slots_of (map packed_slot (drop (i + 1) ss))))
unfolding members_fixed members_fixed1
members_step Xcdr1 o ms ss i m s within is inside its = rw (drop_more ms i m within, ← is, member_tree_is m, drop_more ss i s inside, ← its) refl
members_step Xcdr2 o ms ss i m s within is inside its = rw (drop_more ms i m within, ← is, member_tree_is m, drop_more ss i s inside, ← its) refl

pub pieces_step : (r : Rep) (o : Order) (ms : List Member) (ss : List PackedSlot) (i : ℕ) (m : Member) (s : PackedSlot) → i < length ms → m ≡ get_or ms i m → i < length ss → s ≡ get_or ss i s
    → pieces_of r o (members_shape (drop i ms)) (slots_of (map packed_slot (drop i ss))) ≡ then_fixed (piece_in r o (member_head m) (scalar_size (type_shape m.ty)) (λ w. fixed_of r o (type_shape m.ty) w) (packed_slot s)) (pieces_of r o (members_shape (drop (i + 1) ms)) (slots_of (map packed_slot (drop (i + 1) ss))))
unfolding pieces_fixed params_fixed
pieces_step Xcdr1 o ms ss i m s within is inside its = rw (drop_more ms i m within, ← is, member_tree_is m, drop_more ss i s inside, ← its) refl
pieces_step Xcdr2 o ms ss i m s within is inside its = rw (drop_more ms i m within, ← is, member_tree_is m, drop_more ss i s inside, ← its) refl

pub members_end : (r : Rep) (o : Order) (ms : List Member) (ss : List PackedSlot) (i : ℕ) → length ms ≤ i → members_of r o (members_shape (drop i ms)) (slots_of (map packed_slot (drop i ss))) ≡ nothing
unfolding members_fixed members_fixed1
members_end Xcdr1 o ms ss i past = rw (drop_all i ms past) refl
members_end Xcdr2 o ms ss i past = rw (drop_all i ms past) refl

pub pieces_end : (r : Rep) (o : Order) (ms : List Member) (ss : List PackedSlot) (i : ℕ) → length ms ≤ i → pieces_of r o (members_shape (drop i ms)) (slots_of (map packed_slot (drop i ss))) ≡ nothing
unfolding pieces_fixed params_fixed
pieces_end Xcdr1 o ms ss i past = rw (drop_all i ms past) refl
pieces_end Xcdr2 o ms ss i past = rw (drop_all i ms past) refl
