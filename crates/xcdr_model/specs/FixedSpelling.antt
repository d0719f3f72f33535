-- The one spelling that a writer writes, from a place on (this profile's own choice among those of DDS-XTypes 1.3, 7.4): members in
-- declared order, zero padding, and the shortest header that a member's type or length allows.
use Rattle.std.specs.Prelude.{ℕ, ◌+◌, ◌*◌, ◌^◌, ℤ, List, [], ◌∷◌, ◌++◌, Bool, true, false, cond, Option, Some, None, length, replicate, min, nat_le, nat_lt, ◌==◌, ◌&&◌}
use Rattle.xt_shapes.specs.declared.leaves.Ext.TheVariants.{Final, Appendable, Mutable}
use Rattle.xt_shapes.specs.declared.leaves.Order.{Order}
use Rattle.xt_shapes.specs.declared.leaves.Rep.{Rep}
use Rattle.xt_shapes.specs.declared.leaves.Rep.TheVariants.{Xcdr1, Xcdr2}
use Rattle.xt_shapes.specs.Select.{select, is_must}
use Rattle.xt_shapes.specs.Shape.{Head, Shape, prim, str, enumeration, bitmask, sequence, array, map_of, structure, union, Members, no_members, member, Cases, no_cases, one_case}
use Rattle.xt_shapes.specs.Sizes.{size, enum_size, mask_size}
use Rattle.xt_shapes.specs.Vals.{Val, Slots, Slot, absent, present, number_in, octets_in, items_in, entries_in, slots_in, disc_in, body_in, first, others}
use Rattle.xcdr_model.specs.Numbers.{octets, padding, raw}
use Rattle.xcdr_model.specs.Xcdr2Reading.{is_primitive}
use Rattle.xcdr_model.specs.Xcdr2Spelling.{bit}

-- octets from a place on
abbrev pub Fixed : Type 0
Fixed = ℕ → List ℕ

abbrev pub nothing : Fixed
nothing p = []

unfoldable pub number_fixed : ℕ → Order → ℕ → ℕ → Fixed
number_fixed most o k n p = replicate (padding (min k most) p) 0 ++ octets o k n

unfoldable pub then_fixed : Fixed → Fixed → Fixed
then_fixed f g p = let a = f p in a ++ g (p + length a)

unfoldable pub headed_fixed : Order → Fixed → Fixed
headed_fixed o f p = let b = f (p + (padding 4 p + 4)) in number_fixed 4 o 4 (length b) p ++ b

abbrev pub each_fixed : {A : Type 0} → (A → Fixed) → List A → Fixed
each_fixed f [] = nothing
each_fixed f (x ∷ xs) = then_fixed (f x) (each_fixed f xs)

abbrev pub collection_fixed : Bool → Order → Fixed → Fixed
collection_fixed true o f = f
collection_fixed false o f = headed_fixed o f

abbrev pub counted_fixed : {A : Type 0} → Order → (A → Fixed) → List A → Fixed
counted_fixed o f xs = then_fixed (number_fixed 4 o 4 (length xs)) (each_fixed f xs)

-- ---- no collection, structure or union

abbrev pub scalar_size : Shape → ℕ
scalar_size (prim p) = size p
scalar_size (enumeration e bits ls) = enum_size bits
scalar_size (bitmask bits fs) = mask_size bits
scalar_size _ = 0

abbrev pub scalar_fixed : ℕ → Order → Shape → ℤ → Fixed
scalar_fixed most o t i = number_fixed most o (scalar_size t) (raw (scalar_size t) i)

abbrev pub text_fixed : Order → List ℕ → Fixed
text_fixed o t = then_fixed (number_fixed 4 o 4 (length t + 1)) (λ p. t ++ 0 ∷ [])

-- ---- members

abbrev pub slot_fixed : Bool → Order → (Val → Fixed) → Slot → Fixed
slot_fixed false o f absent = nothing
slot_fixed false o f (present w) = f w
slot_fixed true o f absent = number_fixed 4 o 1 0
slot_fixed true o f (present w) = then_fixed (number_fixed 4 o 1 1) (f w)

-- the length code of a size, if it has one of its own
abbrev pub code_of : ℕ → ℕ
code_of k = cond (k == 1) 0 (cond (k == 2) 1 (cond (k == 4) 2 (cond (k == 8) 3 4)))

unfoldable pub piece_fixed : Order → Head → ℕ → (Val → Fixed) → Slot → Fixed
piece_fixed o h code f absent p = []
piece_fixed o h code f (present w) p =
    let c = f w (p + (padding 4 p + cond (nat_lt code 4) 4 8)) in
    replicate (padding 4 p) 0 ++ ((octets o 4 (bit (is_must h) * 2 ^ 31 + code * 2 ^ 28 + h.id) ++ cond (nat_lt code 4) [] (octets o 4 (length c))) ++ c)

abbrev pub if_selected_fixed : Option ℕ → (ℕ → Fixed) → Fixed
if_selected_fixed None f = nothing
if_selected_fixed (Some i) f = f i

abbrev pub if_present_fixed : Slot → (Val → Fixed) → Fixed
if_present_fixed absent f = nothing
if_present_fixed (present w) f = f w

unfoldable mutual
  pub fixed : Order → Shape → Val → ℕ → List ℕ
  fixed o (prim p) v = scalar_fixed 4 o (prim p) (number_in v)
  fixed o (enumeration e bits ls) v = scalar_fixed 4 o (enumeration e bits ls) (number_in v)
  fixed o (bitmask bits fs) v = scalar_fixed 4 o (bitmask bits fs) (number_in v)
  fixed o (str bound) v = text_fixed o (octets_in v)
  fixed o (sequence bound tc t) v = collection_fixed (is_primitive t) o (counted_fixed o (λ w. fixed o t w) (items_in v))
  fixed o (array dims tc t) v = collection_fixed (is_primitive t) o (each_fixed (λ w. fixed o t w) (items_in v))
  fixed o (map_of bound kc k vc t) v = collection_fixed (is_primitive k && is_primitive t) o (counted_fixed o (λ x. then_fixed (fixed o k x.0) (fixed o t x.1)) (entries_in v))
  fixed o (structure Final ms) v = members_fixed o ms (slots_in v)
  fixed o (structure Appendable ms) v = headed_fixed o (members_fixed o ms (slots_in v))
  fixed o (structure Mutable ms) v = headed_fixed o (pieces_fixed o ms (slots_in v))
  fixed o (union Final key disc cs) v = then_fixed (scalar_fixed 4 o disc (disc_in v)) (if_selected_fixed (select cs (disc_in v)) (λ i. case_fixed o cs i (body_in v)))
  fixed o (union Appendable key disc cs) v = headed_fixed o (then_fixed (scalar_fixed 4 o disc (disc_in v)) (if_selected_fixed (select cs (disc_in v)) (λ i. case_fixed o cs i (body_in v))))
  fixed o (union Mutable key disc cs) v = nothing

  pub members_fixed : Order → Members → Slots → ℕ → List ℕ
  members_fixed o no_members ss = nothing
  members_fixed o (member h t ms) ss = then_fixed (slot_fixed h.optional o (λ w. fixed o t w) (first ss)) (members_fixed o ms (others ss))

  pub pieces_fixed : Order → Members → Slots → ℕ → List ℕ
  pieces_fixed o no_members ss = nothing
  pieces_fixed o (member h t ms) ss = then_fixed (piece_fixed o h (code_of (scalar_size t)) (λ w. fixed o t w) (first ss)) (pieces_fixed o ms (others ss))

  pub case_fixed : Order → Cases → ℕ → Slot → ℕ → List ℕ
  case_fixed o no_cases i s = nothing
  case_fixed o (one_case h t cs) i s = cond (h.id == i) (if_present_fixed s (λ w. fixed o t w)) (case_fixed o cs i s)

-- ---- XCDR1: contents have an origin of their own

-- the short form where it holds the id and the length, else the extended one
abbrev pub header_fixed : Order → Bool → ℕ → ℕ → List ℕ
header_fixed o must id len = cond (nat_le id 0x3F00 && nat_lt len (2 ^ 16))
    (octets o 2 (bit must * 2 ^ 14 + id) ++ octets o 2 len)
    (octets o 2 0x7F01 ++ (octets o 2 8 ++ (octets o 4 (bit must * 2 ^ 30 + id) ++ octets o 4 len)))

unfoldable pub param_fixed : Order → Head → List ℕ → Fixed
param_fixed o h c p = replicate (padding 4 p) 0 ++ (header_fixed o (is_must h) h.id (length c) ++ c)

unfoldable pub end_fixed : Order → Fixed
end_fixed o p = replicate (padding 4 p) 0 ++ (octets o 2 0x7F02 ++ octets o 2 0)

abbrev pub slot_fixed1 : Bool → Order → Head → (Val → Fixed) → Slot → Fixed
slot_fixed1 false o h f absent = nothing
slot_fixed1 false o h f (present w) = f w
slot_fixed1 true o h f absent = param_fixed o h []
slot_fixed1 true o h f (present w) = param_fixed o h (f w 0)

abbrev pub sent_fixed1 : Order → Head → (Val → Fixed) → Slot → Fixed
sent_fixed1 o h f absent = nothing
sent_fixed1 o h f (present w) = param_fixed o h (f w 0)

unfoldable mutual
  pub fixed1 : Order → Shape → Val → ℕ → List ℕ
  fixed1 o (prim p) v = scalar_fixed 8 o (prim p) (number_in v)
  fixed1 o (enumeration e bits ls) v = scalar_fixed 8 o (enumeration e bits ls) (number_in v)
  fixed1 o (bitmask bits fs) v = scalar_fixed 8 o (bitmask bits fs) (number_in v)
  fixed1 o (str bound) v = text_fixed o (octets_in v)
  fixed1 o (sequence bound tc t) v = counted_fixed o (λ w. fixed1 o t w) (items_in v)
  fixed1 o (array dims tc t) v = each_fixed (λ w. fixed1 o t w) (items_in v)
  fixed1 o (map_of bound kc k vc t) v = counted_fixed o (λ x. then_fixed (fixed1 o k x.0) (fixed1 o t x.1)) (entries_in v)
  fixed1 o (structure Final ms) v = members_fixed1 o ms (slots_in v)
  fixed1 o (structure Appendable ms) v = members_fixed1 o ms (slots_in v)
  fixed1 o (structure Mutable ms) v = then_fixed (params_fixed o ms (slots_in v)) (end_fixed o)
  fixed1 o (union e key disc cs) v = then_fixed (scalar_fixed 8 o disc (disc_in v)) (if_selected_fixed (select cs (disc_in v)) (λ i. case_fixed1 o cs i (body_in v)))

  pub members_fixed1 : Order → Members → Slots → ℕ → List ℕ
  members_fixed1 o no_members ss = nothing
  members_fixed1 o (member h t ms) ss = then_fixed (slot_fixed1 h.optional o h (λ w. fixed1 o t w) (first ss)) (members_fixed1 o ms (others ss))

  pub params_fixed : Order → Members → Slots → ℕ → List ℕ
  params_fixed o no_members ss = nothing
  params_fixed o (member h t ms) ss = then_fixed (sent_fixed1 o h (λ w. fixed1 o t w) (first ss)) (params_fixed o ms (others ss))

  pub case_fixed1 : Order → Cases → ℕ → Slot → ℕ → List ℕ
  case_fixed1 o no_cases i s = nothing
  case_fixed1 o (one_case h t cs) i s = cond (h.id == i) (if_present_fixed s (λ w. fixed1 o t w)) (case_fixed1 o cs i s)

abbrev pub fixed_of : Rep → Order → Shape → Val → ℕ → List ℕ
fixed_of Xcdr1 = fixed1
fixed_of Xcdr2 = fixed
