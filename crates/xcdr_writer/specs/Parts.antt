-- The fixed spelling of either representation by the parts of a type and of a value, as `fixed_of` puts them together (DDS-XTypes 1.3, 7.4.1
-- and 7.4.2).
use Rattle.std.specs.Prelude.{ℕ, ℤ, ◌+◌, ◌*◌, ◌^◌, ◌++◌, min, List, Bool, true, false, cond, nat_lt, nat_le, ◌&&◌}
use Rattle.xt_shapes.specs.declared.leaves.Ext.{Ext}
use Rattle.xt_shapes.specs.declared.leaves.Ext.TheVariants.{Final, Appendable, Mutable}
use Rattle.xt_shapes.specs.declared.leaves.Order.{Order}
use Rattle.xt_shapes.specs.declared.leaves.Rep.{Rep}
use Rattle.xt_shapes.specs.declared.leaves.Rep.TheVariants.{Xcdr1, Xcdr2}
use Rattle.xt_shapes.specs.Select.{select}
use Rattle.xt_shapes.specs.Shape.{Head, Shape, Members, Cases}
use Rattle.xt_shapes.specs.Vals.{Val, Slots, Slot}
use Rattle.xcdr_model.specs.Numbers.{octets}
use Rattle.xcdr_model.specs.Xcdr2Reading.{is_primitive}
use Rattle.xcdr_model.specs.Xcdr2Spelling.{bit}
use Rattle.xt_wire.specs.writer.Writing.{padding_fixed}
use Rattle.value_writer.specs.Places.{number_end}
use Rattle.xcdr_model.specs.FixedSpelling.{Fixed, nothing, number_fixed, collection_fixed, counted_fixed, then_fixed, headed_fixed, each_fixed, scalar_fixed, slot_fixed, piece_fixed, code_of, if_selected_fixed, fixed_of, members_fixed, pieces_fixed, case_fixed, slot_fixed1, sent_fixed1, header_fixed, end_fixed, members_fixed1, params_fixed, case_fixed1}

-- ---- where the representations differ

-- what numbers are aligned to at most
abbrev pub most_of : Rep → ℕ
most_of Xcdr1 = 8
most_of Xcdr2 = 4

-- only XCDR2 has counts of octets before collections, structures and unions, but for those of plain parts
abbrev pub is_bare : Rep → Bool → Bool
is_bare Xcdr1 plain = true
is_bare Xcdr2 plain = plain

-- a member in its place
abbrev pub slot_in : Rep → Order → Head → (Val → Fixed) → Slot → Fixed
slot_in Xcdr1 o h f s = slot_fixed1 h.optional o h f s
slot_in Xcdr2 o h f s = slot_fixed h.optional o f s

-- a member behind its header, where a number in it has so many octets
abbrev pub piece_in : Rep → Order → Head → ℕ → (Val → Fixed) → Slot → Fixed
piece_in Xcdr1 o h size f s = sent_fixed1 o h f s
piece_in Xcdr2 o h size f s = piece_fixed o h (code_of size) f s

abbrev pub members_of : Rep → Order → Members → Slots → Fixed
members_of Xcdr1 o ms ss = members_fixed1 o ms ss
members_of Xcdr2 o ms ss = members_fixed o ms ss

abbrev pub pieces_of : Rep → Order → Members → Slots → Fixed
pieces_of Xcdr1 o ms ss = params_fixed o ms ss
pieces_of Xcdr2 o ms ss = pieces_fixed o ms ss

abbrev pub case_of : Rep → Order → Cases → ℕ → Slot → Fixed
case_of Xcdr1 o cs i s = case_fixed1 o cs i s
case_of Xcdr2 o cs i s = case_fixed o cs i s

-- ---- the parts of a value

abbrev pub items_fixed : Rep → Order → Shape → List Val → Fixed
items_fixed r o t vs = each_fixed (λ w. fixed_of r o t w) vs

abbrev pub counted_items : Rep → Order → Shape → List Val → Fixed
counted_items r o t vs = counted_fixed o (λ w. fixed_of r o t w) vs

abbrev pub entry_fixed : Rep → Order → Shape → Shape → Val × Val → Fixed
entry_fixed r o k t x = then_fixed (fixed_of r o k x.0) (fixed_of r o t x.1)

abbrev pub entries_fixed : Rep → Order → Shape → Shape → List (Val × Val) → Fixed
entries_fixed r o k t es = each_fixed (λ x. entry_fixed r o k t x) es

abbrev pub counted_entries : Rep → Order → Shape → Shape → List (Val × Val) → Fixed
counted_entries r o k t es = counted_fixed o (λ x. entry_fixed r o k t x) es

abbrev pub sequence_fixed : Rep → Order → Shape → List Val → Fixed
sequence_fixed r o t vs = collection_fixed (is_bare r (is_primitive t)) o (counted_items r o t vs)

abbrev pub array_fixed : Rep → Order → Shape → List Val → Fixed
array_fixed r o t vs = collection_fixed (is_bare r (is_primitive t)) o (items_fixed r o t vs)

abbrev pub map_fixed : Rep → Order → Shape → Shape → List (Val × Val) → Fixed
map_fixed r o k t es = collection_fixed (is_bare r (is_primitive k && is_primitive t)) o (counted_entries r o k t es)

abbrev pub mutable_fixed : Rep → Order → Members → Slots → Fixed
mutable_fixed Xcdr1 o ms ss = then_fixed (params_fixed o ms ss) (end_fixed o)
mutable_fixed Xcdr2 o ms ss = headed_fixed o (pieces_fixed o ms ss)

abbrev pub structure_fixed : Rep → Order → Ext → Members → Slots → Fixed
structure_fixed r o Final ms ss = members_of r o ms ss
structure_fixed r o Appendable ms ss = collection_fixed (is_bare r false) o (members_of r o ms ss)
structure_fixed r o Mutable ms ss = mutable_fixed r o ms ss

-- the octet before an optional member of XCDR2
abbrev pub presence_fixed : Order → Bool → Bool → Fixed
presence_fixed o true present = number_fixed 4 o 1 (bit present)
presence_fixed o false present = nothing

-- the discriminator, and the case that it selects
abbrev pub selected_fixed : Rep → Order → Shape → Cases → ℤ → Slot → Fixed
selected_fixed r o disc cs d s = then_fixed (scalar_fixed (most_of r) o disc d) (if_selected_fixed (select cs d) (λ i. case_of r o cs i s))

-- XCDR2 has no MUTABLE unions
abbrev pub mutable_union : Rep → Fixed → Fixed
mutable_union Xcdr1 f = f
mutable_union Xcdr2 f = nothing

abbrev pub union_fixed : Rep → Order → Ext → Shape → Cases → ℤ → Slot → Fixed
union_fixed r o Final disc cs d s = selected_fixed r o disc cs d s
union_fixed r o Appendable disc cs d s = collection_fixed (is_bare r false) o (selected_fixed r o disc cs d s)
union_fixed r o Mutable disc cs d s = mutable_union r (selected_fixed r o disc cs d s)

-- ---- headers in XCDR1 (7.4.1.2)

abbrev pub short_header : Order → Bool → ℕ → ℕ → List ℕ
short_header o must id len = octets o 2 (bit must * 2 ^ 14 + id) ++ octets o 2 len

abbrev pub long_header : Order → Bool → ℕ → ℕ → List ℕ
long_header o must id len = octets o 2 0x7F01 ++ (octets o 2 8 ++ (octets o 4 (bit must * 2 ^ 30 + id) ++ octets o 4 len))

abbrev pub header_behind : Order → Bool → ℕ → ℕ → Fixed
header_behind o must id len = then_fixed (padding_fixed 4) (λ p. header_fixed o must id len)

-- ---- where they end

-- the count of octets before a part, unless it is bare
abbrev pub delimiter_end : Bool → ℕ → ℕ
delimiter_end true p = p
delimiter_end false p = number_end 4 4 p

-- in XCDR2, a member's header of that length code, with the count behind it, if it has one
abbrev pub header_end : ℕ → ℕ → ℕ
header_end code p = cond (nat_lt code 4) (number_end 4 4 p) (number_end 4 4 (number_end 4 4 p))

-- in XCDR1, whether a header's short form holds the id and the length
abbrev pub is_short : ℕ → ℕ → Bool
is_short id len = nat_le id 0x3F00 && nat_lt len (2 ^ 16)

-- the end of a parameter's header
abbrev pub param_header_end : ℕ → ℕ → ℕ → ℕ
param_header_end id len p = cond (is_short id len) (number_end 4 4 p) (min 4294967296 (number_end 4 4 p + 8))

-- in XCDR2, the octet before a member, if it is optional
abbrev pub presence_end : Bool → ℕ → ℕ
presence_end true p = number_end 4 1 p
presence_end false p = p
