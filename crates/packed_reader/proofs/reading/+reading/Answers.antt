use Rattle.std.proofs.Common.{◌≡◌, ◌++◌, ◌∷◌, [], refl, sym, ap, ◌∙◌, length, map, rules, arith, ℕ, ◌+◌, length-append}
use Rattle.std.proofs.lemmas.List.{map-append, length-map}
use denote.Param.Weighed.{at_most}
use Rattle.std.specs.Int.{w128}
use Rattle.std.proofs.lemmas.Int.{to_z-of_z}
use Rattle.type_trees.proofs.types.Case.TheLaws as case_laws
use Rattle.type_trees.proofs.types.Member.TheLaws as member_laws
use Rattle.type_trees.specs.declared.types.UnionType.{out-UnionType}
use Rattle.xt_shapes.specs.declared.leaves.Ext.TheVariants.{Final, Appendable, Mutable}
use Rattle.xt_shapes.specs.Shape.{product}
use Rattle.type_trees.specs.Bridge.{type_shape, members_shape, cases_shape, member_head}
use Rattle.packed_reader.specs.View.{packed_val, packed_slot}
use Rattle.packed_reader.proofs.Views.{packed_absent, packed_present, packed_struct, packed_numbers, packed_list}
use Rattle.packed_reader.specs.Spots.{spot_of}
use Rattle.packed_reader.proofs.Steps.{empty_is}
use Rattle.packed_reader.proofs.Taken.{none_taken}
use Rattle.packed_reader.proofs.ListSteps.{items_first, item_next, items_end, is_prim, no_prim, sequence_is, array_is, counted_is, sequence_in, sequence_of, array_in, array_of}
use Rattle.packed_reader.proofs.MemberSteps.{sound_here, sound_more, guide_here, slot_here, slot_present, slot_absent, members_first, one_more_taken, one_more_left, members_end}
use Rattle.packed_reader.proofs.PieceSteps.{pieces_first, piece_taken, piece_left, pieces_end}
use Rattle.packed_reader.proofs.KindSteps.{struct_is, final_is, appendable_in, appendable_of, mutable_of}
use Rattle.packed_reader.proofs.UnionSteps as unions
use Rattle.packed_reader.proofs.reading.+reading.Goals as goal

-- ---- sequences and arrays

pub read_items-loop-turn-init : goal.read_items-loop-turn-init
read_items-loop-turn-init t c = rw (c.reserve.ensures ∙ c.new-values.ensures) (record { many = refl; left = items_first c.args.rep c.args.order (type_shape c.args.ty.now) c.args.count (spot_of c.args.ahead) })

pub read_items-loop-turn-preserved : goal.read_items-loop-turn-preserved
read_items-loop-turn-preserved t c =
    let vs = map packed_val c.loop-turn.values in
    let v = packed_val c.in_ok-value.value in
    let more : map packed_val c.push.new.self ≡ vs ++ v ∷ [] = ap (λ xs. map packed_val xs) c.in-Ok-push.ensures.ok ∙ map-append packed_val c.loop-turn.values (c.in_ok-value.value ∷ []) in
    record {
      many = ap (λ xs. length xs) c.in-Ok-push.ensures.ok ∙ length-append c.loop-turn.values (c.in_ok-value.value ∷ []) ∙ ap (λ (n : ℕ). n + 1) c.loop-turn.invariant.many;
      left = rw more (sym (item_next c.args.rep c.args.order (type_shape c.args.ty.now) c.args.count c.loop-turn._turn vs v (spot_of c.loop-turn.left) (spot_of c.in_ok-value.behind) c.loop-turn-test.true c.in_ok-value.ensures) ∙ c.loop-turn.invariant.left);
    }

pub read_items-returns : goal.read_items-returns
read_items-returns t c =
    let all : c.loop-turn._turn ≡ c.args.count = omega arith in
    record {
      many = c.loop-turn.invariant.many ∙ all;
      value = sym c.loop-turn.invariant.left ∙ items_end c.args.rep c.args.order (type_shape c.args.ty.now) c.args.count c.loop-turn._turn (map packed_val c.loop-turn.values) (spot_of c.loop-turn.left) c.loop-turn-test.false;
    }

pub read_counted-returns : goal.read_counted-returns
read_counted-returns t c =
    let vs = c.in_ok-values.values in
    counted_is c.args.rep c.args.order c.args.bound c.in_ok-count.count (type_shape c.args.ty.now) (map packed_val vs) (spot_of c.args.ahead) (spot_of c.in_ok-count.begin) (spot_of c.in_ok-values.behind) c.in_ok-count.ensures.value c.in_ok-values.ensures.value (length-map vs packed_val ∙ c.in_ok-values.ensures.many) (sym c.is_past.ensures ∙ c.if-is_past.false)

pub read_list-returns-in_ok-values-in-Xcdr1 : goal.read_list-returns-in_ok-values-in-Xcdr1
read_list-returns-in_ok-values-in-Xcdr1 t c =
    let e = c.args.elem.now in
    let x = c.in_ok-values-in-Xcdr1 in
    rw (c.in-Xcdr1.is, packed_list x.values) (sequence_in c.args.order c.args.bound e.tc (type_shape e.ty) (map packed_val x.values) (spot_of c.args.ahead) (spot_of x.behind) x.ensures)

pub read_list-returns-else-not-is_empty : goal.read_list-returns-else-not-is_empty
read_list-returns-else-not-is_empty t c =
    let e = c.args.elem.now in
    let r = c.in_ok-inside-in-Xcdr2 in
    let x = c.in_ok-values-in-Xcdr2 in
    rw (c.in-Xcdr2.is, packed_list x.values) (sequence_of c.args.order c.args.bound e.tc (type_shape e.ty) (map packed_val x.values) (spot_of c.args.ahead) (spot_of r.inside) (spot_of r.after) (spot_of x.end) c.requires.inside r.ensures x.ensures (empty_is x.end.rest.now (sym c.is_empty.ensures ∙ c.if-not-is_empty.false)))

pub read_sequence-read_list-requires : goal.read_sequence-read_list-requires
read_sequence-read_list-requires t c =
    let other = no_prim (type_shape c.args.elem.now.ty) (sym c.in_default.is ∙ c.as_prim.ensures) in
    search rules

pub read_sequence-returns : goal.read_sequence-returns
read_sequence-returns t c =
    let e = c.args.elem.now in
    let p = c.in-Some.prim in
    let x = c.in_ok-numbers.numbers in
    rw (packed_numbers x) (sequence_is c.args.rep c.args.order c.args.bound c.in_ok-count.count e.tc (type_shape e.ty) p x (spot_of c.args.ahead) (spot_of c.in_ok-count.begin) (spot_of c.in_ok-numbers.behind) (is_prim (type_shape e.ty) p c.in-Some.ensures) c.in_ok-count.ensures.value c.in_ok-numbers.ensures.value c.in_ok-numbers.ensures.many (sym c.is_past.ensures ∙ c.if-is_past.false))

pub read_table-returns-in_ok-values-in-Xcdr1 : goal.read_table-returns-in_ok-values-in-Xcdr1
read_table-returns-in_ok-values-in-Xcdr1 t c =
    let e = c.args.elem.now in
    let x = c.in_ok-values-in-Xcdr1 in
    λ dims count. rw (c.in-Xcdr1.is, packed_list x.values) (array_in c.args.order dims c.args.count e.tc (type_shape e.ty) (map packed_val x.values) (spot_of c.args.ahead) (spot_of x.behind) count x.ensures.value)

pub read_table-returns-else-not-is_empty : goal.read_table-returns-else-not-is_empty
read_table-returns-else-not-is_empty t c =
    let e = c.args.elem.now in
    let r = c.in_ok-inside-in-Xcdr2 in
    let x = c.in_ok-values-in-Xcdr2 in
    λ dims count. rw (c.in-Xcdr2.is, packed_list x.values) (array_of c.args.order dims c.args.count e.tc (type_shape e.ty) (map packed_val x.values) (spot_of c.args.ahead) (spot_of r.inside) (spot_of r.after) (spot_of x.end) c.requires.inside count r.ensures x.ensures.value (empty_is x.end.rest.now (sym c.is_empty.ensures ∙ c.if-not-is_empty.false)))

pub read_array-read_table-requires : goal.read_array-read_table-requires
read_array-read_table-requires t c =
    let other = no_prim (type_shape c.args.elem.now.ty) (sym c.in_default.is ∙ c.as_prim.ensures) in
    search rules

pub read_array-returns-in_default : goal.read_array-returns-in_default
read_array-returns-in_default t c =
    let count : product c.args.dims.now ≡ c.elements_of-count.result = omega arith in
    c.in_ok-value.ensures c.args.dims.now count

pub read_array-returns : goal.read_array-returns
read_array-returns t c =
    let e = c.args.elem.now in
    let p = c.in-Some.prim in
    let x = c.in_ok-numbers.numbers in
    let count : product c.args.dims.now ≡ c.elements_of-count.result = omega arith in
    rw (packed_numbers x) (array_is c.args.rep c.args.order c.args.dims.now c.elements_of-count.result e.tc (type_shape e.ty) p x (spot_of c.args.ahead) (spot_of c.in_ok-numbers.behind) (is_prim (type_shape e.ty) p c.in-Some.ensures) count c.in_ok-numbers.ensures.value)

-- ---- a member in declared order

pub read_slot-returns-then-not-member : goal.read_slot-returns-then-not-member
read_slot-returns-then-not-member t c =
    let m = c.args.member.now in
    rw (packed_present c.in_ok-value.value) (slot_here c.args.rep c.args.order (member_head m) (type_shape m.ty) (packed_val c.in_ok-value.value) (spot_of c.args.ahead) (spot_of c.in_ok-value.behind) c.if-not-member.true c.in_ok-value.ensures)

pub read_slot-returns-then-not-is_there : goal.read_slot-returns-then-not-is_there
read_slot-returns-then-not-is_there t c =
    let m = c.args.member.now in
    rw (c.in-Xcdr2.is, packed_absent) (slot_absent c.args.order (member_head m) (type_shape m.ty) c.in_ok-is_there.is_there (spot_of c.args.ahead) (spot_of c.in_ok-is_there.inside) c.if-not-member.false c.if-not-is_there.true c.in_ok-is_there.ensures)

pub read_slot-returns : goal.read_slot-returns
read_slot-returns t c =
    let m = c.args.member.now in
    rw (c.in-Xcdr2.is, packed_present c.in_ok-value-2.value) (slot_present c.args.order (member_head m) (type_shape m.ty) (packed_val c.in_ok-value-2.value) c.in_ok-is_there.is_there (spot_of c.args.ahead) (spot_of c.in_ok-is_there.inside) (spot_of c.in_ok-value-2.behind) c.if-not-member.false c.if-not-is_there.false c.in_ok-is_there.ensures c.in_ok-value-2.ensures)

-- ---- the members in declared order

pub read_members-loop-at-init : goal.read_members-loop-at-init
read_members-loop-at-init t c =
    let none = c.reserve.ensures ∙ c.new-slots.ensures in
    rw none (record {
      taken = none_taken (members_shape c.args.members.now) c.requires.apart;
      left = members_first c.args.rep c.args.order c.args.cut (members_shape c.args.members.now) (spot_of c.args.ahead);
      sound = c.requires.sound;
    })

pub read_members-read_slot-requires : goal.read_members-read_slot-requires
read_members-read_slot-requires t c =
    let fine = sound_here c.args.members.now c.loop-at.at c.index-members-at.result c.loop-at.invariant.sound c.loop-at-test.true c.index-members-at.is in
    let guided = guide_here c.args.members.now c.args.guide.now c.part.result.now c.loop-at.at c.index-members-at.result c.requires.guide c.loop-at-test.true c.index-members-at.is c.part.ensures in
    let smaller = rw (← c.index-members-at.is) at (at_most member_laws.the_size c.args.members.now c.loop-at.at c.index-members-at.result c.loop-at-test.true) in
    search rules

pub read_members-loop-at-preserved : goal.read_members-loop-at-preserved
read_members-loop-at-preserved t c =
    let ms = c.args.members.now in
    let i = c.loop-at.at in
    let m = c.index-members-at.result in
    let ss = map packed_slot c.loop-at.slots in
    let b = packed_slot c.in_ok-slot.slot in
    let more : map packed_slot c.push.new.self ≡ ss ++ b ∷ [] = ap (λ xs. map packed_slot xs) c.in-Ok-push.ensures.ok ∙ map-append packed_slot c.loop-at.slots (c.in_ok-slot.slot ∷ []) in
    rw more (record {
      taken = one_more_taken ms i m ss b c.args.rep c.args.order (spot_of c.loop-at.left) (spot_of c.in_ok-slot.behind) c.loop-at-test.true c.index-members-at.is c.loop-at.invariant.taken c.in_ok-slot.ensures;
      left = sym (one_more_left ms i m ss b c.args.rep c.args.order c.args.cut (spot_of c.loop-at.left) (spot_of c.in_ok-slot.behind) c.loop-at-test.true c.index-members-at.is c.loop-at.invariant.taken (sym c.is_ended.ensures ∙ c.if-is_ended.false) c.in_ok-slot.ensures) ∙ c.loop-at.invariant.left;
      sound = sound_more ms i m c.loop-at.invariant.sound c.loop-at-test.true c.index-members-at.is;
    })

pub read_members-returns : goal.read_members-returns
read_members-returns t c =
    rw (packed_struct c.loop-at.slots) (sym c.loop-at.invariant.left ∙ members_end c.args.members.now c.loop-at.at (map packed_slot c.loop-at.slots) c.args.rep c.args.order c.args.cut (spot_of c.loop-at.left) c.loop-at-test.false c.requires.apart c.loop-at.invariant.taken)

-- ---- the members of a MUTABLE structure

pub read_piece-returns-then-member : goal.read_piece-returns-then-member
read_piece-returns-then-member t c = rw packed_absent (c.if-member.true, refl)

pub read_piece-returns : goal.read_piece-returns
read_piece-returns t c =
    let v = c.in_ok-value in
    rw (packed_present v.value) (record {
      content = spot_of c.in-Some.content;
      end = spot_of v.end;
      piece = c.in-Some.ensures;
      value = v.ensures;
      filled = empty_is v.end.rest.now (sym c.is_empty.ensures ∙ c.if-not-is_empty.false);
    })

pub read_pieces-loop-at-init : goal.read_pieces-loop-at-init
read_pieces-loop-at-init t c =
    let none = c.reserve.ensures ∙ c.new-slots.ensures in
    rw none (record {
      taken = none_taken (members_shape c.args.members.now) c.requires.apart;
      left = pieces_first c.args.order (members_shape c.args.members.now) (spot_of c.args.ahead);
      sound = c.requires.sound;
    })

pub read_pieces-read_piece-requires : goal.read_pieces-read_piece-requires
read_pieces-read_piece-requires t c =
    let fine = sound_here c.args.members.now c.loop-at.at c.index-members-at.result c.loop-at.invariant.sound c.loop-at-test.true c.index-members-at.is in
    let guided = guide_here c.args.members.now c.args.guide.now c.part.result.now c.loop-at.at c.index-members-at.result c.requires.guide c.loop-at-test.true c.index-members-at.is c.part.ensures in
    let smaller = rw (← c.index-members-at.is) at (at_most member_laws.the_size c.args.members.now c.loop-at.at c.index-members-at.result c.loop-at-test.true) in
    search rules

pub read_pieces-loop-at-preserved : goal.read_pieces-loop-at-preserved
read_pieces-loop-at-preserved t c =
    let ms = c.args.members.now in
    let i = c.loop-at.at in
    let m = c.index-members-at.result in
    let ss = map packed_slot c.loop-at.slots in
    let b = packed_slot c.in_ok-slot.slot in
    let more : map packed_slot c.push.new.self ≡ ss ++ b ∷ [] = ap (λ xs. map packed_slot xs) c.in-Ok-push.ensures.ok ∙ map-append packed_slot c.loop-at.slots (c.in_ok-slot.slot ∷ []) in
    rw more (record {
      taken = piece_taken ms i m ss b c.args.order (spot_of c.loop-at.left) (spot_of c.in_ok-slot.behind) c.loop-at-test.true c.index-members-at.is c.loop-at.invariant.taken c.in_ok-slot.ensures;
      left = piece_left ms i m ss b c.args.order _ (spot_of c.loop-at.left) (spot_of c.in_ok-slot.behind) c.loop-at-test.true c.index-members-at.is c.loop-at.invariant.taken c.loop-at.invariant.left c.in_ok-slot.ensures;
      sound = sound_more ms i m c.loop-at.invariant.sound c.loop-at-test.true c.index-members-at.is;
    })

pub read_pieces-returns : goal.read_pieces-returns
read_pieces-returns t c =
    let left = c.loop-at.left in
    rw (packed_struct c.loop-at.slots) (pieces_end c.args.members.now c.loop-at.at (map packed_slot c.loop-at.slots) c.args.order (spot_of c.args.ahead) (spot_of left) c.loop-at-test.false c.requires.apart c.loop-at.invariant.taken c.loop-at.invariant.left (empty_is left.rest.now (sym c.is_empty.ensures ∙ c.if-not-is_empty.false)))

-- ---- structures by their extensibility

pub read_appendable-returns-in_ok-value-in-Xcdr1 : goal.read_appendable-returns-in_ok-value-in-Xcdr1
read_appendable-returns-in_ok-value-in-Xcdr1 t c =
    let v = c.in_ok-value-in-Xcdr1 in
    rw c.in-Xcdr1.is (appendable_in (members_shape c.args.members.now) c.args.order (packed_val v.value) (spot_of c.args.ahead) (spot_of v.behind) v.ensures)

pub read_appendable-returns-in_ok-value-in-Xcdr2 : goal.read_appendable-returns-in_ok-value-in-Xcdr2
read_appendable-returns-in_ok-value-in-Xcdr2 t c =
    let r = c.in_ok-inside-in-Xcdr2 in
    let v = c.in_ok-value-in-Xcdr2 in
    rw c.in-Xcdr2.is (appendable_of (members_shape c.args.members.now) c.args.order (packed_val v.value) (spot_of c.args.ahead) (spot_of r.inside) (spot_of r.after) (spot_of v.field-0-1) r.ensures v.ensures)

pub read_mutable-returns-in_ok-value-in-Xcdr2 : goal.read_mutable-returns-in_ok-value-in-Xcdr2
read_mutable-returns-in_ok-value-in-Xcdr2 t c =
    let r = c.in_ok-inside-in-Xcdr2 in
    let v = c.in_ok-value-in-Xcdr2 in
    rw c.in-Xcdr2.is (mutable_of (members_shape c.args.members.now) c.args.order (packed_val v.value) (spot_of c.args.ahead) (spot_of r.inside) (spot_of r.after) r.ensures v.ensures)

pub read_structure-returns-in_ok-value-in-Final : goal.read_structure-returns-in_ok-value-in-Final
read_structure-returns-in_ok-value-in-Final t c =
    let v = c.in_ok-value-in-Final in
    let ms = c.as_slice-members.result.now in
    struct_is c.args.rep c.args.kind.now Final ms c.args.order (packed_val v.value) (spot_of c.args.ahead) (spot_of v.behind) c.in-Final.is (sym c.as_slice-members.ensures) (final_is c.args.rep (members_shape ms) c.args.order (packed_val v.value) (spot_of c.args.ahead) (spot_of v.behind) v.ensures)

pub read_structure-returns-in_ok-value-in-Appendable : goal.read_structure-returns-in_ok-value-in-Appendable
read_structure-returns-in_ok-value-in-Appendable t c =
    let v = c.in_ok-value-in-Appendable in
    struct_is c.args.rep c.args.kind.now Appendable c.as_slice-members.result.now c.args.order (packed_val v.value) (spot_of c.args.ahead) (spot_of v.behind) c.in-Appendable.is (sym c.as_slice-members.ensures) v.ensures

pub read_structure-returns-in_ok-value-in-Mutable : goal.read_structure-returns-in_ok-value-in-Mutable
read_structure-returns-in_ok-value-in-Mutable t c =
    let v = c.in_ok-value-in-Mutable in
    struct_is c.args.rep c.args.kind.now Mutable c.as_slice-members.result.now c.args.order (packed_val v.value) (spot_of c.args.ahead) (spot_of v.behind) c.in-Mutable.is (sym c.as_slice-members.ensures) v.ensures

-- ---- unions

pub read_case-returns-in_default : goal.read_case-returns-in_default
read_case-returns-in_default t c =
    let none = rw (to_z-of_z w128 c.args.number (search rules)) at c.in_default.ensures.position in
    rw packed_absent (unions.no_case_is c.args.rep c.args.order (cases_shape c.args.cases.now) c.args.number (spot_of c.args.ahead) none)

pub read_case-read_body-requires : goal.read_case-read_body-requires
read_case-read_body-requires t c =
    let cs = c.args.cases.now in
    let case = c.index-cases-at.result in
    let within = c.in-Some.ensures.within in
    let fine = unions.case_sound cs c.in-Some.at case c.requires.sound within c.index-cases-at.is in
    let guided = unions.case_guided cs c.args.guide.now c.part.result.now c.in-Some.at case c.requires.guide within c.index-cases-at.is c.part.ensures in
    let smaller = rw (← c.index-cases-at.is) at (at_most case_laws.the_size cs c.in-Some.at case within) in
    search rules

pub read_case-returns : goal.read_case-returns
read_case-returns t c =
    let v = c.in_ok-value in
    let at = rw (to_z-of_z w128 c.args.number (search rules)) at c.in-Some.ensures.position in
    rw (packed_present v.value) (unions.case_is c.args.rep c.args.order c.args.cases.now c.args.number c.in-Some.at c.index-cases-at.result (packed_val v.value) (spot_of c.args.ahead) (spot_of v.behind) at c.index-cases-at.is v.ensures.some v.ensures.value)

pub read_region-returns-in_ok-value-in-Xcdr1 : goal.read_region-returns-in_ok-value-in-Xcdr1
read_region-returns-in_ok-value-in-Xcdr1 t c =
    let u = out-UnionType c.args.kind.now in
    let v = c.in_ok-value-in-Xcdr1 in
    rw c.in-Xcdr1.is (unions.appendable_in c.args.order u.disc_key (type_shape u.disc) (cases_shape u.cases) (packed_val v.value) (spot_of c.args.ahead) (spot_of v.behind) v.ensures)

pub read_region-returns-else-not-is_empty : goal.read_region-returns-else-not-is_empty
read_region-returns-else-not-is_empty t c =
    let u = out-UnionType c.args.kind.now in
    let r = c.in_ok-inside-in-Xcdr2 in
    let v = c.in_ok-value-in-Xcdr2 in
    rw c.in-Xcdr2.is (unions.appendable_of c.args.order u.disc_key (type_shape u.disc) (cases_shape u.cases) (packed_val v.value) (spot_of c.args.ahead) (spot_of r.inside) (spot_of r.after) (spot_of v.end) r.ensures v.ensures (empty_is v.end.rest.now (sym c.is_empty.ensures ∙ c.if-not-is_empty.false)))

pub read_union-returns-in_ok-value-in-Final : goal.read_union-returns-in_ok-value-in-Final
read_union-returns-in_ok-value-in-Final t c =
    let u = out-UnionType c.args.kind.now in
    let v = c.in_ok-value-in-Final in
    unions.union_is c.args.rep c.args.kind.now Final c.args.order (packed_val v.value) (spot_of c.args.ahead) (spot_of v.behind) c.in-Final.is (unions.final_is c.args.rep c.args.order u.disc_key (type_shape u.disc) (cases_shape u.cases) (packed_val v.value) (spot_of c.args.ahead) (spot_of v.behind) v.ensures)
