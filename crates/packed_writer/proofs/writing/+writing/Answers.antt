use Rattle.std.specs.Int.{w128}
use Rattle.std.proofs.lemmas.Int.{to_z-of_z}
use Rattle.std.proofs.Common.{◌≡◌, ◌∙◌, ◌-◌, rules, refl, sym, ap, ℕ, ◌+◌, ◌*◌, ◌^◌, map, drop, true, false, Bool, arith, cond, nat_lt, length, Option, Some, None}
use Rattle.xt_shapes.specs.declared.leaves.Order.TheVariants.{Little}
use Rattle.xt_shapes.specs.declared.leaves.Rep.TheVariants.{Xcdr1, Xcdr2}
use Rattle.xt_shapes.specs.Select as selects
use Rattle.xt_shapes.specs.Sizes.{enum_size, mask_size}
use Rattle.xt_shapes.specs.Vals.{Val, absent, present, items_in, slots_of, number_in}
use Rattle.xcdr_model.specs.FixedSpelling.{nothing, fixed, fixed1, fixed_of, then_fixed, number_fixed, headed_fixed, slot_fixed, piece_fixed, code_of, scalar_size, if_present_fixed, if_selected_fixed, scalar_fixed, end_fixed}
use Rattle.xcdr_model.specs.Numbers.{raw}
use Rattle.xcdr_model.specs.Xcdr2Reading.{is_primitive}
use Rattle.xcdr_model.specs.Xcdr2Spelling.{bit}
use Rattle.type_trees.specs.Bridge.{type_shape, members_shape, member_head}
use Rattle.type_trees.specs.Parts.{structure_parts, union_parts}
use Rattle.type_trees.specs.declared.types.EnumType.{EnumType}
use Rattle.type_trees.specs.declared.types.MaskType.{MaskType}
use Rattle.packed_reader.specs.View.{packed_val, packed_slot, numbers_of, own_numbers}
use Rattle.packed_reader.proofs.Views.{packed_absent, packed_present}
use Rattle.xcdr_writer.specs.Parts.{most_of, is_bare, slot_in, piece_in, members_of, pieces_of, case_of, items_fixed, counted_items, structure_fixed, selected_fixed, presence_fixed, is_short}
use Rattle.xcdr_writer.proofs.SizeSteps as steps
use Rattle.xcdr_writer.proofs.Chains.{no_piece, slot_parts}
use Rattle.xcdr_writer.proofs.ParamSteps.{plain_slot, optional_param}
use Rattle.packed_writer.proofs.Appending.{begins, onward, ends, two, last, none, same, some_as, some_counted, apart, short_param, long_param}
use Rattle.packed_writer.proofs.Values.{items_of_numbers, items_of_own, items_of_list, next_packed, no_more_packed, members_step, members_end, pieces_step, pieces_end, absent_slot}
use Rattle.packed_writer.proofs.writing.+writing.Goals as goal

-- ---- lists

pub write_each-loop-value-init : goal.write_each-loop-value-init
write_each-loop-value-init t c = begins _ _ c.args.out.now (λ p. refl)

pub write_each-loop-value-preserved : goal.write_each-loop-value-preserved
write_each-loop-value-preserved t c =
    let r = c.args.rep in
    let i = c.loop-value.value-index in
    let shape = type_shape c.args.ty.now in
    let v = c.value-item.result in
    let vs = c.args.values.now in
    onward (items_fixed r Little shape (map packed_val vs)) (items_fixed r Little shape (map packed_val (drop i vs))) (fixed_of r Little shape (packed_val v)) (items_fixed r Little shape (map packed_val (drop (i + 1) vs))) c.loop-value.invariant (ap (λ xs. items_fixed r Little shape xs) (next_packed vs i v c.loop-value-test.true c.value-item.is)) c.in_ok-write_value.ensures

pub write_each-returns : goal.write_each-returns
write_each-returns t c =
    let r = c.args.rep in
    let shape = type_shape c.args.ty.now in
    let vs = c.args.values.now in
    ends (items_fixed r Little shape (map packed_val vs)) (items_fixed r Little shape (map packed_val (drop c.loop-value.value-index vs))) c.loop-value.invariant (ap (λ xs. items_fixed r Little shape xs) (no_more_packed vs c.loop-value.value-index c.loop-value-test.false))

pub write_items-returns-in-Numbers : goal.write_items-returns-in-Numbers
write_items-returns-in-Numbers t c =
    let r = c.args.rep in
    let shape = type_shape c.args.ty.now in
    let x = c.in-Numbers.numbers in
    some_as c.write_run.result c.args.out.now c.write_run.new.out (items_fixed r Little shape (items_in (packed_val c.args.value.now))) (items_fixed r Little shape (numbers_of x)) (ap (λ v. items_fixed r Little shape (items_in (packed_val v))) c.in-Numbers.is ∙ ap (λ vs. items_fixed r Little shape vs) (items_of_numbers x)) c.write_run.ensures

pub write_items-returns-in-Own : goal.write_items-returns-in-Own
write_items-returns-in-Own t c =
    let r = c.args.rep in
    let shape = type_shape c.args.ty.now in
    let x = c.in-Own.own in
    some_as c.write_run-in-Own.result c.args.out.now c.write_run-in-Own.new.out (items_fixed r Little shape (items_in (packed_val c.args.value.now))) (items_fixed r Little shape (own_numbers x)) (ap (λ v. items_fixed r Little shape (items_in (packed_val v))) c.in-Own.is ∙ ap (λ vs. items_fixed r Little shape vs) (items_of_own x)) (rw c.lent.ensures at c.write_run-in-Own.ensures)

pub write_items-returns-in-List : goal.write_items-returns-in-List
write_items-returns-in-List t c =
    let r = c.args.rep in
    let shape = type_shape c.args.ty.now in
    let vs = c.in-List.values in
    some_as c.write_each.result c.args.out.now c.write_each.new.out (items_fixed r Little shape (items_in (packed_val c.args.value.now))) (items_fixed r Little shape (map packed_val vs)) (ap (λ v. items_fixed r Little shape (items_in (packed_val v))) c.in-List.is ∙ ap (λ xs. items_fixed r Little shape xs) (items_of_list vs)) (rw c.as_slice.ensures at c.write_each.ensures)

pub write_counted-returns : goal.write_counted-returns
write_counted-returns t c =
    let r = c.args.rep in
    let shape = type_shape c.args.ty.now in
    let vs = items_in (packed_val c.args.value.now) in
    last c.write_items.result c.write_items.new.out (counted_items r Little shape vs) (number_fixed 4 Little 4 c.in_ok-count_in.field-0) (items_fixed r Little shape vs) (steps.counted_parts Little (λ w. fixed_of r Little shape w) vs c.in_ok-count_in.field-0 c.in_ok-count_in.ensures) c.in_ok-put_count.ensures c.write_items.ensures

pub write_sequence-returns-then-are_bare : goal.write_sequence-returns-then-are_bare
write_sequence-returns-then-are_bare t c =
    let bare : is_bare c.args.rep (is_primitive (type_shape c.args.ty.now)) ≡ true = sym c.are_bare.ensures ∙ c.if-are_bare.true in
    rw bare c.write_counted.ensures

pub write_sequence-returns : goal.write_sequence-returns
write_sequence-returns t c =
    let r = c.args.rep in
    let shape = type_shape c.args.ty.now in
    let counted : is_bare r (is_primitive shape) ≡ false = sym c.are_bare.ensures ∙ c.if-are_bare.false in
    rw counted (some_counted c.count_from.result c.count_from.new.self (counted_items r Little shape (items_in (packed_val c.args.value.now))) c.len-begin.result c.len-begin.ensures c.in_ok-put_count.ensures c.in_ok-write_counted.ensures c.count_from.ensures)

pub write_array-returns-then-are_bare : goal.write_array-returns-then-are_bare
write_array-returns-then-are_bare t c =
    let bare : is_bare c.args.rep (is_primitive (type_shape c.args.ty.now)) ≡ true = sym c.are_bare.ensures ∙ c.if-are_bare.true in
    rw bare c.write_items.ensures

pub write_array-returns : goal.write_array-returns
write_array-returns t c =
    let r = c.args.rep in
    let shape = type_shape c.args.ty.now in
    let counted : is_bare r (is_primitive shape) ≡ false = sym c.are_bare.ensures ∙ c.if-are_bare.false in
    rw counted (some_counted c.count_from.result c.count_from.new.self (items_fixed r Little shape (items_in (packed_val c.args.value.now))) c.len-begin.result c.len-begin.ensures c.in_ok-put_count.ensures c.in_ok-write_items.ensures c.count_from.ensures)

-- ---- members in their places

pub write_present-returns-in-Absent : goal.write_present-returns-in-Absent
write_present-returns-in-Absent t c = rw (c.in-Absent.is, packed_absent) (none c.args.out.now)

pub write_present-returns-in-Present : goal.write_present-returns-in-Present
write_present-returns-in-Present t c = rw (c.in-Present.is, packed_present c.in-Present.value) c.write_value.ensures

pub write_apart-returns : goal.write_apart-returns
write_apart-returns t c =
    let slot = packed_slot c.args.slot.now in
    apart (if_present_fixed slot (λ (w : Val). fixed1 Little (type_shape c.args.ty.now) w)) c.restart-origin.ensures.rest c.in_ok-write_present.ensures (c.resume.ensures ∙ ap (λ (n : ℕ). record c.write_present.new.out { origin = n }) c.restart-origin.ensures.origin)

pub write_short_param-returns : goal.write_short_param-returns
write_short_param-returns t c =
    let h = member_head c.args.member.now in
    let xs = if_present_fixed (packed_slot c.args.slot.now) (λ (w : Val). fixed1 Little (type_shape c.args.member.now.ty) w) 0 in
    let n = c.saturating_sub.result in
    let told : n ≡ length c.write_apart.new.out.octets - c.len-begin.result = rw (← c.len.ensures) c.saturating_sub.ensures in
    let short : is_short h.id n ≡ true = sym c.is_short.ensures ∙ c.if-not-is_short.false in
    short_param c.short_count_from.result c.short_count_from.new.self h xs c.len-begin.result n c.len-begin.ensures told short (rw c.is_must.ensures at c.in_ok-put_short.ensures) c.in_ok-write_apart.ensures c.short_count_from.ensures

pub write_long_param-returns : goal.write_long_param-returns
write_long_param-returns t c =
    let h = member_head c.args.member.now in
    let xs = if_present_fixed (packed_slot c.args.slot.now) (λ (w : Val). fixed1 Little (type_shape c.args.member.now.ty) w) 0 in
    let n = c.saturating_sub.result in
    let told : n ≡ length c.write_apart.new.out.octets - c.len-begin.result = rw (← c.len.ensures) c.saturating_sub.ensures in
    let long : is_short h.id n ≡ false = sym c.is_short.ensures ∙ c.if-is_short.false in
    long_param c.count_from.result c.count_from.new.self h xs c.len-begin.result n c.len-begin.ensures told long (rw c.is_must.ensures at c.in_ok-put_long.ensures) c.in_ok-write_apart.ensures c.count_from.ensures

pub write_slot1-returns-then-member : goal.write_slot1-returns-then-member
write_slot1-returns-then-member t c =
    let m = c.args.member.now in
    some_as c.write_param.result c.args.out.now c.write_param.new.out _ _ (optional_param m.optional Little (member_head m) (λ (w : Val). fixed1 Little (type_shape m.ty) w) (packed_slot c.args.slot.now) c.if-member.true) c.write_param.ensures

pub write_slot1-returns : goal.write_slot1-returns
write_slot1-returns t c =
    let m = c.args.member.now in
    some_as c.write_present.result c.args.out.now c.write_present.new.out _ _ (plain_slot m.optional Little (member_head m) (λ (w : Val). fixed1 Little (type_shape m.ty) w) (packed_slot c.args.slot.now) c.if-member.false) c.write_present.ensures

pub write_slot2-returns-in-Absent : goal.write_slot2-returns-in-Absent
write_slot2-returns-in-Absent t c =
    let m = c.args.member.now in
    rw (c.in-Absent.is, packed_absent) (some_as c.put_presence.result c.args.out.now c.put_presence.new.out _ _ (absent_slot m.optional Little (λ (w : Val). fixed Little (type_shape m.ty) w)) c.put_presence.ensures)

pub write_slot2-returns-in_ok-put_presence-in-Present : goal.write_slot2-returns-in_ok-put_presence-in-Present
write_slot2-returns-in_ok-put_presence-in-Present t c =
    let m = c.args.member.now in
    let v = packed_val c.in-Present.value in
    let f = λ (w : Val). fixed Little (type_shape m.ty) w in
    rw (c.in-Present.is, packed_present c.in-Present.value) (last c.write_value.result c.write_value.new.out (slot_fixed m.optional Little f (present v)) (presence_fixed Little m.optional true) (f v) (slot_parts m.optional Little f (present v) true refl) c.in_ok-put_presence-in-Present.ensures c.write_value.ensures)

pub write_members-loop-at-init : goal.write_members-loop-at-init
write_members-loop-at-init t c = begins _ _ c.args.out.now (λ p. refl)

pub write_members-loop-at-preserved : goal.write_members-loop-at-preserved
write_members-loop-at-preserved t c =
    let r = c.args.rep in
    let i = c.loop-at.at in
    let m = c.index-members-at.result in
    let s = c.index-slots-at.result in
    let ms = c.args.members.now in
    let ss = c.args.slots.now in
    onward (members_of r Little (members_shape ms) (slots_of (map packed_slot ss))) (members_of r Little (members_shape (drop i ms)) (slots_of (map packed_slot (drop i ss)))) (slot_in r Little (member_head m) (λ (w : Val). fixed_of r Little (type_shape m.ty) w) (packed_slot s)) (members_of r Little (members_shape (drop (i + 1) ms)) (slots_of (map packed_slot (drop (i + 1) ss)))) c.loop-at.invariant (members_step r Little ms ss i m s c.loop-at-test.true c.index-members-at.is (omega (arith, c.if-at-slots.false)) c.index-slots-at.is) c.in_ok-write_slot.ensures

pub write_members-returns : goal.write_members-returns
write_members-returns t c =
    let r = c.args.rep in
    let ms = c.args.members.now in
    let ss = c.args.slots.now in
    ends (members_of r Little (members_shape ms) (slots_of (map packed_slot ss))) (members_of r Little (members_shape (drop c.loop-at.at ms)) (slots_of (map packed_slot (drop c.loop-at.at ss)))) c.loop-at.invariant (members_end r Little ms ss c.loop-at.at c.loop-at-test.false)

-- ---- members behind their headers

pub write_content-returns : goal.write_content-returns
write_content-returns t c =
    let long : nat_lt c.args.code 4 ≡ false = steps.not_below c.args.code 4 c.if-code-lt4.false in
    rw long (some_counted c.count_from.result c.count_from.new.self (fixed Little (type_shape c.args.ty.now) (packed_val c.args.value.now)) c.len-begin.result c.len-begin.ensures c.in_ok-put_count.ensures c.in_ok-write_value.ensures c.count_from.ensures)

pub write_present_piece-returns : goal.write_present_piece-returns
write_present_piece-returns t c =
    let m = c.args.member.now in
    let h = member_head m in
    let v = packed_val c.args.value.now in
    let shape = type_shape m.ty in
    let code = code_of (scalar_size shape) in
    let coded : c.length_code-code.result ≡ code = c.length_code-code.ensures.code ∙ ap code_of c.scalar_size.ensures.size in
    let n = bit (selects.is_must h) * 2 ^ 31 + code * 2 ^ 28 + m.id in
    let header : c.header_of.result ≡ n = c.header_of.ensures ∙ ap (λ (b : Bool). bit b * 2 ^ 31 + c.length_code-code.result * 2 ^ 28 + m.id) c.is_must.ensures ∙ ap (λ (k : ℕ). bit (selects.is_must h) * 2 ^ 31 + k * 2 ^ 28 + m.id) coded in
    let content = λ (j : ℕ). cond (nat_lt j 4) (fixed Little shape v) (headed_fixed Little (fixed Little shape v)) in
    let whole = piece_fixed Little h code (λ w. fixed Little shape w) (present v) in
    let parts = λ (p : ℕ). steps.piece_parts Little h code (λ w. fixed Little shape w) v p ∙ ap (λ (k : ℕ). then_fixed (number_fixed 4 Little 4 k) (content code) p) (sym header) ∙ ap (λ (j : ℕ). then_fixed (number_fixed 4 Little 4 c.header_of.result) (content j) p) (sym coded) in
    last c.write_content.result c.write_content.new.out whole (number_fixed 4 Little 4 c.header_of.result) (content c.length_code-code.result) parts c.in_ok-number.ensures c.write_content.ensures

pub write_piece1-returns-in-Absent : goal.write_piece1-returns-in-Absent
write_piece1-returns-in-Absent t c = rw (c.in-Absent.is, packed_absent) (none c.args.out.now)

pub write_piece1-returns-in-Present : goal.write_piece1-returns-in-Present
write_piece1-returns-in-Present t c = rw (c.in-Present.is, packed_present c.in-Present.field-0) (rw (c.in-Present.is, packed_present c.in-Present.field-0) at c.write_param.ensures)

pub write_piece2-returns-in-Absent : goal.write_piece2-returns-in-Absent
write_piece2-returns-in-Absent t c =
    let m = c.args.member.now in
    let f = λ (w : Val). fixed Little (type_shape m.ty) w in
    let code = code_of (scalar_size (type_shape m.ty)) in
    rw (c.in-Absent.is, packed_absent) (same (piece_fixed Little (member_head m) code f absent) nothing (λ p. no_piece Little (member_head m) code f p) (none c.args.out.now))

pub write_piece2-returns-in-Present : goal.write_piece2-returns-in-Present
write_piece2-returns-in-Present t c = rw (c.in-Present.is, packed_present c.in-Present.value) c.write_present_piece.ensures

pub write_pieces-loop-at-init : goal.write_pieces-loop-at-init
write_pieces-loop-at-init t c = begins _ _ c.args.out.now (λ p. refl)

pub write_pieces-loop-at-preserved : goal.write_pieces-loop-at-preserved
write_pieces-loop-at-preserved t c =
    let r = c.args.rep in
    let i = c.loop-at.at in
    let m = c.index-members-at.result in
    let s = c.index-slots-at.result in
    let ms = c.args.members.now in
    let ss = c.args.slots.now in
    onward (pieces_of r Little (members_shape ms) (slots_of (map packed_slot ss))) (pieces_of r Little (members_shape (drop i ms)) (slots_of (map packed_slot (drop i ss)))) (piece_in r Little (member_head m) (scalar_size (type_shape m.ty)) (λ (w : Val). fixed_of r Little (type_shape m.ty) w) (packed_slot s)) (pieces_of r Little (members_shape (drop (i + 1) ms)) (slots_of (map packed_slot (drop (i + 1) ss)))) c.loop-at.invariant (pieces_step r Little ms ss i m s c.loop-at-test.true c.index-members-at.is (omega (arith, c.if-at-slots.false)) c.index-slots-at.is) c.in_ok-write_piece.ensures

pub write_pieces-returns : goal.write_pieces-returns
write_pieces-returns t c =
    let r = c.args.rep in
    let ms = c.args.members.now in
    let ss = c.args.slots.now in
    ends (pieces_of r Little (members_shape ms) (slots_of (map packed_slot ss))) (pieces_of r Little (members_shape (drop c.loop-at.at ms)) (slots_of (map packed_slot (drop c.loop-at.at ss)))) c.loop-at.invariant (pieces_end r Little ms ss c.loop-at.at c.loop-at-test.false)

-- ---- structures

pub write_appendable-returns : goal.write_appendable-returns
write_appendable-returns t c =
    let r = c.args.rep in
    let counted : is_bare r false ≡ false = sym c.is_bare.ensures ∙ c.if-is_bare.false in
    let ms = members_shape c.args.members.now in
    let ss = slots_of (map packed_slot c.args.slots.now) in
    rw counted (some_counted c.count_from.result c.count_from.new.self (members_of r Little ms ss) c.len-begin.result c.len-begin.ensures c.in_ok-put_count.ensures c.in_ok-write_members.ensures c.count_from.ensures)

pub write_headed-returns : goal.write_headed-returns
write_headed-returns t c =
    let ms = members_shape c.args.members.now in
    let ss = slots_of (map packed_slot c.args.slots.now) in
    some_counted c.count_from.result c.count_from.new.self (pieces_of Xcdr2 Little ms ss) c.len-begin.result c.len-begin.ensures c.in_ok-put_count.ensures c.in_ok-write_pieces.ensures c.count_from.ensures

pub write_params-returns : goal.write_params-returns
write_params-returns t c =
    let ms = members_shape c.args.members.now in
    let ss = slots_of (map packed_slot c.args.slots.now) in
    last c.put_end.result c.put_end.new.out (then_fixed (pieces_of Xcdr1 Little ms ss) (end_fixed Little)) (pieces_of Xcdr1 Little ms ss) (end_fixed Little) (λ p. refl) c.in_ok-write_pieces.ensures c.put_end.ensures

-- ---- unions

pub write_case-loop-case-init : goal.write_case-loop-case-init
write_case-loop-case-init t c = (refl, refl)

pub write_case-loop-case-preserved : goal.write_case-loop-case-preserved
write_case-loop-case-preserved t c =
    (sym (steps.case_next c.args.rep Little c.args.cases.now c.loop-case.case-index c.args.id c.case-item.result (present (packed_val c.args.value.now)) c.loop-case-test.true c.case-item.is c.if-case-id.false) ∙ c.loop-case.invariant.0, c.loop-case.invariant.1)

pub write_case-returns-then-case-id : goal.write_case-returns-then-case-id
write_case-returns-then-case-id t c =
    let s = present (packed_val c.args.value.now) in
    some_as c.write_value.result c.args.out.now c.write_value.new.out _ _ (sym c.loop-case.invariant.0 ∙ steps.case_here c.args.rep Little c.args.cases.now c.loop-case.case-index c.args.id c.case-item.result s c.loop-case-test.true c.case-item.is c.if-case-id.true) (rw c.loop-case.invariant.1 at c.write_value.ensures)

pub write_selected-returns-in-None-Absent : goal.write_selected-returns-in-None-Absent
write_selected-returns-in-None-Absent t c =
    let r = c.args.rep in
    let parts = union_parts c.args.kind.now in
    let u = c.args.union.now in
    let begun = rw (to_z-of_z w128 u.disc (search rules)) at c.in_ok-write_disc.ensures in
    let selected = λ (k : Option ℕ). if_selected_fixed k (λ j. case_of r Little parts.3 j (packed_slot u.body)) in
    let none_selected : selects.select parts.3 u.disc ≡ None = search rules in
    two (scalar_fixed (most_of r) Little parts.2 u.disc) (selected (selects.select parts.3 u.disc)) begun (same (selected (selects.select parts.3 u.disc)) nothing (λ p. ap (λ k. selected k p) none_selected) (none c.write_disc.new.out))

pub write_selected-returns-in-Some-Present : goal.write_selected-returns-in-Some-Present
write_selected-returns-in-Some-Present t c =
    let r = c.args.rep in
    let parts = union_parts c.args.kind.now in
    let u = c.args.union.now in
    let begun = rw (to_z-of_z w128 u.disc (search rules)) at c.in_ok-write_disc.ensures in
    let id = c.in-Some-Present.id in
    let v = packed_val c.in-Some-Present.value in
    let selected = λ (k : Option ℕ). if_selected_fixed k (λ j. case_of r Little parts.3 j (packed_slot u.body)) in
    let this_selected : selects.select parts.3 u.disc ≡ Some id = search rules in
    let there : packed_slot u.body ≡ present v = ap packed_slot c.in-Some-Present.is-1 ∙ packed_present c.in-Some-Present.value in
    let spelled : selected (selects.select parts.3 u.disc) ≡ case_of r Little parts.3 id (present v) = ap selected this_selected ∙ ap (λ s. case_of r Little parts.3 id s) there in
    let written = some_as c.write_case.result c.write_disc.new.out c.write_case.new.out _ _ spelled (rw c.as_slice-cases.ensures at c.write_case.ensures) in
    last c.write_case.result c.write_case.new.out (selected_fixed r Little parts.2 parts.3 u.disc (packed_slot u.body)) (scalar_fixed (most_of r) Little parts.2 u.disc) (selected (selects.select parts.3 u.disc)) (λ p. refl) begun written

pub write_appendable_union-returns : goal.write_appendable_union-returns
write_appendable_union-returns t c =
    let r = c.args.rep in
    let counted : is_bare r false ≡ false = sym c.is_bare.ensures ∙ c.if-is_bare.false in
    let parts = union_parts c.args.kind.now in
    let u = c.args.union.now in
    rw counted (some_counted c.count_from.result c.count_from.new.self (selected_fixed r Little parts.2 parts.3 u.disc (packed_slot u.body)) c.len-begin.result c.len-begin.ensures c.in_ok-put_count.ensures c.in_ok-write_selected.ensures c.count_from.ensures)

-- ---- values

pub write_value-returns-in-Str : goal.write_value-returns-in-Str
write_value-returns-in-Str t c = some_as c.write_text.result c.args.out.now c.write_text.new.out _ _ (steps.spelled_str c.args.rep Little c.args.ty.now c.in-Str.field-0 (packed_val c.args.value.now) c.in-Str.is) c.write_text.ensures

pub write_value-returns-in-Seq : goal.write_value-returns-in-Seq
write_value-returns-in-Seq t c = some_as c.write_sequence.result c.args.out.now c.write_sequence.new.out _ _ (steps.spelled_seq c.args.rep Little c.args.ty.now c.in-Seq.kind (packed_val c.args.value.now) c.in-Seq.is) (rw c.deref-in-Seq.ensures at c.write_sequence.ensures)

pub write_value-returns-in-Array : goal.write_value-returns-in-Array
write_value-returns-in-Array t c = some_as c.write_array.result c.args.out.now c.write_array.new.out _ _ (steps.spelled_array c.args.rep Little c.args.ty.now c.in-Array.kind (packed_val c.args.value.now) c.in-Array.is) (rw c.deref-in-Array.ensures at c.write_array.ensures)

pub write_fields-returns : goal.write_fields-returns
write_fields-returns t c =
    let parts = structure_parts c.args.kind.now in
    some_as c.write_structure.result c.args.out.now c.write_structure.new.out _ _ (ap (λ ss. structure_fixed c.args.rep Little parts.0 parts.1 ss) (sym c.in-Some.ensures)) c.write_structure.ensures

pub write_value-returns-in-Struct : goal.write_value-returns-in-Struct
write_value-returns-in-Struct t c = some_as c.write_fields.result c.args.out.now c.write_fields.new.out _ _ (steps.spelled_struct c.args.rep Little c.args.ty.now c.in-Struct.kind (packed_val c.args.value.now) c.in-Struct.is) (rw c.deref-in-Struct.ensures at c.write_fields.ensures)

pub write_value-returns-in-Prim : goal.write_value-returns-in-Prim
write_value-returns-in-Prim t c = some_as c.write_scalar.result c.args.out.now c.write_scalar.new.out _ _ (steps.spelled_prim c.args.rep Little c.args.ty.now c.in-Prim.prim (packed_val c.args.value.now) c.in-Prim.is ∙ ap (λ (k : ℕ). number_fixed (most_of c.args.rep) Little k (raw k (number_in (packed_val c.args.value.now)))) (sym c.prim_size.ensures.size)) c.write_scalar.ensures

pub write_value-returns-in-Enum : goal.write_value-returns-in-Enum
write_value-returns-in-Enum t c = some_as c.write_scalar-in-Enum.result c.args.out.now c.write_scalar-in-Enum.new.out _ _ (steps.spelled_enum c.args.rep Little c.args.ty.now c.in-Enum.kind (packed_val c.args.value.now) c.in-Enum.is ∙ ap (λ (k : ℕ). number_fixed (most_of c.args.rep) Little k (raw k (number_in (packed_val c.args.value.now)))) (sym (c.enum_size.ensures.size ∙ ap (λ (k : EnumType). enum_size k.bits) c.deref.ensures))) c.write_scalar-in-Enum.ensures

pub write_value-returns-in-Mask : goal.write_value-returns-in-Mask
write_value-returns-in-Mask t c = some_as c.write_scalar-in-Mask.result c.args.out.now c.write_scalar-in-Mask.new.out _ _ (steps.spelled_mask c.args.rep Little c.args.ty.now c.in-Mask.kind (packed_val c.args.value.now) c.in-Mask.is ∙ ap (λ (k : ℕ). number_fixed (most_of c.args.rep) Little k (raw k (number_in (packed_val c.args.value.now)))) (sym (c.mask_size.ensures.size ∙ ap (λ (k : MaskType). mask_size k.bits) c.deref-in-Mask.ensures))) c.write_scalar-in-Mask.ensures

pub write_value-returns-in-Union : goal.write_value-returns-in-Union
write_value-returns-in-Union t c = some_as c.write_union.result c.args.out.now c.write_union.new.out _ _ (steps.spelled_union c.args.rep Little c.args.ty.now c.in-Union.kind (packed_val c.args.value.now) c.in-Union.is) (rw c.deref-in-Union.ensures at c.write_union.ensures)
