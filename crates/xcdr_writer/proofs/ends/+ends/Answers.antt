use Rattle.std.proofs.Common.{rules, ◌≡◌, ◌∙◌, sym, ap, ℕ, ◌+◌, map, drop, min, Some, None, length, Bool, false, ◌&&◌}
use Rattle.std.proofs.Math.Nat.{min_comm}
use Rattle.std.proofs.lemmas.List.{length-map}
use Rattle.std.specs.Option.{option_map}
use Rattle.xt_shapes.specs.declared.leaves.Order.TheVariants.{Little}
use Rattle.xt_shapes.specs.Vals.{Val, Slot, first, disc_in, body_in, number_in}
use Rattle.xt_shapes.specs.Select.{select}
use Rattle.type_trees.specs.Parts.{structure_parts, union_parts}
use Rattle.xt_shapes.specs.Sizes.{size, enum_size, mask_size}
use Rattle.xcdr_model.specs.Numbers.{raw}
use Rattle.xcdr_model.specs.FixedSpelling.{Fixed, fixed, fixed1, fixed_of, then_fixed, number_fixed, end_fixed, code_of, scalar_size, params_fixed, pieces_fixed, if_present_fixed}
use Rattle.xcdr_model.specs.Xcdr2Reading.{is_primitive}
use Rattle.type_trees.specs.Bridge.{type_shape, members_shape, member_head}
use Rattle.type_trees.specs.View.{val, pair_val, slots_val}
use Rattle.value_writer.specs.Places.{end_of, number_end, run_end}
use Rattle.value_writer.specs.Slots.{slot_of}
use Rattle.value_writer.specs.Runs.{run_fixed}
use Rattle.value_writer.proofs.Ends.{end_of_then, end_of_number, end_of_headed, end_of_nothing}
use Rattle.value_writer.proofs.RunSteps.{end_of_run}
use Rattle.value_writer.proofs.Parts.{next_val, no_more_vals}
use Rattle.xcdr_writer.specs.Parts.{most_of, is_bare, slot_in, piece_in, members_of, pieces_of, case_of, items_fixed, counted_items, entry_fixed, entries_fixed, counted_entries, selected_fixed, delimiter_end, header_end}
use Rattle.xcdr_writer.proofs.ParamSteps.{ends_at_length, end_of_param, optional_param, plain_slot, end_of_end}
use Rattle.xcdr_writer.proofs.SizeSteps.{end_of_slot}
use Rattle.xt_wire.specs.numbers.Units.{IsUnit}
use Rattle.xcdr_writer.proofs.SizeSteps as steps
use Rattle.xcdr_writer.proofs.ends.+ends.Goals as goal

pub end_of_each-loop-value-init : goal.end_of_each-loop-value-init
end_of_each-loop-value-init t c = (steps.capped_start _ c.args.place c.min-end.result c.min-end.ensures, steps.capped_min c.args.place c.min-end.result c.min-end.ensures)

pub end_of_each-loop-value-preserved : goal.end_of_each-loop-value-preserved
end_of_each-loop-value-preserved t c =
    let i = c.loop-value.value-index in
    let shape = type_shape c.args.ty.now in
    let v = val c.value-item.result in
    let more = map val (drop (i + 1) c.args.values.now) in (
      steps.step_end (fixed_of c.args.rep Little shape v) (items_fixed c.args.rep Little shape more) (items_fixed c.args.rep Little shape (map val (drop i c.args.values.now))) c.loop-value.end c.end_of_value-end.result _ (ap (λ vs. items_fixed c.args.rep Little shape vs) (next_val c.args.values.now i c.value-item.result c.loop-value-test.true c.value-item.is)) c.end_of_value-end.ensures c.loop-value.invariant.0,
      steps.capped_end (fixed_of c.args.rep Little shape v) c.loop-value.end c.end_of_value-end.result c.end_of_value-end.ensures,
    )

pub end_of_each-returns : goal.end_of_each-returns
end_of_each-returns t c =
    let shape = type_shape c.args.ty.now in
    steps.last_end (items_fixed c.args.rep Little shape (map val (drop c.loop-value.value-index c.args.values.now))) c.loop-value.end _ (ap (λ vs. items_fixed c.args.rep Little shape vs) (no_more_vals c.args.values.now c.loop-value.value-index c.loop-value-test.false)) c.loop-value.invariant.0 c.loop-value.invariant.1

pub end_of_items-returns-in-Some : goal.end_of_items-returns-in-Some
end_of_items-returns-in-Some t c =
    let r = c.args.rep in
    let shape = type_shape c.args.ty.now in
    let ws = map val c.args.values.now in
    let most : IsUnit (most_of r) = rw (← c.most_of.ensures.most) c.most_of.ensures.unit in
    let run : run_end c.most_of.result c.prim_size.result (length c.args.values.now) c.args.place ≡ end_of (run_fixed (most_of r) Little (size c.in-Some.prim) ws) c.args.place = rw (c.most_of.ensures.most, c.prim_size.ensures.size, ← length-map c.args.values.now val) (sym (end_of_run (most_of r) Little (size c.in-Some.prim) ws c.args.place most (rw (← c.prim_size.ensures.size) c.prim_size.ensures.unit))) in
    c.end_of_run.ensures ∙ run ∙ ap (λ (f : Fixed). end_of f c.args.place) (sym (steps.items_are r Little shape c.in-Some.prim ws (sym c.in-Some.ensures)))

pub end_of_entries-loop-entry-init : goal.end_of_entries-loop-entry-init
end_of_entries-loop-entry-init t c = (steps.capped_start _ c.args.place c.min-end.result c.min-end.ensures, steps.capped_min c.args.place c.min-end.result c.min-end.ensures)

pub end_of_entries-loop-entry-preserved : goal.end_of_entries-loop-entry-preserved
end_of_entries-loop-entry-preserved t c =
    let i = c.loop-entry.entry-index in
    let key = type_shape c.args.kind.now.key.ty in
    let value = type_shape c.args.kind.now.value.ty in
    let e = c.entry-item.result in
    let more = map pair_val (drop (i + 1) c.args.entries.now) in
    let f = then_fixed (fixed_of c.args.rep Little key (val e.key)) (fixed_of c.args.rep Little value (val e.value)) in
    let whole : c.end_of_value-end.result ≡ end_of f c.loop-entry.end = c.end_of_value-end.ensures ∙ ap (λ (q : ℕ). end_of (fixed_of c.args.rep Little value (val e.value)) q) c.end_of_value-key_end.ensures ∙ sym (end_of_then (fixed_of c.args.rep Little key (val e.key)) (fixed_of c.args.rep Little value (val e.value)) c.loop-entry.end) in (
      steps.step_end f (entries_fixed c.args.rep Little key value more) (entries_fixed c.args.rep Little key value (map pair_val (drop i c.args.entries.now))) c.loop-entry.end c.end_of_value-end.result _ (ap (λ es. entries_fixed c.args.rep Little key value es) (steps.next_entry c.args.entries.now i e c.loop-entry-test.true c.entry-item.is)) whole c.loop-entry.invariant.0,
      steps.capped_end f c.loop-entry.end c.end_of_value-end.result whole,
    )

pub end_of_entries-returns : goal.end_of_entries-returns
end_of_entries-returns t c =
    let key = type_shape c.args.kind.now.key.ty in
    let value = type_shape c.args.kind.now.value.ty in
    steps.last_end (entries_fixed c.args.rep Little key value (map pair_val (drop c.loop-entry.entry-index c.args.entries.now))) c.loop-entry.end _ (ap (λ es. entries_fixed c.args.rep Little key value es) (steps.no_more_entries c.args.entries.now c.loop-entry.entry-index c.loop-entry-test.false)) c.loop-entry.invariant.0 c.loop-entry.invariant.1

pub end_of_members-loop-at-init : goal.end_of_members-loop-at-init
end_of_members-loop-at-init t c = (steps.capped_start _ c.args.place c.min-end.result c.min-end.ensures, steps.capped_min c.args.place c.min-end.result c.min-end.ensures)

pub end_of_members-loop-at-preserved : goal.end_of_members-loop-at-preserved
end_of_members-loop-at-preserved t c =
    let i = c.loop-at.at in
    let m = c.index-members-at.result in
    let ms = c.args.members.now in
    let ss = c.args.slots.now in
    let f = slot_in c.args.rep Little (member_head m) (λ w. fixed_of c.args.rep Little (type_shape m.ty) w) (first (slots_val (drop i ss))) in
    let whole : c.end_of_slot-end.result ≡ end_of f c.loop-at.end = c.end_of_slot-end.ensures ∙ ap (λ (s : Slot). end_of (slot_in c.args.rep Little (member_head m) (λ w. fixed_of c.args.rep Little (type_shape m.ty) w) s) c.loop-at.end) c.slot_at.ensures in (
      steps.step_end f (members_of c.args.rep Little (members_shape (drop (i + 1) ms)) (slots_val (drop (i + 1) ss))) (members_of c.args.rep Little (members_shape (drop i ms)) (slots_val (drop i ss))) c.loop-at.end c.end_of_slot-end.result _ (steps.members_step c.args.rep Little ms ss i m c.loop-at-test.true c.index-members-at.is) whole c.loop-at.invariant.0,
      steps.capped_end f c.loop-at.end c.end_of_slot-end.result whole,
    )

pub end_of_members-returns : goal.end_of_members-returns
end_of_members-returns t c =
    steps.last_end (members_of c.args.rep Little (members_shape (drop c.loop-at.at c.args.members.now)) (slots_val (drop c.loop-at.at c.args.slots.now))) c.loop-at.end _ (steps.members_end c.args.rep Little c.args.members.now c.args.slots.now c.loop-at.at c.loop-at-test.false) c.loop-at.invariant.0 c.loop-at.invariant.1

pub end_of_pieces-loop-at-init : goal.end_of_pieces-loop-at-init
end_of_pieces-loop-at-init t c = (steps.capped_start _ c.args.place c.min-end.result c.min-end.ensures, steps.capped_min c.args.place c.min-end.result c.min-end.ensures)

pub end_of_pieces-loop-at-preserved : goal.end_of_pieces-loop-at-preserved
end_of_pieces-loop-at-preserved t c =
    let i = c.loop-at.at in
    let m = c.index-members-at.result in
    let ms = c.args.members.now in
    let ss = c.args.slots.now in
    let f = piece_in c.args.rep Little (member_head m) (scalar_size (type_shape m.ty)) (λ w. fixed_of c.args.rep Little (type_shape m.ty) w) (first (slots_val (drop i ss))) in
    let whole : c.end_of_piece-end.result ≡ end_of f c.loop-at.end = c.end_of_piece-end.ensures ∙ ap (λ (s : Slot). end_of (piece_in c.args.rep Little (member_head m) (scalar_size (type_shape m.ty)) (λ w. fixed_of c.args.rep Little (type_shape m.ty) w) s) c.loop-at.end) c.slot_at.ensures in (
      steps.step_end f (pieces_of c.args.rep Little (members_shape (drop (i + 1) ms)) (slots_val (drop (i + 1) ss))) (pieces_of c.args.rep Little (members_shape (drop i ms)) (slots_val (drop i ss))) c.loop-at.end c.end_of_piece-end.result _ (steps.pieces_step c.args.rep Little ms ss i m c.loop-at-test.true c.index-members-at.is) whole c.loop-at.invariant.0,
      steps.capped_end f c.loop-at.end c.end_of_piece-end.result whole,
    )

pub end_of_pieces-returns : goal.end_of_pieces-returns
end_of_pieces-returns t c =
    steps.last_end (pieces_of c.args.rep Little (members_shape (drop c.loop-at.at c.args.members.now)) (slots_val (drop c.loop-at.at c.args.slots.now))) c.loop-at.end _ (steps.pieces_end c.args.rep Little c.args.members.now c.args.slots.now c.loop-at.at c.loop-at-test.false) c.loop-at.invariant.0 c.loop-at.invariant.1

pub end_of_param-returns : goal.end_of_param-returns
end_of_param-returns t c =
    let m = c.args.member.now in
    let slot = slot_of (option_map (λ v. val v.now) c.args.slot) in
    let f = λ (w : Val). fixed1 Little (type_shape m.ty) w in
    let content = if_present_fixed slot f 0 in
    let len : c.end_of_present-length.result ≡ min 4294967296 (length content) = ends_at_length (if_present_fixed slot f) c.end_of_present-length.result c.end_of_present-length.ensures in
    c.end_of_octets.ensures ∙ ap (λ (q : ℕ). min 4294967296 (q + c.end_of_present-length.result)) c.end_of_param_header.ensures ∙ end_of_param Little (member_head m) content c.end_of_present-length.result c.args.place len

pub end_of_slot1-returns-then-member : goal.end_of_slot1-returns-then-member
end_of_slot1-returns-then-member t c =
    let m = c.args.member.now in
    let slot = slot_of (option_map (λ v. val v.now) c.args.slot) in
    let f = λ (w : Val). fixed1 Little (type_shape m.ty) w in
    c.end_of_param.ensures ∙ ap (λ (k : Fixed). end_of k c.args.place) (sym (optional_param m.optional Little (member_head m) f slot c.if-member.true))

pub end_of_slot1-returns-else-member : goal.end_of_slot1-returns-else-member
end_of_slot1-returns-else-member t c =
    let m = c.args.member.now in
    let slot = slot_of (option_map (λ v. val v.now) c.args.slot) in
    let f = λ (w : Val). fixed1 Little (type_shape m.ty) w in
    c.end_of_present.ensures ∙ ap (λ (k : Fixed). end_of k c.args.place) (sym (plain_slot m.optional Little (member_head m) f slot c.if-member.false))

pub end_of_slot2-returns : goal.end_of_slot2-returns
end_of_slot2-returns t c =
    let m = c.args.member.now in
    let slot = slot_of (option_map (λ v. val v.now) c.args.slot) in
    let f = λ (w : Val). fixed Little (type_shape m.ty) w in
    c.end_of_present.ensures ∙ ap (λ (q : ℕ). end_of (if_present_fixed slot f) q) c.end_of_presence.ensures ∙ sym (end_of_slot m.optional Little f slot c.args.place)

pub end_of_piece1-returns-in-None : goal.end_of_piece1-returns-in-None
end_of_piece1-returns-in-None t c = rw c.in-None.is (c.min.ensures ∙ min_comm _ _ ∙ sym (end_of_nothing c.args.place))

pub end_of_piece2-returns-in-None : goal.end_of_piece2-returns-in-None
end_of_piece2-returns-in-None t c = rw c.in-None.is (c.min.ensures ∙ min_comm _ _ ∙ sym (steps.end_of_no_piece Little (member_head c.args.member.now) (code_of (scalar_size (type_shape c.args.member.now.ty))) (λ w. fixed Little (type_shape c.args.member.now.ty) w) c.args.place))

pub end_of_piece2-returns-in-Some : goal.end_of_piece2-returns-in-Some
end_of_piece2-returns-in-Some t c =
    let shape = type_shape c.args.member.now.ty in
    let v = val c.in-Some.value.now in
    let code : c.length_code-code.result ≡ code_of (scalar_size shape) = c.length_code-code.ensures.code ∙ ap code_of c.scalar_size.ensures.size in
    rw c.in-Some.is (c.end_of_value.ensures ∙ ap (λ (q : ℕ). end_of (fixed Little shape v) q) (c.end_of_header.ensures ∙ ap (λ (k : ℕ). header_end k c.args.place) code) ∙ sym (steps.end_of_piece Little (member_head c.args.member.now) (code_of (scalar_size shape)) (λ w. fixed Little shape w) v c.args.place))

pub end_of_present-returns-in-None : goal.end_of_present-returns-in-None
end_of_present-returns-in-None t c = rw c.in-None.is (c.min.ensures ∙ min_comm _ _ ∙ sym (end_of_nothing c.args.place))

pub end_of_case-returns-then-case-id : goal.end_of_case-returns-then-case-id
end_of_case-returns-then-case-id t c = c.end_of_present.ensures ∙ ap (λ (f : Fixed). end_of f c.args.place) (sym (steps.case_here c.args.rep Little c.args.cases.now c.loop-case.case-index c.args.id c.case-item.result _ c.loop-case-test.true c.case-item.is c.if-case-id.true) ∙ c.loop-case.invariant)

pub end_of_case-loop-case-preserved : goal.end_of_case-loop-case-preserved
end_of_case-loop-case-preserved t c = sym (steps.case_next c.args.rep Little c.args.cases.now c.loop-case.case-index c.args.id c.case-item.result (slot_of (option_map (λ v. val v.now) c.args.body)) c.loop-case-test.true c.case-item.is c.if-case-id.false) ∙ c.loop-case.invariant

pub end_of_case-returns : goal.end_of_case-returns
end_of_case-returns t c = c.min.ensures ∙ min_comm _ _ ∙ sym (end_of_nothing c.args.place) ∙ ap (λ (f : Fixed). end_of f c.args.place) (sym (steps.case_none c.args.rep Little c.args.cases.now c.loop-case.case-index c.args.id (slot_of (option_map (λ v. val v.now) c.args.body)) c.loop-case-test.false) ∙ c.loop-case.invariant)

pub end_of_selected-returns-in-None : goal.end_of_selected-returns-in-None
end_of_selected-returns-in-None t c =
    let parts = union_parts c.args.kind.now in
    let none : select parts.3 c.args.disc ≡ None = search rules in
    c.end_of_scalar-end.ensures ∙ steps.selected_none c.args.rep Little parts.2 parts.3 c.args.disc _ c.args.place none

pub end_of_selected-returns-in-Some : goal.end_of_selected-returns-in-Some
end_of_selected-returns-in-Some t c =
    let parts = union_parts c.args.kind.now in
    let slot = slot_of (option_map (λ v. val v.now) c.args.body) in
    let some : select parts.3 c.args.disc ≡ Some c.in-Some.id = search rules in
    let cases : c.end_of_case.result ≡ end_of (case_of c.args.rep Little parts.3 c.in-Some.id slot) c.end_of_scalar-end.result = search rules in
    cases ∙ ap (λ (q : ℕ). end_of (case_of c.args.rep Little parts.3 c.in-Some.id slot) q) c.end_of_scalar-end.ensures ∙ steps.selected_some c.args.rep Little parts.2 parts.3 c.args.disc slot c.in-Some.id c.args.place some

pub end_of_structure-returns-in-Appendable : goal.end_of_structure-returns-in-Appendable
end_of_structure-returns-in-Appendable t c =
    let body = members_of c.args.rep Little (structure_parts c.args.kind.now).1 (slots_val c.args.slots.now) in
    let whole : c.end_of_members-in-Appendable.result ≡ end_of body c.end_of_delimiter-start.result = search rules in
    rw c.in-Appendable.is (whole ∙ ap (λ (q : ℕ). end_of body q) (c.end_of_delimiter-start.ensures ∙ ap (λ (b : Bool). delimiter_end b c.args.place) c.is_bare.ensures) ∙ sym (steps.end_of_collection (is_bare c.args.rep false) Little body c.args.place))

pub end_of_mutable-returns-in-Xcdr1 : goal.end_of_mutable-returns-in-Xcdr1
end_of_mutable-returns-in-Xcdr1 t c =
    let ms = members_shape c.args.members.now in
    let ss = slots_val c.args.slots.now in
    let params = params_fixed Little ms ss in
    rw c.in-Xcdr1.is (c.end_of_count.ensures ∙ ap (λ (q : ℕ). number_end 4 4 q) (rw c.in-Xcdr1.is at c.end_of_pieces.ensures) ∙ sym (end_of_end Little (end_of params c.args.place)) ∙ sym (end_of_then params (end_fixed Little) c.args.place))

pub end_of_mutable-returns-in-Xcdr2 : goal.end_of_mutable-returns-in-Xcdr2
end_of_mutable-returns-in-Xcdr2 t c =
    let ms = members_shape c.args.members.now in
    let ss = slots_val c.args.slots.now in
    let body = pieces_fixed Little ms ss in
    rw c.in-Xcdr2.is (rw c.in-Xcdr2.is at c.end_of_pieces-in-Xcdr2.ensures ∙ ap (λ (q : ℕ). end_of body q) c.end_of_count-in-Xcdr2.ensures ∙ sym (end_of_headed Little body c.args.place))

pub end_of_union-returns-in-Appendable : goal.end_of_union-returns-in-Appendable
end_of_union-returns-in-Appendable t c =
    let parts = union_parts c.args.kind.now in
    let v = val c.args.value.now in
    let body = selected_fixed c.args.rep Little parts.2 parts.3 (disc_in v) (body_in v) in
    let whole : c.end_of_selected-in-Appendable.result ≡ end_of body c.end_of_delimiter-start.result = search rules in
    rw c.in-Appendable.is (whole ∙ ap (λ (q : ℕ). end_of body q) (c.end_of_delimiter-start.ensures ∙ ap (λ (b : Bool). delimiter_end b c.args.place) c.is_bare.ensures) ∙ sym (steps.end_of_collection (is_bare c.args.rep false) Little body c.args.place))

pub end_of_mutable_union-returns-in-Xcdr2 : goal.end_of_mutable_union-returns-in-Xcdr2
end_of_mutable_union-returns-in-Xcdr2 t c = rw c.in-Xcdr2.is (c.min.ensures ∙ min_comm _ _ ∙ sym (end_of_nothing c.args.place))

pub end_of_counted-returns : goal.end_of_counted-returns
end_of_counted-returns t c = c.end_of_items.ensures ∙ ap (λ (q : ℕ). end_of (items_fixed c.args.rep Little (type_shape c.args.ty.now) (map val c.args.values.now)) q) c.end_of_count.ensures ∙ sym (steps.end_of_counted Little (λ w. fixed_of c.args.rep Little (type_shape c.args.ty.now) w) (map val c.args.values.now) c.args.place)

pub end_of_counted_entries-returns : goal.end_of_counted_entries-returns
end_of_counted_entries-returns t c =
    let key = type_shape c.args.kind.now.key.ty in
    let value = type_shape c.args.kind.now.value.ty in
    c.end_of_entries.ensures ∙ ap (λ (q : ℕ). end_of (entries_fixed c.args.rep Little key value (map pair_val c.args.entries.now)) q) c.end_of_count.ensures ∙ sym (steps.end_of_counted Little (λ (x : Val × Val). entry_fixed c.args.rep Little key value x) (map pair_val c.args.entries.now) c.args.place)

pub end_of_sequence-returns : goal.end_of_sequence-returns
end_of_sequence-returns t c =
    let shape = type_shape c.args.kind.now.elem.ty in
    let body = counted_items c.args.rep Little shape (map val c.args.values.now) in
    c.end_of_counted.ensures ∙ ap (λ (q : ℕ). end_of body q) (c.end_of_delimiter-start.ensures ∙ ap (λ (b : Bool). delimiter_end b c.args.place) c.are_bare.ensures) ∙ sym (steps.end_of_collection (is_bare c.args.rep (is_primitive shape)) Little body c.args.place)

pub end_of_array-returns : goal.end_of_array-returns
end_of_array-returns t c =
    let shape = type_shape c.args.kind.now.elem.ty in
    let body = items_fixed c.args.rep Little shape (map val c.args.values.now) in
    c.end_of_items.ensures ∙ ap (λ (q : ℕ). end_of body q) (c.end_of_delimiter-start.ensures ∙ ap (λ (b : Bool). delimiter_end b c.args.place) c.are_bare.ensures) ∙ sym (steps.end_of_collection (is_bare c.args.rep (is_primitive shape)) Little body c.args.place)

pub end_of_map-returns : goal.end_of_map-returns
end_of_map-returns t c =
    let key = type_shape c.args.kind.now.key.ty in
    let value = type_shape c.args.kind.now.value.ty in
    let body = counted_entries c.args.rep Little key value (map pair_val c.args.entries.now) in
    c.end_of_counted_entries.ensures ∙ ap (λ (q : ℕ). end_of body q) (c.end_of_delimiter-start.ensures ∙ ap (λ (b : Bool). delimiter_end b c.args.place) c.are_bare_entries.ensures) ∙ sym (steps.end_of_collection (is_bare c.args.rep (is_primitive key && is_primitive value)) Little body c.args.place)

pub end_of_value-returns-in-Str : goal.end_of_value-returns-in-Str
end_of_value-returns-in-Str t c = steps.end_as _ _ c.args.place c.end_of_text.result (steps.spelled_str c.args.rep Little c.args.ty.now c.in-Str.field-0 (val c.args.value.now) c.in-Str.is) (search rules)

pub end_of_value-returns-in-Seq : goal.end_of_value-returns-in-Seq
end_of_value-returns-in-Seq t c = steps.end_as _ _ c.args.place c.end_of_sequence.result (steps.spelled_seq c.args.rep Little c.args.ty.now c.in-Seq.kind (val c.args.value.now) c.in-Seq.is) (search rules)

pub end_of_value-returns-in-Array : goal.end_of_value-returns-in-Array
end_of_value-returns-in-Array t c = steps.end_as _ _ c.args.place c.end_of_array.result (steps.spelled_array c.args.rep Little c.args.ty.now c.in-Array.kind (val c.args.value.now) c.in-Array.is) (search rules)

pub end_of_value-returns-in-Map : goal.end_of_value-returns-in-Map
end_of_value-returns-in-Map t c = steps.end_as _ _ c.args.place c.end_of_map.result (steps.spelled_map c.args.rep Little c.args.ty.now c.in-Map.kind (val c.args.value.now) c.in-Map.is) (search rules)

pub end_of_value-returns-in-Struct : goal.end_of_value-returns-in-Struct
end_of_value-returns-in-Struct t c = steps.end_as _ _ c.args.place c.end_of_structure.result (steps.spelled_struct c.args.rep Little c.args.ty.now c.in-Struct.kind (val c.args.value.now) c.in-Struct.is) (search rules)

pub end_of_value-returns-in-Union : goal.end_of_value-returns-in-Union
end_of_value-returns-in-Union t c = steps.end_as _ _ c.args.place c.end_of_union.result (steps.spelled_union c.args.rep Little c.args.ty.now c.in-Union.kind (val c.args.value.now) c.in-Union.is) (search rules)

pub end_of_value-returns-in-Prim : goal.end_of_value-returns-in-Prim
end_of_value-returns-in-Prim t c =
    let k = size c.in-Prim.prim in
    let n = raw k (number_in (val c.args.value.now)) in
    let sized : c.prim_size.result ≡ k = search rules in
    steps.end_as _ (number_fixed (most_of c.args.rep) Little k n) c.args.place c.end_of_number.result (steps.spelled_prim c.args.rep Little c.args.ty.now c.in-Prim.prim (val c.args.value.now) c.in-Prim.is) (c.end_of_number.ensures ∙ ap (λ (j : ℕ). number_end j c.prim_size.result c.args.place) c.most_of.ensures.most ∙ ap (λ (j : ℕ). number_end (most_of c.args.rep) j c.args.place) sized ∙ sym (end_of_number (most_of c.args.rep) Little k n c.args.place))

pub end_of_value-returns-in-Enum : goal.end_of_value-returns-in-Enum
end_of_value-returns-in-Enum t c =
    let k = enum_size c.in-Enum.kind.value.bits in
    let n = raw k (number_in (val c.args.value.now)) in
    let sized : c.enum_size.result ≡ k = search rules in
    steps.end_as _ (number_fixed (most_of c.args.rep) Little k n) c.args.place c.end_of_number-in-Enum.result (steps.spelled_enum c.args.rep Little c.args.ty.now c.in-Enum.kind (val c.args.value.now) c.in-Enum.is) (c.end_of_number-in-Enum.ensures ∙ ap (λ (j : ℕ). number_end j c.enum_size.result c.args.place) c.most_of-in-Enum.ensures.most ∙ ap (λ (j : ℕ). number_end (most_of c.args.rep) j c.args.place) sized ∙ sym (end_of_number (most_of c.args.rep) Little k n c.args.place))

pub end_of_value-returns-in-Mask : goal.end_of_value-returns-in-Mask
end_of_value-returns-in-Mask t c =
    let k = mask_size c.in-Mask.kind.value.bits in
    let n = raw k (number_in (val c.args.value.now)) in
    let sized : c.mask_size.result ≡ k = search rules in
    steps.end_as _ (number_fixed (most_of c.args.rep) Little k n) c.args.place c.end_of_number-in-Mask.result (steps.spelled_mask c.args.rep Little c.args.ty.now c.in-Mask.kind (val c.args.value.now) c.in-Mask.is) (c.end_of_number-in-Mask.ensures ∙ ap (λ (j : ℕ). number_end j c.mask_size.result c.args.place) c.most_of-in-Mask.ensures.most ∙ ap (λ (j : ℕ). number_end (most_of c.args.rep) j c.args.place) sized ∙ sym (end_of_number (most_of c.args.rep) Little k n c.args.place))
