use Rattle.std.proofs.Common.{rules, ◌≡◌, ◌∙◌, refl, sym, ap, ℕ, ◌+◌, ◌*◌, ◌^◌, min, map, drop, Some, None, false, length, Bool, ◌&&◌, cond, nat_lt}
use Rattle.std.proofs.lemmas.Result.{err_from_is_err_and}
use Rattle.std.specs.Option.{option_map}
use Rattle.xt_shapes.specs.declared.leaves.Order.{Order}
use Rattle.xt_shapes.specs.declared.leaves.Order.TheVariants.{Little}
use Rattle.xt_shapes.specs.declared.leaves.Rep.TheVariants.{Xcdr1, Xcdr2}
use Rattle.xt_shapes.specs.Select as selects
use Rattle.xt_shapes.specs.Select.{select}
use Rattle.xt_shapes.specs.Vals.{Val, absent, present, first, disc_in, body_in, number_in}
use Rattle.xt_shapes.specs.Sizes.{size, enum_size, mask_size}
use Rattle.xcdr_model.specs.FixedSpelling.{Fixed, nothing, fixed, fixed1, fixed_of, then_fixed, number_fixed, headed_fixed, slot_fixed, piece_fixed, code_of, scalar_size, pieces_fixed, params_fixed, end_fixed, if_present_fixed, scalar_fixed, if_selected_fixed}
use Rattle.xcdr_model.specs.Numbers.{raw}
use Rattle.xcdr_model.specs.Xcdr2Reading.{is_primitive}
use Rattle.xcdr_model.specs.Xcdr2Spelling.{bit}
use Rattle.type_trees.specs.Bridge.{type_shape, members_shape, cases_shape, member_head}
use Rattle.type_trees.specs.Parts.{structure_parts, union_parts}
use Rattle.type_trees.specs.View.{val, pair_val, slots_val}
use Rattle.xt_wire.specs.writer.Writing.{PutsWithin}
use Rattle.xt_wire.specs.writer.Written.{Written}
use Rattle.xt_wire.proofs.OfWriter.Puts.{begins, last, within, left_as, same_puts, puts_nothing}
use Rattle.std.proofs.lemmas.List.{length-map}
use Rattle.value_writer.specs.Places.{end_of}
use Rattle.value_writer.specs.Slots.{slot_of}
use Rattle.value_writer.specs.Runs.{run_fixed}
use Rattle.value_writer.proofs.Parts.{next_val, no_more_vals}
use Rattle.xcdr_writer.specs.Parts.{most_of, is_bare, slot_in, piece_in, members_of, pieces_of, case_of, items_fixed, counted_items, entries_fixed, counted_entries, sequence_fixed, array_fixed, map_fixed, structure_fixed, selected_fixed, presence_fixed}
use Rattle.type_trees.specs.declared.types.EnumType.{EnumType}
use Rattle.type_trees.specs.declared.types.MaskType.{MaskType}
use Rattle.xcdr_writer.proofs.ParamSteps.{optional_param, plain_slot}
use Rattle.xcdr_writer.proofs.SizeSteps as steps
use Rattle.xcdr_writer.proofs.Steady as steady
use Rattle.xcdr_writer.proofs.Counts.{bare_most, headed_stuck, length_told, param_begins, param_stuck}
use Rattle.xcdr_writer.proofs.Chains.{same_order, put_apart, put_as, two, first_fails, headed_two, onward, onward_fails, all_done, none_put, slot_parts, selected_put, none_selected, there_is, no_piece}
use Rattle.xcdr_writer.proofs.encoding.+encode.Goals as goal

pub encode_appendable-returns-in_err-encode_count : goal.encode_appendable-returns-in_err-encode_count
encode_appendable-returns-in_err-encode_count g t c =
    let r = c.args.rep in
    let o = c.args.out.now.order in
    let counted : is_bare r false ≡ false = sym c.is_bare.ensures ∙ c.if-is_bare.false in
    let ms = members_shape c.args.members.now in
    let ss = slots_val c.args.slots.now in
    let e = err_from_is_err_and c.from_residual.result c.from_residual.ensures.1 in
    rw counted (rw e.1 (headed_stuck r o (members_of r o ms ss) (members_of r Little ms ss) c.end_of_members.result (bare_most r false counted) (steady.members_steady r o Little ms ss) c.end_of_members.ensures (within c.in_err-encode_count.ensures)))

pub encode_appendable-returns : goal.encode_appendable-returns
encode_appendable-returns g t c =
    let r = c.args.rep in
    let o = c.args.out.now.order in
    let counted : is_bare r false ≡ false = sym c.is_bare.ensures ∙ c.if-is_bare.false in
    let ms = members_shape c.args.members.now in
    let ss = slots_val c.args.slots.now in
    rw counted ((headed_two r (λ (k : Order). members_of r k ms ss) (members_of r Little ms ss) c.end_of_members.result (bare_most r false counted) (steady.members_steady r o Little ms ss) c.end_of_members.ensures (within c.in_ok-encode_count.ensures) c.encode_members-2.ensures))

pub encode_headed-returns-in_err-encode_count : goal.encode_headed-returns-in_err-encode_count
encode_headed-returns-in_err-encode_count g t c =
    let o = c.args.out.now.order in
    let ms = members_shape c.args.members.now in
    let ss = slots_val c.args.slots.now in
    let e = err_from_is_err_and c.from_residual.result c.from_residual.ensures.1 in
    rw e.1 (headed_stuck Xcdr2 o (pieces_fixed o ms ss) (pieces_fixed Little ms ss) c.end_of_pieces.result refl (steady.pieces_steady Xcdr2 o Little ms ss) c.end_of_pieces.ensures (within c.in_err-encode_count.ensures))

pub encode_headed-returns : goal.encode_headed-returns
encode_headed-returns g t c =
    let o = c.args.out.now.order in
    let ms = members_shape c.args.members.now in
    let ss = slots_val c.args.slots.now in
    (headed_two Xcdr2 (λ (k : Order). pieces_fixed k ms ss) (pieces_fixed Little ms ss) c.end_of_pieces.result refl (steady.pieces_steady Xcdr2 o Little ms ss) c.end_of_pieces.ensures (within c.in_ok-encode_count.ensures) c.encode_pieces.ensures)

pub encode_appendable_union-returns-in_err-encode_count : goal.encode_appendable_union-returns-in_err-encode_count
encode_appendable_union-returns-in_err-encode_count g t c =
    let r = c.args.rep in
    let o = c.args.out.now.order in
    let counted : is_bare r false ≡ false = sym c.is_bare.ensures ∙ c.if-is_bare.false in
    let parts = union_parts c.args.kind.now in
    let d = disc_in (val c.args.value.now) in
    let s = body_in (val c.args.value.now) in
    let sized : c.end_of_selected.result ≡ end_of (selected_fixed r Little parts.2 parts.3 d s) 0 = search rules in
    let e = err_from_is_err_and c.from_residual.result c.from_residual.ensures.1 in
    rw counted (rw e.1 (headed_stuck r o (selected_fixed r o parts.2 parts.3 d s) (selected_fixed r Little parts.2 parts.3 d s) c.end_of_selected.result (bare_most r false counted) (steady.union_body_steady r o Little parts.2 parts.3 d s) sized (within c.in_err-encode_count.ensures)))

pub encode_appendable_union-returns : goal.encode_appendable_union-returns
encode_appendable_union-returns g t c =
    let r = c.args.rep in
    let o = c.args.out.now.order in
    let counted : is_bare r false ≡ false = sym c.is_bare.ensures ∙ c.if-is_bare.false in
    let parts = union_parts c.args.kind.now in
    let d = disc_in (val c.args.value.now) in
    let s = body_in (val c.args.value.now) in
    let sized : c.end_of_selected.result ≡ end_of (selected_fixed r Little parts.2 parts.3 d s) 0 = search rules in
    rw counted (headed_two r (λ (k : Order). selected_fixed r k parts.2 parts.3 d s) (selected_fixed r Little parts.2 parts.3 d s) c.end_of_selected.result (bare_most r false counted) (steady.union_body_steady r o Little parts.2 parts.3 d s) sized (within c.in_ok-encode_count.ensures) c.encode_selected-2.ensures)

pub encode_sequence-returns-in_err-encode_count : goal.encode_sequence-returns-in_err-encode_count
encode_sequence-returns-in_err-encode_count g t c =
    let r = c.args.rep in
    let o = c.args.out.now.order in
    let shape = type_shape c.args.kind.now.elem.ty in
    let vs = map val c.args.values.now in
    let counted : is_bare r (is_primitive shape) ≡ false = sym c.are_bare.ensures ∙ c.if-are_bare.false in
    let four = bare_most r (is_primitive shape) counted in
    let e = err_from_is_err_and c.from_residual.result c.from_residual.ensures.1 in
    rw counted (rw e.1 (headed_stuck r o (counted_items r o shape vs) (counted_items r Little shape vs) c.end_of_counted.result four (steady.counted_items_steady r o Little shape vs) c.end_of_counted.ensures (within c.in_err-encode_count.ensures)))

pub encode_sequence-returns : goal.encode_sequence-returns
encode_sequence-returns g t c =
    let r = c.args.rep in
    let o = c.args.out.now.order in
    let shape = type_shape c.args.kind.now.elem.ty in
    let vs = map val c.args.values.now in
    let counted : is_bare r (is_primitive shape) ≡ false = sym c.are_bare.ensures ∙ c.if-are_bare.false in
    let four = bare_most r (is_primitive shape) counted in
    rw counted ((headed_two r (λ (k : Order). counted_items r k shape vs) (counted_items r Little shape vs) c.end_of_counted.result four (steady.counted_items_steady r o Little shape vs) c.end_of_counted.ensures (within c.in_ok-encode_count.ensures) c.encode_counted-2.ensures))

pub encode_array-returns-in_err-encode_count : goal.encode_array-returns-in_err-encode_count
encode_array-returns-in_err-encode_count g t c =
    let r = c.args.rep in
    let o = c.args.out.now.order in
    let shape = type_shape c.args.kind.now.elem.ty in
    let vs = map val c.args.values.now in
    let counted : is_bare r (is_primitive shape) ≡ false = sym c.are_bare.ensures ∙ c.if-are_bare.false in
    let four = bare_most r (is_primitive shape) counted in
    let e = err_from_is_err_and c.from_residual.result c.from_residual.ensures.1 in
    rw counted (rw e.1 (headed_stuck r o (items_fixed r o shape vs) (items_fixed r Little shape vs) c.end_of_items.result four (steady.items_steady r o Little shape vs) c.end_of_items.ensures (within c.in_err-encode_count.ensures)))

pub encode_array-returns : goal.encode_array-returns
encode_array-returns g t c =
    let r = c.args.rep in
    let o = c.args.out.now.order in
    let shape = type_shape c.args.kind.now.elem.ty in
    let vs = map val c.args.values.now in
    let counted : is_bare r (is_primitive shape) ≡ false = sym c.are_bare.ensures ∙ c.if-are_bare.false in
    let four = bare_most r (is_primitive shape) counted in
    rw counted ((headed_two r (λ (k : Order). items_fixed r k shape vs) (items_fixed r Little shape vs) c.end_of_items.result four (steady.items_steady r o Little shape vs) c.end_of_items.ensures (within c.in_ok-encode_count.ensures) c.encode_items-2.ensures))

pub encode_map-returns-in_err-encode_count : goal.encode_map-returns-in_err-encode_count
encode_map-returns-in_err-encode_count g t c =
    let r = c.args.rep in
    let o = c.args.out.now.order in
    let key = type_shape c.args.kind.now.key.ty in
    let value = type_shape c.args.kind.now.value.ty in
    let es = map pair_val c.args.entries.now in
    let counted : is_bare r (is_primitive key && is_primitive value) ≡ false = sym c.are_bare_entries.ensures ∙ c.if-are_bare_entries.false in
    let four = bare_most r (is_primitive key && is_primitive value) counted in
    let e = err_from_is_err_and c.from_residual.result c.from_residual.ensures.1 in
    rw counted (rw e.1 (headed_stuck r o (counted_entries r o key value es) (counted_entries r Little key value es) c.end_of_counted_entries.result four (steady.counted_entries_steady r o Little key value es) c.end_of_counted_entries.ensures (within c.in_err-encode_count.ensures)))

pub encode_map-returns : goal.encode_map-returns
encode_map-returns g t c =
    let r = c.args.rep in
    let o = c.args.out.now.order in
    let key = type_shape c.args.kind.now.key.ty in
    let value = type_shape c.args.kind.now.value.ty in
    let es = map pair_val c.args.entries.now in
    let counted : is_bare r (is_primitive key && is_primitive value) ≡ false = sym c.are_bare_entries.ensures ∙ c.if-are_bare_entries.false in
    let four = bare_most r (is_primitive key && is_primitive value) counted in
    rw counted ((headed_two r (λ (k : Order). counted_entries r k key value es) (counted_entries r Little key value es) c.end_of_counted_entries.result four (steady.counted_entries_steady r o Little key value es) c.end_of_counted_entries.ensures (within c.in_ok-encode_count.ensures) c.encode_counted_entries-2.ensures))

pub encode_content-returns-in_err-encode_count : goal.encode_content-returns-in_err-encode_count
encode_content-returns-in_err-encode_count g t c =
    let o = c.args.out.now.order in
    let shape = type_shape c.args.ty.now in
    let v = val c.args.value.now in
    let long : nat_lt c.args.code 4 ≡ false = steps.not_below c.args.code 4 c.if-code-lt4.false in
    let e = err_from_is_err_and c.from_residual.result c.from_residual.ensures.1 in
    rw long (rw e.1 (headed_stuck Xcdr2 o (fixed o shape v) (fixed Little shape v) c.end_of_value.result refl (steady.fixed_steady Xcdr2 o Little shape v) c.end_of_value.ensures (within c.in_err-encode_count.ensures)))

pub encode_content-returns : goal.encode_content-returns
encode_content-returns g t c =
    let o = c.args.out.now.order in
    let shape = type_shape c.args.ty.now in
    let v = val c.args.value.now in
    let long : nat_lt c.args.code 4 ≡ false = steps.not_below c.args.code 4 c.if-code-lt4.false in
    rw long ((headed_two Xcdr2 (λ (k : Order). fixed k shape v) (fixed Little shape v) c.end_of_value.result refl (steady.fixed_steady Xcdr2 o Little shape v) c.end_of_value.ensures (within c.in_ok-encode_count.ensures) c.encode_value-2.ensures))

pub encode_counted-returns-in_err-encode_count : goal.encode_counted-returns-in_err-encode_count
encode_counted-returns-in_err-encode_count g t c =
    let o = c.args.out.now.order in
    let shape = type_shape c.args.ty.now in
    let vs = map val c.args.values.now in
    let e = err_from_is_err_and c.from_residual.result c.from_residual.ensures.1 in
    rw e.1 (first_fails (counted_items c.args.rep o shape vs) (number_fixed 4 o 4 (length c.args.values.now)) (items_fixed c.args.rep o shape vs) (steps.counted_parts o (λ w. fixed_of c.args.rep o shape w) vs (length c.args.values.now) (sym (length-map c.args.values.now val))) (within c.in_err-encode_count.ensures))

pub encode_counted-returns : goal.encode_counted-returns
encode_counted-returns g t c =
    let o = c.args.out.now.order in
    let shape = type_shape c.args.ty.now in
    let vs = map val c.args.values.now in
    two (counted_items c.args.rep o shape vs) (number_fixed 4 o 4 (length c.args.values.now)) (λ (k : Order). items_fixed c.args.rep k shape vs) (steps.counted_parts o (λ w. fixed_of c.args.rep o shape w) vs (length c.args.values.now) (sym (length-map c.args.values.now val))) (within c.in_ok-encode_count.ensures) c.encode_items.ensures

pub encode_counted_entries-returns-in_err-encode_count : goal.encode_counted_entries-returns-in_err-encode_count
encode_counted_entries-returns-in_err-encode_count g t c =
    let o = c.args.out.now.order in
    let key = type_shape c.args.kind.now.key.ty in
    let value = type_shape c.args.kind.now.value.ty in
    let es = map pair_val c.args.entries.now in
    let f = λ (x : Val × Val). then_fixed (fixed_of c.args.rep o key x.0) (fixed_of c.args.rep o value x.1) in
    let e = err_from_is_err_and c.from_residual.result c.from_residual.ensures.1 in
    rw e.1 (first_fails (counted_entries c.args.rep o key value es) (number_fixed 4 o 4 (length c.args.entries.now)) (entries_fixed c.args.rep o key value es) (steps.counted_parts o f es (length c.args.entries.now) (sym (length-map c.args.entries.now pair_val))) (within c.in_err-encode_count.ensures))

pub encode_counted_entries-returns : goal.encode_counted_entries-returns
encode_counted_entries-returns g t c =
    let o = c.args.out.now.order in
    let key = type_shape c.args.kind.now.key.ty in
    let value = type_shape c.args.kind.now.value.ty in
    let es = map pair_val c.args.entries.now in
    let f = λ (x : Val × Val). then_fixed (fixed_of c.args.rep o key x.0) (fixed_of c.args.rep o value x.1) in
    two (counted_entries c.args.rep o key value es) (number_fixed 4 o 4 (length c.args.entries.now)) (λ (k : Order). entries_fixed c.args.rep k key value es) (steps.counted_parts o f es (length c.args.entries.now) (sym (length-map c.args.entries.now pair_val))) (within c.in_ok-encode_count.ensures) c.encode_entries.ensures

pub encode_each-loop-value-init : goal.encode_each-loop-value-init
encode_each-loop-value-init g t c = begins 4294967296 _ _ c.args.out.now (λ p. refl)

pub encode_each-returns-in_err-encode_value : goal.encode_each-returns-in_err-encode_value
encode_each-returns-in_err-encode_value g t c =
    let o = c.args.out.now.order in
    let i = c.loop-value.value-index in
    let shape = type_shape c.args.ty.now in
    let v = val c.value-item.result in
    let vs = c.args.values.now in
    let more = items_fixed c.args.rep o shape (map val (drop (i + 1) vs)) in
    let next = ap (λ xs. items_fixed c.args.rep o shape xs) (next_val vs i c.value-item.result c.loop-value-test.true c.value-item.is) in
    let e = err_from_is_err_and c.from_residual.result c.from_residual.ensures.1 in
    rw e.1 (onward_fails (items_fixed c.args.rep o shape (map val vs)) (items_fixed c.args.rep o shape (map val (drop i vs))) more (λ (k : Order). fixed_of c.args.rep k shape v) c.loop-value.invariant next c.in_err-encode_value.ensures)

pub encode_each-loop-value-preserved : goal.encode_each-loop-value-preserved
encode_each-loop-value-preserved g t c =
    let o = c.args.out.now.order in
    let i = c.loop-value.value-index in
    let shape = type_shape c.args.ty.now in
    let v = val c.value-item.result in
    let vs = c.args.values.now in
    let more = items_fixed c.args.rep o shape (map val (drop (i + 1) vs)) in
    let next = ap (λ xs. items_fixed c.args.rep o shape xs) (next_val vs i c.value-item.result c.loop-value-test.true c.value-item.is) in
    onward (items_fixed c.args.rep o shape (map val vs)) (items_fixed c.args.rep o shape (map val (drop i vs))) more (λ (k : Order). fixed_of c.args.rep k shape v) c.loop-value.invariant next c.in_ok-encode_value.ensures

pub encode_each-returns : goal.encode_each-returns
encode_each-returns g t c =
    let o = c.args.out.now.order in
    let shape = type_shape c.args.ty.now in
    let vs = c.args.values.now in
    all_done (items_fixed c.args.rep o shape (map val vs)) (items_fixed c.args.rep o shape (map val (drop c.loop-value.value-index vs))) c.loop-value.invariant (ap (λ xs. items_fixed c.args.rep o shape xs) (no_more_vals vs c.loop-value.value-index c.loop-value-test.false))

pub encode_items-returns-in-Some : goal.encode_items-returns-in-Some
encode_items-returns-in-Some g t c =
    let o = c.args.out.now.order in
    let vs = map val c.args.values.now in
    let p = c.in-Some.prim in
    let run : PutsWithin 4294967296 (run_fixed (most_of c.args.rep) o (size p) vs) c.args.out.now c.put_run.new.out c.put_run.result = rw (← c.most_of.ensures.most, ← c.prim_size.ensures.size) (within c.put_run.ensures) in
    put_as (items_fixed c.args.rep o (type_shape c.args.ty.now) vs) (run_fixed (most_of c.args.rep) o (size p) vs) (steps.items_are c.args.rep o (type_shape c.args.ty.now) p vs (sym c.in-Some.ensures)) run

pub encode_entries-loop-entry-init : goal.encode_entries-loop-entry-init
encode_entries-loop-entry-init g t c = begins 4294967296 _ _ c.args.out.now (λ p. refl)

pub encode_entries-returns-in_err-encode_value : goal.encode_entries-returns-in_err-encode_value
encode_entries-returns-in_err-encode_value g t c =
    let o = c.args.out.now.order in
    let i = c.loop-entry.entry-index in
    let key = type_shape c.args.kind.now.key.ty in
    let value = type_shape c.args.kind.now.value.ty in
    let x = c.entry-item.result in
    let es = c.args.entries.now in
    let more = entries_fixed c.args.rep o key value (map pair_val (drop (i + 1) es)) in
    let all = entries_fixed c.args.rep o key value (map pair_val es) in
    let left = entries_fixed c.args.rep o key value (map pair_val (drop i es)) in
    let behind_key = then_fixed (fixed_of c.args.rep o value (val x.value)) more in
    let next : left ≡ then_fixed (then_fixed (fixed_of c.args.rep o key (val x.key)) (fixed_of c.args.rep o value (val x.value))) more = ap (λ ys. entries_fixed c.args.rep o key value ys) (steps.next_entry es i x c.loop-entry-test.true c.entry-item.is) in
    let split = λ (p : ℕ). ap (λ (f : Fixed). f p) next ∙ steps.then_assoc (fixed_of c.args.rep o key (val x.key)) (fixed_of c.args.rep o value (val x.value)) more p in
    let begun = left_as left (then_fixed (fixed_of c.args.rep o key (val x.key)) behind_key) split c.loop-entry.invariant in
    let e = err_from_is_err_and c.from_residual.result c.from_residual.ensures.1 in
    rw e.1 (onward_fails all (then_fixed (fixed_of c.args.rep o key (val x.key)) behind_key) behind_key (λ (k : Order). fixed_of c.args.rep k key (val x.key)) begun refl c.in_err-encode_value.ensures)

pub encode_entries-returns-in_err-encode_value-2 : goal.encode_entries-returns-in_err-encode_value-2
encode_entries-returns-in_err-encode_value-2 g t c =
    let o = c.args.out.now.order in
    let i = c.loop-entry.entry-index in
    let key = type_shape c.args.kind.now.key.ty in
    let value = type_shape c.args.kind.now.value.ty in
    let x = c.entry-item.result in
    let es = c.args.entries.now in
    let more = entries_fixed c.args.rep o key value (map pair_val (drop (i + 1) es)) in
    let all = entries_fixed c.args.rep o key value (map pair_val es) in
    let left = entries_fixed c.args.rep o key value (map pair_val (drop i es)) in
    let behind_key = then_fixed (fixed_of c.args.rep o value (val x.value)) more in
    let next : left ≡ then_fixed (then_fixed (fixed_of c.args.rep o key (val x.key)) (fixed_of c.args.rep o value (val x.value))) more = ap (λ ys. entries_fixed c.args.rep o key value ys) (steps.next_entry es i x c.loop-entry-test.true c.entry-item.is) in
    let split = λ (p : ℕ). ap (λ (f : Fixed). f p) next ∙ steps.then_assoc (fixed_of c.args.rep o key (val x.key)) (fixed_of c.args.rep o value (val x.value)) more p in
    let begun = left_as left (then_fixed (fixed_of c.args.rep o key (val x.key)) behind_key) split c.loop-entry.invariant in
    let on = onward all (then_fixed (fixed_of c.args.rep o key (val x.key)) behind_key) behind_key (λ (k : Order). fixed_of c.args.rep k key (val x.key)) begun refl c.in_ok-encode_value.ensures in
    let e = err_from_is_err_and c.from_residual-in_err-encode_value-2.result c.from_residual-in_err-encode_value-2.ensures.1 in
    rw e.1 (onward_fails all behind_key more (λ (k : Order). fixed_of c.args.rep k value (val x.value)) on refl c.in_err-encode_value-2.ensures)

pub encode_entries-loop-entry-preserved : goal.encode_entries-loop-entry-preserved
encode_entries-loop-entry-preserved g t c =
    let o = c.args.out.now.order in
    let i = c.loop-entry.entry-index in
    let key = type_shape c.args.kind.now.key.ty in
    let value = type_shape c.args.kind.now.value.ty in
    let x = c.entry-item.result in
    let es = c.args.entries.now in
    let more = entries_fixed c.args.rep o key value (map pair_val (drop (i + 1) es)) in
    let all = entries_fixed c.args.rep o key value (map pair_val es) in
    let left = entries_fixed c.args.rep o key value (map pair_val (drop i es)) in
    let behind_key = then_fixed (fixed_of c.args.rep o value (val x.value)) more in
    let next : left ≡ then_fixed (then_fixed (fixed_of c.args.rep o key (val x.key)) (fixed_of c.args.rep o value (val x.value))) more = ap (λ ys. entries_fixed c.args.rep o key value ys) (steps.next_entry es i x c.loop-entry-test.true c.entry-item.is) in
    let split = λ (p : ℕ). ap (λ (f : Fixed). f p) next ∙ steps.then_assoc (fixed_of c.args.rep o key (val x.key)) (fixed_of c.args.rep o value (val x.value)) more p in
    let begun = left_as left (then_fixed (fixed_of c.args.rep o key (val x.key)) behind_key) split c.loop-entry.invariant in
    let on = onward all (then_fixed (fixed_of c.args.rep o key (val x.key)) behind_key) behind_key (λ (k : Order). fixed_of c.args.rep k key (val x.key)) begun refl c.in_ok-encode_value.ensures in
    onward all behind_key more (λ (k : Order). fixed_of c.args.rep k value (val x.value)) on refl c.in_ok-encode_value-2.ensures

pub encode_entries-returns : goal.encode_entries-returns
encode_entries-returns g t c =
    let o = c.args.out.now.order in
    let key = type_shape c.args.kind.now.key.ty in
    let value = type_shape c.args.kind.now.value.ty in
    let es = c.args.entries.now in
    all_done (entries_fixed c.args.rep o key value (map pair_val es)) (entries_fixed c.args.rep o key value (map pair_val (drop c.loop-entry.entry-index es))) c.loop-entry.invariant (ap (λ ys. entries_fixed c.args.rep o key value ys) (steps.no_more_entries es c.loop-entry.entry-index c.loop-entry-test.false))

pub encode_members-loop-at-init : goal.encode_members-loop-at-init
encode_members-loop-at-init g t c = begins 4294967296 _ _ c.args.out.now (λ p. refl)

pub encode_members-returns-in_err-encode_slot : goal.encode_members-returns-in_err-encode_slot
encode_members-returns-in_err-encode_slot g t c =
    let o = c.args.out.now.order in
    let i = c.loop-at.at in
    let m = c.index-members-at.result in
    let ms = c.args.members.now in
    let ss = c.args.slots.now in
    let all = members_of c.args.rep o (members_shape ms) (slots_val ss) in
    let left = members_of c.args.rep o (members_shape (drop i ms)) (slots_val (drop i ss)) in
    let more = members_of c.args.rep o (members_shape (drop (i + 1) ms)) (slots_val (drop (i + 1) ss)) in
    let next = steps.members_step c.args.rep o ms ss i m c.loop-at-test.true c.index-members-at.is in
    let part = rw c.slot_at.ensures at c.in_err-encode_slot.ensures in
    let e = err_from_is_err_and c.from_residual.result c.from_residual.ensures.1 in
    rw e.1 (onward_fails all left more (λ (K : Order). slot_in c.args.rep K (member_head m) (λ (w : Val). fixed_of c.args.rep K (type_shape m.ty) w) (first (slots_val (drop i ss)))) c.loop-at.invariant next part)

pub encode_members-loop-at-preserved : goal.encode_members-loop-at-preserved
encode_members-loop-at-preserved g t c =
    let o = c.args.out.now.order in
    let i = c.loop-at.at in
    let m = c.index-members-at.result in
    let ms = c.args.members.now in
    let ss = c.args.slots.now in
    let all = members_of c.args.rep o (members_shape ms) (slots_val ss) in
    let left = members_of c.args.rep o (members_shape (drop i ms)) (slots_val (drop i ss)) in
    let more = members_of c.args.rep o (members_shape (drop (i + 1) ms)) (slots_val (drop (i + 1) ss)) in
    let next = steps.members_step c.args.rep o ms ss i m c.loop-at-test.true c.index-members-at.is in
    let part = rw c.slot_at.ensures at c.in_ok-encode_slot.ensures in
    onward all left more (λ (K : Order). slot_in c.args.rep K (member_head m) (λ (w : Val). fixed_of c.args.rep K (type_shape m.ty) w) (first (slots_val (drop i ss)))) c.loop-at.invariant next part

pub encode_members-returns : goal.encode_members-returns
encode_members-returns g t c =
    let o = c.args.out.now.order in
    let ms = c.args.members.now in
    let ss = c.args.slots.now in
    all_done (members_of c.args.rep o (members_shape ms) (slots_val ss)) (members_of c.args.rep o (members_shape (drop c.loop-at.at ms)) (slots_val (drop c.loop-at.at ss))) c.loop-at.invariant (steps.members_end c.args.rep o ms ss c.loop-at.at c.loop-at-test.false)

pub encode_pieces-loop-at-init : goal.encode_pieces-loop-at-init
encode_pieces-loop-at-init g t c = begins 4294967296 _ _ c.args.out.now (λ p. refl)

pub encode_pieces-returns-in_err-encode_piece : goal.encode_pieces-returns-in_err-encode_piece
encode_pieces-returns-in_err-encode_piece g t c =
    let o = c.args.out.now.order in
    let i = c.loop-at.at in
    let m = c.index-members-at.result in
    let ms = c.args.members.now in
    let ss = c.args.slots.now in
    let all = pieces_of c.args.rep o (members_shape ms) (slots_val ss) in
    let left = pieces_of c.args.rep o (members_shape (drop i ms)) (slots_val (drop i ss)) in
    let more = pieces_of c.args.rep o (members_shape (drop (i + 1) ms)) (slots_val (drop (i + 1) ss)) in
    let next = steps.pieces_step c.args.rep o ms ss i m c.loop-at-test.true c.index-members-at.is in
    let part = rw c.slot_at.ensures at c.in_err-encode_piece.ensures in
    let e = err_from_is_err_and c.from_residual.result c.from_residual.ensures.1 in
    rw e.1 (onward_fails all left more (λ (K : Order). piece_in c.args.rep K (member_head m) (scalar_size (type_shape m.ty)) (λ (w : Val). fixed_of c.args.rep K (type_shape m.ty) w) (first (slots_val (drop i ss)))) c.loop-at.invariant next part)

pub encode_pieces-loop-at-preserved : goal.encode_pieces-loop-at-preserved
encode_pieces-loop-at-preserved g t c =
    let o = c.args.out.now.order in
    let i = c.loop-at.at in
    let m = c.index-members-at.result in
    let ms = c.args.members.now in
    let ss = c.args.slots.now in
    let all = pieces_of c.args.rep o (members_shape ms) (slots_val ss) in
    let left = pieces_of c.args.rep o (members_shape (drop i ms)) (slots_val (drop i ss)) in
    let more = pieces_of c.args.rep o (members_shape (drop (i + 1) ms)) (slots_val (drop (i + 1) ss)) in
    let next = steps.pieces_step c.args.rep o ms ss i m c.loop-at-test.true c.index-members-at.is in
    let part = rw c.slot_at.ensures at c.in_ok-encode_piece.ensures in
    onward all left more (λ (K : Order). piece_in c.args.rep K (member_head m) (scalar_size (type_shape m.ty)) (λ (w : Val). fixed_of c.args.rep K (type_shape m.ty) w) (first (slots_val (drop i ss)))) c.loop-at.invariant next part

pub encode_pieces-returns : goal.encode_pieces-returns
encode_pieces-returns g t c =
    let o = c.args.out.now.order in
    let ms = c.args.members.now in
    let ss = c.args.slots.now in
    all_done (pieces_of c.args.rep o (members_shape ms) (slots_val ss)) (pieces_of c.args.rep o (members_shape (drop c.loop-at.at ms)) (slots_val (drop c.loop-at.at ss))) c.loop-at.invariant (steps.pieces_end c.args.rep o ms ss c.loop-at.at c.loop-at-test.false)

pub encode_case-returns-then-case-id : goal.encode_case-returns-then-case-id
encode_case-returns-then-case-id g t c =
    let o = c.args.out.now.order in
    let s = slot_of (option_map (λ v. val v.now) c.args.body) in
    let f = λ (w : Val). fixed_of c.args.rep o (type_shape c.case-item.result.ty) w in
    put_as (case_of c.args.rep o (cases_shape c.args.cases.now) c.args.id s) (if_present_fixed s f) (sym c.loop-case.invariant.0 ∙ steps.case_here c.args.rep o c.args.cases.now c.loop-case.case-index c.args.id c.case-item.result s c.loop-case-test.true c.case-item.is c.if-case-id.true) (rw c.loop-case.invariant.1 at c.encode_present.ensures)

pub encode_case-loop-case-preserved : goal.encode_case-loop-case-preserved
encode_case-loop-case-preserved g t c =
    let o = c.args.out.now.order in
    (sym (steps.case_next c.args.rep o c.args.cases.now c.loop-case.case-index c.args.id c.case-item.result (slot_of (option_map (λ v. val v.now) c.args.body)) c.loop-case-test.true c.case-item.is c.if-case-id.false) ∙ c.loop-case.invariant.0, c.loop-case.invariant.1)

pub encode_case-returns : goal.encode_case-returns
encode_case-returns g t c =
    let o = c.args.out.now.order in
    let s = slot_of (option_map (λ v. val v.now) c.args.body) in
    rw c.loop-case.invariant.1 (put_as (case_of c.args.rep o (cases_shape c.args.cases.now) c.args.id s) nothing (sym c.loop-case.invariant.0 ∙ steps.case_none c.args.rep o c.args.cases.now c.loop-case.case-index c.args.id s c.loop-case-test.false) (none_put c.args.out.now))

pub encode_present-returns-in-None : goal.encode_present-returns-in-None
encode_present-returns-in-None g t c = rw c.in-None.is (none_put c.args.out.now)

pub encode_slot2-returns-in_err-encode_presence : goal.encode_slot2-returns-in_err-encode_presence
encode_slot2-returns-in_err-encode_presence g t c =
    let o = c.args.out.now.order in
    let m = c.args.member.now in
    let s = slot_of (option_map (λ v. val v.now) c.args.slot) in
    let f = λ (k : Order) (w : Val). fixed k (type_shape m.ty) w in
    let there = c.is_some.ensures ∙ there_is (λ v. val v.now) c.args.slot in
    let e = err_from_is_err_and c.from_residual.result c.from_residual.ensures.1 in
    rw e.1 (first_fails (slot_fixed m.optional o (f o) s) (presence_fixed o m.optional c.is_some.result) (if_present_fixed s (f o)) (slot_parts m.optional o (f o) s c.is_some.result there) (within c.in_err-encode_presence.ensures))

pub encode_slot2-returns : goal.encode_slot2-returns
encode_slot2-returns g t c =
    let o = c.args.out.now.order in
    let m = c.args.member.now in
    let s = slot_of (option_map (λ v. val v.now) c.args.slot) in
    let f = λ (k : Order) (w : Val). fixed k (type_shape m.ty) w in
    let there = c.is_some.ensures ∙ there_is (λ v. val v.now) c.args.slot in
    two (slot_fixed m.optional o (f o) s) (presence_fixed o m.optional c.is_some.result) (λ (k : Order). if_present_fixed s (f k)) (slot_parts m.optional o (f o) s c.is_some.result there) (within c.in_ok-encode_presence.ensures) c.encode_present.ensures

pub encode_piece2-returns-in-None : goal.encode_piece2-returns-in-None
encode_piece2-returns-in-None g t c =
    let o = c.args.out.now.order in
    let m = c.args.member.now in
    rw c.in-None.is (within (same_puts (piece_fixed o (member_head m) (code_of (scalar_size (type_shape m.ty))) (λ w. fixed o (type_shape m.ty) w) absent) nothing (λ p at. no_piece o (member_head m) (code_of (scalar_size (type_shape m.ty))) (λ w. fixed o (type_shape m.ty) w) p) (puts_nothing c.args.out.now)))

pub encode_present_piece-returns-in_err-number : goal.encode_present_piece-returns-in_err-number
encode_present_piece-returns-in_err-number g t c =
    let o = c.args.out.now.order in
    let m = c.args.member.now in
    let h = member_head m in
    let v = val c.args.value.now in
    let shape = type_shape m.ty in
    let code = code_of (scalar_size shape) in
    let coded : c.length_code-code.result ≡ code = c.length_code-code.ensures.code ∙ ap code_of c.scalar_size.ensures.size in
    let n = bit (selects.is_must h) * 2 ^ 31 + code * 2 ^ 28 + m.id in
    let header : c.header_of.result ≡ n = c.header_of.ensures ∙ ap (λ (b : Bool). bit b * 2 ^ 31 + c.length_code-code.result * 2 ^ 28 + m.id) c.is_must.ensures ∙ ap (λ (k : ℕ). bit (selects.is_must h) * 2 ^ 31 + k * 2 ^ 28 + m.id) coded in
    let content = λ (k : Order) (j : ℕ). cond (nat_lt j 4) (fixed k shape v) (headed_fixed k (fixed k shape v)) in
    let whole = piece_fixed o h code (λ w. fixed o shape w) (present v) in
    let parts = λ (p : ℕ). steps.piece_parts o h code (λ w. fixed o shape w) v p ∙ ap (λ (k : ℕ). then_fixed (number_fixed 4 o 4 k) (content o code) p) (sym header) ∙ ap (λ (j : ℕ). then_fixed (number_fixed 4 o 4 c.header_of.result) (content o j) p) (sym coded) in
    let e = err_from_is_err_and c.from_residual.result c.from_residual.ensures.1 in
    rw e.1 (first_fails whole (number_fixed 4 o 4 c.header_of.result) (content o c.length_code-code.result) parts (within c.in_err-number.ensures))

pub encode_present_piece-returns : goal.encode_present_piece-returns
encode_present_piece-returns g t c =
    let o = c.args.out.now.order in
    let m = c.args.member.now in
    let h = member_head m in
    let v = val c.args.value.now in
    let shape = type_shape m.ty in
    let code = code_of (scalar_size shape) in
    let coded : c.length_code-code.result ≡ code = c.length_code-code.ensures.code ∙ ap code_of c.scalar_size.ensures.size in
    let n = bit (selects.is_must h) * 2 ^ 31 + code * 2 ^ 28 + m.id in
    let header : c.header_of.result ≡ n = c.header_of.ensures ∙ ap (λ (b : Bool). bit b * 2 ^ 31 + c.length_code-code.result * 2 ^ 28 + m.id) c.is_must.ensures ∙ ap (λ (k : ℕ). bit (selects.is_must h) * 2 ^ 31 + k * 2 ^ 28 + m.id) coded in
    let content = λ (k : Order) (j : ℕ). cond (nat_lt j 4) (fixed k shape v) (headed_fixed k (fixed k shape v)) in
    let whole = piece_fixed o h code (λ w. fixed o shape w) (present v) in
    let parts = λ (p : ℕ). steps.piece_parts o h code (λ w. fixed o shape w) v p ∙ ap (λ (k : ℕ). then_fixed (number_fixed 4 o 4 k) (content o code) p) (sym header) ∙ ap (λ (j : ℕ). then_fixed (number_fixed 4 o 4 c.header_of.result) (content o j) p) (sym coded) in
    two whole (number_fixed 4 o 4 c.header_of.result) (λ (k : Order). content k c.length_code-code.result) parts (within c.in_ok-number.ensures) c.encode_content.ensures

pub encode_selected-returns-in_err-encode_disc : goal.encode_selected-returns-in_err-encode_disc
encode_selected-returns-in_err-encode_disc g t c =
    let o = c.args.out.now.order in
    let parts = union_parts c.args.kind.now in
    let d = disc_in (val c.args.value.now) in
    let s = body_in (val c.args.value.now) in
    let rest = λ (k : Order). if_selected_fixed (select parts.3 d) (λ j. case_of c.args.rep k parts.3 j s) in
    let e = err_from_is_err_and c.from_residual.result c.from_residual.ensures.1 in
    rw e.1 (first_fails (selected_fixed c.args.rep o parts.2 parts.3 d s) (scalar_fixed (most_of c.args.rep) o parts.2 d) (rest o) (λ p. refl) (within c.in_err-encode_disc.ensures))

pub encode_selected-returns-in-None : goal.encode_selected-returns-in-None
encode_selected-returns-in-None g t c =
    let o = c.args.out.now.order in
    let parts = union_parts c.args.kind.now in
    let d = disc_in (val c.args.value.now) in
    let s = body_in (val c.args.value.now) in
    let rest = λ (k : Order). if_selected_fixed (select parts.3 d) (λ j. case_of c.args.rep k parts.3 j s) in
    let none : select parts.3 d ≡ None = search rules in
    two (selected_fixed c.args.rep o parts.2 parts.3 d s) (scalar_fixed (most_of c.args.rep) o parts.2 d) rest (λ p. refl) (within c.in_ok-encode_disc.ensures) (none_selected c.args.rep c.encode_disc.new.out.order parts.3 d s c.encode_disc.new.out none)

pub encode_selected-returns-in-Some : goal.encode_selected-returns-in-Some
encode_selected-returns-in-Some g t c =
    let o = c.args.out.now.order in
    let parts = union_parts c.args.kind.now in
    let d = disc_in (val c.args.value.now) in
    let s = body_in (val c.args.value.now) in
    let rest = λ (k : Order). if_selected_fixed (select parts.3 d) (λ j. case_of c.args.rep k parts.3 j s) in
    let some : select parts.3 d ≡ Some c.in-Some.id = search rules in
    two (selected_fixed c.args.rep o parts.2 parts.3 d s) (scalar_fixed (most_of c.args.rep) o parts.2 d) rest (λ p. refl) (within c.in_ok-encode_disc.ensures) (selected_put c.args.rep c.encode_disc.new.out.order parts.3 d s c.in-Some.id some (rw (c.as_slice-in-Some.ensures, c.body_in.ensures) at c.encode_case.ensures))

pub encode_mutable_union-returns-in-Xcdr2 : goal.encode_mutable_union-returns-in-Xcdr2
encode_mutable_union-returns-in-Xcdr2 g t c = rw c.in-Xcdr2.is (none_put c.args.out.now)

pub encode_value-returns-in-Str : goal.encode_value-returns-in-Str
encode_value-returns-in-Str g t c = put_as _ _ (steps.spelled_str c.args.rep c.args.out.now.order c.args.ty.now c.in-Str.field-0 (val c.args.value.now) c.in-Str.is) (rw (← c.octets_in.ensures) (within c.encode_text.ensures))

pub encode_value-returns-in-Seq : goal.encode_value-returns-in-Seq
encode_value-returns-in-Seq g t c = put_as _ _ (steps.spelled_seq c.args.rep c.args.out.now.order c.args.ty.now c.in-Seq.kind (val c.args.value.now) c.in-Seq.is ∙ ap (λ vs. sequence_fixed c.args.rep c.args.out.now.order (type_shape c.in-Seq.kind.value.elem.ty) vs) (sym c.items_in.ensures)) (rw c.deref-in-Seq.ensures at c.encode_sequence.ensures)

pub encode_value-returns-in-Array : goal.encode_value-returns-in-Array
encode_value-returns-in-Array g t c = put_as _ _ (steps.spelled_array c.args.rep c.args.out.now.order c.args.ty.now c.in-Array.kind (val c.args.value.now) c.in-Array.is ∙ ap (λ vs. array_fixed c.args.rep c.args.out.now.order (type_shape c.in-Array.kind.value.elem.ty) vs) (sym c.items_in-in-Array.ensures)) (rw c.deref-in-Array.ensures at c.encode_array.ensures)

pub encode_value-returns-in-Map : goal.encode_value-returns-in-Map
encode_value-returns-in-Map g t c = put_as _ _ (steps.spelled_map c.args.rep c.args.out.now.order c.args.ty.now c.in-Map.kind (val c.args.value.now) c.in-Map.is ∙ ap (λ es. map_fixed c.args.rep c.args.out.now.order (type_shape c.in-Map.kind.value.key.ty) (type_shape c.in-Map.kind.value.value.ty) es) (sym c.entries_in.ensures)) (rw c.deref-in-Map.ensures at c.encode_map.ensures)

pub encode_value-returns-in-Struct : goal.encode_value-returns-in-Struct
encode_value-returns-in-Struct g t c = let parts = structure_parts c.in-Struct.kind.value in put_as _ _ (steps.spelled_struct c.args.rep c.args.out.now.order c.args.ty.now c.in-Struct.kind (val c.args.value.now) c.in-Struct.is ∙ ap (λ ss. structure_fixed c.args.rep c.args.out.now.order parts.0 parts.1 ss) (sym c.slots_in.ensures)) (rw c.deref-in-Struct.ensures at c.encode_structure.ensures)

pub encode_value-returns-in-Union : goal.encode_value-returns-in-Union
encode_value-returns-in-Union g t c = put_as _ _ (steps.spelled_union c.args.rep c.args.out.now.order c.args.ty.now c.in-Union.kind (val c.args.value.now) c.in-Union.is) (rw c.deref-in-Union.ensures at c.encode_union.ensures)

pub encode_value-returns-in-Prim : goal.encode_value-returns-in-Prim
encode_value-returns-in-Prim g t c = put_as _ _ (steps.spelled_prim c.args.rep c.args.out.now.order c.args.ty.now c.in-Prim.prim (val c.args.value.now) c.in-Prim.is ∙ ap (λ (k : ℕ). number_fixed (most_of c.args.rep) c.args.out.now.order k (raw k (number_in (val c.args.value.now)))) (sym c.prim_size.ensures.size)) (within c.encode_scalar.ensures)

pub encode_value-returns-in-Enum : goal.encode_value-returns-in-Enum
encode_value-returns-in-Enum g t c = put_as _ _ (steps.spelled_enum c.args.rep c.args.out.now.order c.args.ty.now c.in-Enum.kind (val c.args.value.now) c.in-Enum.is ∙ ap (λ (k : ℕ). number_fixed (most_of c.args.rep) c.args.out.now.order k (raw k (number_in (val c.args.value.now)))) (sym (c.enum_size.ensures.size ∙ ap (λ (k : EnumType). enum_size k.bits) c.deref.ensures))) (within c.encode_scalar-in-Enum.ensures)

pub encode_value-returns-in-Mask : goal.encode_value-returns-in-Mask
encode_value-returns-in-Mask g t c = put_as _ _ (steps.spelled_mask c.args.rep c.args.out.now.order c.args.ty.now c.in-Mask.kind (val c.args.value.now) c.in-Mask.is ∙ ap (λ (k : ℕ). number_fixed (most_of c.args.rep) c.args.out.now.order k (raw k (number_in (val c.args.value.now)))) (sym (c.mask_size.ensures.size ∙ ap (λ (k : MaskType). mask_size k.bits) c.deref-in-Mask.ensures))) (within c.encode_scalar-in-Mask.ensures)

-- ---- XCDR1

pub encode_apart-returns : goal.encode_apart-returns
encode_apart-returns g t c =
    let a = c.args.out.now in
    let shape = type_shape c.args.ty.now in
    let slot = slot_of (option_map (λ v. val v.now) c.args.body) in
    let content = λ (k : Order). if_present_fixed slot (λ (w : Val). fixed1 k shape w) in
    let kept : c.restart-origin.new.self.order ≡ a.order = ap (λ (w : Written). w.order) c.restart-origin.ensures.rest in
    let inside : PutsWithin 4294967296 (content a.order) c.restart-origin.new.self c.encode_present-result.new.out c.encode_present-result.result = same_order content a.order kept c.encode_present-result.ensures in
    let back : c.resume.new.self ≡ record c.encode_present-result.new.out { origin = a.origin } = c.resume.ensures ∙ ap (λ (n : ℕ). record c.encode_present-result.new.out { origin = n }) c.restart-origin.ensures.origin in
    put_apart (content a.order) c.restart-origin.ensures.rest inside back

pub encode_param-returns-in_err-put_header : goal.encode_param-returns-in_err-put_header
encode_param-returns-in_err-put_header g t c =
    let o = c.args.out.now.order in
    let m = c.args.member.now in
    let h = member_head m in
    let slot = slot_of (option_map (λ v. val v.now) c.args.slot) in
    let content = λ (k : Order). if_present_fixed slot (λ (w : Val). fixed1 k (type_shape m.ty) w) in
    let len = c.end_of_present-length.result in
    let told : len ≡ min 4294967296 (length (content o 0)) = length_told (content o) (content Little) len (steady.present_is_steady Xcdr1 o Little (type_shape m.ty) slot) c.end_of_present-length.ensures in
    let header = rw c.is_must.ensures at (within {limit = 4294967296} c.in_err-put_header.ensures) in
    let e = err_from_is_err_and c.from_residual.result c.from_residual.ensures.1 in
    rw e.1 (param_stuck o h (content o 0) len told header)

pub encode_param-returns : goal.encode_param-returns
encode_param-returns g t c =
    let o = c.args.out.now.order in
    let m = c.args.member.now in
    let h = member_head m in
    let slot = slot_of (option_map (λ v. val v.now) c.args.slot) in
    let content = λ (k : Order). if_present_fixed slot (λ (w : Val). fixed1 k (type_shape m.ty) w) in
    let len = c.end_of_present-length.result in
    let told : len ≡ min 4294967296 (length (content o 0)) = length_told (content o) (content Little) len (steady.present_is_steady Xcdr1 o Little (type_shape m.ty) slot) c.end_of_present-length.ensures in
    let header = rw c.is_must.ensures at (within {limit = 4294967296} c.in_ok-put_header.ensures) in
    last (λ (p : ℕ). content o 0) (param_begins o h (content o 0) len told header) (same_order (λ (k : Order) (p : ℕ). content k 0) o header.keeps.order c.encode_apart.ensures)

pub encode_slot1-returns-then-member : goal.encode_slot1-returns-then-member
encode_slot1-returns-then-member g t c =
    let o = c.args.out.now.order in
    let m = c.args.member.now in
    let s = slot_of (option_map (λ v. val v.now) c.args.slot) in
    put_as _ _ (optional_param m.optional o (member_head m) (λ (w : Val). fixed1 o (type_shape m.ty) w) s c.if-member.true) c.encode_param.ensures

pub encode_slot1-returns-else-member : goal.encode_slot1-returns-else-member
encode_slot1-returns-else-member g t c =
    let o = c.args.out.now.order in
    let m = c.args.member.now in
    let s = slot_of (option_map (λ v. val v.now) c.args.slot) in
    put_as _ _ (plain_slot m.optional o (member_head m) (λ (w : Val). fixed1 o (type_shape m.ty) w) s c.if-member.false) c.encode_present.ensures

pub encode_piece1-returns-in-None : goal.encode_piece1-returns-in-None
encode_piece1-returns-in-None g t c = rw c.in-None.is (none_put c.args.out.now)

pub encode_params-returns-in_err-encode_pieces : goal.encode_params-returns-in_err-encode_pieces
encode_params-returns-in_err-encode_pieces g t c =
    let o = c.args.out.now.order in
    let ms = members_shape c.args.members.now in
    let ss = slots_val c.args.slots.now in
    let e = err_from_is_err_and c.from_residual.result c.from_residual.ensures.1 in
    rw e.1 (first_fails (then_fixed (params_fixed o ms ss) (end_fixed o)) (params_fixed o ms ss) (end_fixed o) (λ p. refl) c.in_err-encode_pieces.ensures)

pub encode_params-returns : goal.encode_params-returns
encode_params-returns g t c =
    let o = c.args.out.now.order in
    let ms = members_shape c.args.members.now in
    let ss = slots_val c.args.slots.now in
    two (then_fixed (params_fixed o ms ss) (end_fixed o)) (params_fixed o ms ss) (λ (k : Order). end_fixed k) (λ p. refl) c.in_ok-encode_pieces.ensures (within c.put_end.ensures)
