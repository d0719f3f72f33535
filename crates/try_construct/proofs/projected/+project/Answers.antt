use Rattle.std.proofs.Common.{◌+◌, ◌∙◌, sym, ap, subst, rules, arith, ◌≤◌, true, false, map, drop, length, Some}
use Rattle.std.proofs.lemmas.Bool.{eq-eqb, ne_eqb}
use Rattle.std.specs.Option.{option_map}
use Rattle.try_construct.specs.Members.{slots_of, and_slot, slots_then}
use Rattle.settled_parts.specs.Parts.{part_of}
use Rattle.try_construct.specs.Unions.{case_of}
use Rattle.try_construct.specs.Found.{IsAt, IsFound}
use Rattle.try_construct.specs.Steps.{items_built, entries_built, structure_built, union_built, member_built, one_case_built, parts_built}
use Rattle.try_construct.proofs.FoundSteps.{sound_at, sound_step, sound_case_step, found_absent, found_at, lacks_part, slots_step, structure_starts}
use Rattle.try_construct.proofs.SoundSteps.{case_sound, map_sound, union_sound}
use Rattle.try_construct.proofs.WholeSteps.{rephrased, sequence_is, array_is, map_is, structure_is, union_is, sequence_built, array_built, map_built, members_built, cases_built, of_some, of_none, case_step, case_end}
use Rattle.type_trees.specs.Bridge.{shape, type_shape, members_shape, cases_shape, case_head}
use Rattle.type_trees.specs.declared.types.Member.{Member}
use Rattle.type_trees.specs.Parts.{sequence_parts, array_parts, map_parts, structure_parts, union_parts}
use Rattle.type_trees.specs.View.{array_tree, map_tree, sequence_tree, struct_tree, union_tree, val, slots_val}
use Rattle.xcdr_model.specs.Premises.{sound}
use Rattle.xcdr_model.specs.Projection.{of_case, projected, projected_case, with_shape}
use Rattle.xt_shapes.specs.Kinds.{as_sequence, as_array, as_map, as_structure, as_union}
use Rattle.xt_shapes.specs.Select.{case_at}
use Rattle.xt_shapes.specs.Vals.{items_in, entries_in, slots_in, body_in}
use Rattle.try_construct.proofs.projected.+project.Goals as goal

-- ---- by kind

pub project_sequence-returns-in-None : goal.project_sequence-returns-in-None
project_sequence-returns-in-None t c =
    let s = shape (sequence_tree c.args.kind.now) in
    let k = sequence_parts c.args.kind.now in
    let v = val c.args.value.now in
    of_none (λ e2. items_built k.0 k.1 k.2 e2.2 (items_in v)) (as_sequence (type_shape c.args.other.now)) (projected s (type_shape c.args.other.now) v) (part_of c.failed.result) c.failed.ensures c.in-None.ensures (sequence_built s k (type_shape c.args.other.now) v (sequence_is c.args.kind.now))

pub project_sequence-returns-in-Some : goal.project_sequence-returns-in-Some
project_sequence-returns-in-Some t c =
    let s = shape (sequence_tree c.args.kind.now) in
    let k = sequence_parts c.args.kind.now in
    let k2 = sequence_parts c.in-Some.other.now in
    let v = val c.args.value.now in
    let p = projected s (type_shape c.args.other.now) v in
    rephrased part_of c.project_items.result (items_built k.0 k.1 k.2 k2.2 (map val c.items_in.result.now)) p
    (ap (items_built k.0 k.1 k.2 k2.2) c.items_in.ensures
    ∙ of_some (λ e2. items_built k.0 k.1 k.2 e2.2 (items_in v)) k2 (as_sequence (type_shape c.args.other.now)) p c.in-Some.ensures (sequence_built s k (type_shape c.args.other.now) v (sequence_is c.args.kind.now)))
    c.project_items.ensures

pub project_array-returns-in-None : goal.project_array-returns-in-None
project_array-returns-in-None t c =
    let s = shape (array_tree c.args.kind.now) in
    let k = array_parts c.args.kind.now in
    let v = val c.args.value.now in
    of_none (λ e2. items_built 0 k.1 k.2 e2.2 (items_in v)) (as_array (type_shape c.args.other.now)) (projected s (type_shape c.args.other.now) v) (part_of c.failed.result) c.failed.ensures c.in-None.ensures (array_built s k (type_shape c.args.other.now) v (array_is c.args.kind.now))

pub project_array-returns-in-Some : goal.project_array-returns-in-Some
project_array-returns-in-Some t c =
    let s = shape (array_tree c.args.kind.now) in
    let k = array_parts c.args.kind.now in
    let k2 = array_parts c.in-Some.other.now in
    let v = val c.args.value.now in
    let p = projected s (type_shape c.args.other.now) v in
    rephrased part_of c.project_items.result (items_built 0 k.1 k.2 k2.2 (map val c.items_in.result.now)) p
    (ap (items_built 0 k.1 k.2 k2.2) c.items_in.ensures
    ∙ of_some (λ e2. items_built 0 k.1 k.2 e2.2 (items_in v)) k2 (as_array (type_shape c.args.other.now)) p c.in-Some.ensures (array_built s k (type_shape c.args.other.now) v (array_is c.args.kind.now)))
    c.project_items.ensures

pub project_map-project_entries-requires : goal.project_map-project_entries-requires
project_map-project_entries-requires t c =
    let (key, value) = map_sound (shape (map_tree c.args.kind.now)) (map_parts c.args.kind.now) (map_is c.args.kind.now) c.requires.reader in
    let (writer_key, writer_value) = map_sound (type_shape c.args.other.now) (map_parts c.in-Some.other.now) c.in-Some.ensures c.requires.writer in
    search rules

pub project_map-returns-in-None : goal.project_map-returns-in-None
project_map-returns-in-None t c =
    let s = shape (map_tree c.args.kind.now) in
    let k = map_parts c.args.kind.now in
    let v = val c.args.value.now in
    of_none (λ e2. entries_built k e2 (entries_in v)) (as_map (type_shape c.args.other.now)) (projected s (type_shape c.args.other.now) v) (part_of c.failed.result) c.failed.ensures c.in-None.ensures (map_built s k (type_shape c.args.other.now) v (map_is c.args.kind.now))

pub project_map-returns-in-Some : goal.project_map-returns-in-Some
project_map-returns-in-Some t c =
    let s = shape (map_tree c.args.kind.now) in
    let k = map_parts c.args.kind.now in
    let k2 = map_parts c.in-Some.other.now in
    let v = val c.args.value.now in
    let p = projected s (type_shape c.args.other.now) v in
    rephrased part_of c.project_entries.result _ p
    (ap (entries_built k k2) c.entries_in.ensures
    ∙ of_some (λ e2. entries_built k e2 (entries_in v)) k2 (as_map (type_shape c.args.other.now)) p c.in-Some.ensures (map_built s k (type_shape c.args.other.now) v (map_is c.args.kind.now)))
    c.project_entries.ensures

pub project_structure-returns-in-None : goal.project_structure-returns-in-None
project_structure-returns-in-None t c =
    let s = shape (struct_tree c.args.kind.now) in
    let k = structure_parts c.args.kind.now in
    let v = val c.args.value.now in
    of_none (λ e2. structure_built k e2 (slots_in v)) (as_structure (type_shape c.args.other.now)) (projected s (type_shape c.args.other.now) v) (part_of c.failed.result) c.failed.ensures c.in-None.ensures (members_built s k (type_shape c.args.other.now) v (structure_is c.args.kind.now))

pub project_structure-returns-in-Some : goal.project_structure-returns-in-Some
project_structure-returns-in-Some t c =
    let s = shape (struct_tree c.args.kind.now) in
    let k = structure_parts c.args.kind.now in
    let k2 = structure_parts c.in-Some.other.now in
    let v = val c.args.value.now in
    let p = projected s (type_shape c.args.other.now) v in
    rephrased part_of c.project_members.result _ p
    (ap (structure_built k k2) c.slots_in.ensures
    ∙ of_some (λ e2. structure_built k e2 (slots_in v)) k2 (as_structure (type_shape c.args.other.now)) p c.in-Some.ensures (members_built s k (type_shape c.args.other.now) v (structure_is c.args.kind.now)))
    c.project_members.ensures

pub project_union-project_cases-requires : goal.project_union-project_cases-requires
project_union-project_cases-requires t c =
    let reader = union_sound (shape (union_tree c.args.kind.now)) (union_parts c.args.kind.now) (union_is c.args.kind.now) c.requires.reader in
    let writer = union_sound (type_shape c.args.other.now) (union_parts c.in-Some.other.now) c.in-Some.ensures c.requires.writer in
    search rules

pub project_union-returns-in-None : goal.project_union-returns-in-None
project_union-returns-in-None t c =
    let s = shape (union_tree c.args.kind.now) in
    let k = union_parts c.args.kind.now in
    let v = val c.args.value.now in
    of_none (λ e2. union_built k e2 v) (as_union (type_shape c.args.other.now)) (projected s (type_shape c.args.other.now) v) (part_of c.failed.result) c.failed.ensures c.in-None.ensures (cases_built s k (type_shape c.args.other.now) v (union_is c.args.kind.now))

pub project_union-returns-in-Some : goal.project_union-returns-in-Some
project_union-returns-in-Some t c =
    let s = shape (union_tree c.args.kind.now) in
    let k = union_parts c.args.kind.now in
    let k2 = union_parts c.in-Some.other.now in
    let v = val c.args.value.now in
    let p = projected s (type_shape c.args.other.now) v in
    rephrased part_of c.project_cases.result (union_built k k2 v) p
    (of_some (λ e2. union_built k e2 v) k2 (as_union (type_shape c.args.other.now)) p c.in-Some.ensures (cases_built s k (type_shape c.args.other.now) v (union_is c.args.kind.now)))
    c.project_cases.ensures

-- ---- cases

pub project_case-project_both-requires : goal.project_case-project_both-requires
project_case-project_both-requires t c =
    let writer = case_sound (cases_shape c.args.others.now) c.args.id (type_shape c.in-Some-Some.other.now.ty) c.requires.writer c.in-Some-Some.ensures.shape in
    search rules

pub project_selected-loop-case-preserved : goal.project_selected-loop-case-preserved
project_selected-loop-case-preserved t c =
    let t2 = case_at (cases_shape c.args.others.now) c.args.other in
    let s = body_in (val c.args.union.now) in
    record {
      same = sym (case_step c.args.cases.now c.loop-case.case-index c.case-item.result c.args.id false t2 s c.loop-case-test.true c.case-item.is (ne_eqb c.case-item.result.id c.args.id c.if-case-id.false)) ∙ c.loop-case.invariant.same;
      sound = (sound_case_step c.args.cases.now c.loop-case.case-index c.case-item.result c.loop-case-test.true c.case-item.is c.loop-case.invariant.sound).1;
    }

pub project_selected-returns-then-case-id : goal.project_selected-returns-then-case-id
project_selected-returns-then-case-id t c =
    let t2 = case_at (cases_shape c.args.others.now) c.args.other in
    let s = body_in (val c.args.union.now) in
    let h = c.case-item.result in
    rephrased case_of c.project_case.result (of_case (one_case_built (case_head h) (type_shape h.ty)) t2 s) (projected_case (cases_shape c.args.cases.now) c.args.id t2 s)
    (sym (case_step c.args.cases.now c.loop-case.case-index h c.args.id true t2 s c.loop-case-test.true c.case-item.is (eq-eqb h.id c.args.id c.if-case-id.true)) ∙ c.loop-case.invariant.same)
    c.project_case.ensures

pub project_selected-returns : goal.project_selected-returns
project_selected-returns t c =
    let t2 = case_at (cases_shape c.args.others.now) c.args.other in
    let s = body_in (val c.args.union.now) in
    let over : length c.args.cases.now ≤ c.loop-case.case-index = omega (arith, c.loop-case-test.false) in
    sym (case_end c.args.cases.now c.loop-case.case-index c.args.id t2 s over) ∙ c.loop-case.invariant.same

-- ---- members

pub project_at-project_member-requires : goal.project_at-project_member-requires
project_at-project_member-requires t c =
    let m = c.index-others-at.result in
    let is = sound_at c.args.others.now c.args.at m c.requires.found.0 c.index-others-at.is c.requires.writer in
    let writer = ap (λ (n : Member). sound (type_shape n.ty)) (sym c.index-others-at.is) ∙ is in
    search rules

pub project_at-returns-in-None : goal.project_at-returns-in-None
project_at-returns-in-None t c =
    let none = found_absent c.args.others.now c.args.slots.now c.args.member.now.id c.args.at c.requires.found c.requires.apart c.in-None.ensures in
    sym (ap (member_built (type_shape c.args.member.now.ty)) none)

pub project_found-project_at-requires : goal.project_found-project_at-requires
project_found-project_at-requires t c =
    let found : IsAt c.args.others.now c.args.member.now.id c.in-Some.at = subst (IsFound c.args.others.now c.args.member.now.id) c.in-Some.is c.requires.found in
    search rules

pub project_found-returns-in-None : goal.project_found-returns-in-None
project_found-returns-in-None t c =
    let none = subst (IsFound c.args.others.now c.args.member.now.id) c.in-None.is c.requires.found in
    sym (ap (member_built (type_shape c.args.member.now.ty)) (lacks_part (members_shape c.args.others.now) (slots_val c.args.slots.now) c.args.member.now.id none))

pub project_slots-loop-member-init : goal.project_slots-loop-member-init
project_slots-loop-member-init t c =
    let ms = members_shape c.args.members.now in
    let ns = members_shape c.args.others.now in
    let ss = slots_val c.args.slots.now in
    record {
      same = ap (λ g. slots_then ms g (parts_built ms ns ss)) c.new-gathered.ensures.none ∙ structure_starts ms ns ss c.requires.reader_apart;
      sound = c.requires.reader;
    }

pub project_slots-loop-member-preserved : goal.project_slots-loop-member-preserved
project_slots-loop-member-preserved t c =
    let i = c.loop-member.member-index in
    let more = members_shape (drop (i + 1) c.args.members.now) in
    let ns = members_shape c.args.others.now in
    let ss = slots_val c.args.slots.now in
    let so = slots_of c.loop-member.gathered in
    let m = c.member-item.result in
    record {
      same =
          ap (λ g. slots_then more g (parts_built more ns ss)) (c.in_ok-take.ensures ∙ ap (and_slot so) c.in_ok-slot_from.ensures)
          ∙ sym (slots_step c.args.members.now ns ss so i m (option_map part_of c.in_ok-part.part) c.loop-member-test.true c.member-item.is c.in_ok-part.ensures)
          ∙ c.loop-member.invariant.same;
      sound = (sound_step c.args.members.now i m c.loop-member-test.true c.member-item.is c.loop-member.invariant.sound).1;
    }

pub project_at-returns-in_ok-part-in-Some : goal.project_at-returns-in_ok-part-in-Some
project_at-returns-in_ok-part-in-Some t c =
    let m = c.index-others-at.result in
    let mine = type_shape c.args.member.now.ty in
    let v = val c.in-Some.value.now in
    let found = found_at c.args.others.now c.args.slots.now c.args.member.now.id c.args.at c.requires.found c.requires.apart m c.index-others-at.is ∙ ap (with_shape (type_shape m.ty)) (sym c.in-Some.ensures) in
    ap (λ p. Some p) (c.in_ok-part-in-Some.ensures ∙ ap (λ (n : Member). projected mine (type_shape n.ty) v) (sym c.index-others-at.is)) ∙ sym (ap (member_built mine) found)
