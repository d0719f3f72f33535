use Rattle.std.proofs.Common.{◌≡◌, drop, map, true, false}
use Rattle.try_construct.specs.Entries.{entries_of, entries_then}
use Rattle.try_construct.specs.Items.{items_of, items_then}
use Rattle.try_construct.specs.Members.{slots_of, slots_then}
use Rattle.try_construct.specs.Steps.{items_built, entries_built, parts_built}
use Rattle.type_trees.specs.Bridge.{type_shape, members_shape, cases_shape}
use Rattle.type_trees.specs.Parts.{map_parts}
use Rattle.type_trees.specs.View.{val, pair_val, slots_val}
use Rattle.xcdr_model.specs.Premises.{sound_members, sound_cases}
use Rattle.xcdr_model.specs.Projection.{projected, projected_members, projected_case, whole_structure}
use Rattle.xt_shapes.specs.Defaults.{default_of}
use Rattle.xt_shapes.specs.Select.{case_at}
use Rattle.xt_shapes.specs.Vals.{Val, body_in}
use Rattle.try_construct.proofs.projected.+project.Given as goal

-- The items so far, and what is built of the values from here on.
abbrev pub invariant-project_items-loop-value : goal.invariant-project_items-loop-value
invariant-project_items-loop-value l =
    items_then l.bound l.elem.tc (default_of (type_shape l.elem.ty)) (items_of l.items) (map (λ (w : Val). projected (type_shape l.elem.ty) (type_shape l.other) w) (map val (drop l.value-index l.values)))
    ≡ items_built l.bound l.elem.tc (type_shape l.elem.ty) (type_shape l.other) (map val l.values)

-- The same of entries.
abbrev pub invariant-project_entries-loop-pair : goal.invariant-project_entries-loop-pair
invariant-project_entries-loop-pair l =
    entries_then l.kind.bound l.kind.key.tc (default_of (type_shape l.kind.key.ty)) l.kind.value.tc (default_of (type_shape l.kind.value.ty)) (entries_of l.entries)
    (map (λ (e : Val × Val). (projected (type_shape l.kind.key.ty) (type_shape l.other.key.ty) e.0, projected (type_shape l.kind.value.ty) (type_shape l.other.value.ty) e.1)) (map pair_val (drop l.pair-index l.pairs)))
    ≡ entries_built (map_parts l.kind) (map_parts l.other) (map pair_val l.pairs)

-- The slots so far, and what is built of the members from here on, which are sound.
abbrev pub invariant-project_slots-loop-member : goal.invariant-project_slots-loop-member
invariant-project_slots-loop-member l = record {
  same : slots_then (members_shape (drop l.member-index l.members)) (slots_of l.gathered) (parts_built (members_shape (drop l.member-index l.members)) (members_shape l.others) (slots_val l.slots))
      ≡ whole_structure (members_shape l.members) (projected_members (members_shape l.members) (members_shape l.others) (slots_val l.slots)) false;
  sound : sound_members (members_shape (drop l.member-index l.members)) ≡ true;
}

-- The case is among those from here on, which are sound.
abbrev pub invariant-project_selected-loop-case : goal.invariant-project_selected-loop-case
invariant-project_selected-loop-case l = record {
  same : projected_case (cases_shape (drop l.case-index l.cases)) l.id (case_at (cases_shape l.others) l.other) (body_in (val l.union)) ≡ projected_case (cases_shape l.cases) l.id (case_at (cases_shape l.others) l.other) (body_in (val l.union));
  sound : sound_cases (cases_shape (drop l.case-index l.cases)) ≡ true;
}
