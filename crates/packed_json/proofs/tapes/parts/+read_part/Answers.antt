use denote.Param.Weighed.{at_most}
use Rattle.type_trees.proofs.types.Member.TheLaws as member_laws
use Rattle.std.proofs.Common.{le_refl, ◌≡◌, ℕ, ◌+◌, ◌<◌, ◌^◌, List, [], ◌∷◌, Option, length, map, min, Some, sym, ap, ap₂, subst, ◌∙◌, arith, rules}
use Rattle.std.specs.Prelude.{option_map}
use Rattle.std.proofs.lemmas.List.{length-map, length-replicate, length-set, map-append}
use Rattle.json.specs.Token.{Token}
use Rattle.json.specs.Json.{no_items, no_members}
use Rattle.json.specs.Find.{NextItem, NextMember}
use Rattle.xt_shapes.specs.Vals.{absent, present}
use Rattle.type_rules.specs.Places.{depth, members_depth}
use Rattle.type_trees.specs.Trees.{Tree, prim, str, sequence, array}
use Rattle.type_trees.specs.declared.types.AliasType.{AliasType}
use Rattle.type_trees.specs.declared.types.EnumType.{EnumType}
use Rattle.type_trees.specs.declared.types.Literal.{Literal}
use Rattle.type_trees.specs.declared.types.MaskType.{MaskType}
use Rattle.type_trees.specs.declared.types.Member.{Member}
use Rattle.packed_reader.specs.declared.values.Packed.{Packed}
use Rattle.packed_reader.specs.declared.values.PackedSlot.{PackedSlot}
use Rattle.packed_reader.specs.View.{packed_val, packed_slot}
use Rattle.type_trees.specs.View.{tree, members_tree, sequence_tree, array_tree}
use Rattle.type_trees.proofs.Views.{tree_prim, tree_str, tree_enum, tree_mask, tree_alias, alias_tree_is, sequence_tree_is, array_tree_is}
use Rattle.xt_shapes.specs.Shape.{product}
use Rattle.xt_shapes.specs.Typing.{is_below, is_past}
use Rattle.json_values.specs.Read.{value_of, prim_of, text_of, literal_of, whole_of, sequence_of, array_of}
use Rattle.packed_json.specs.Tapes.{Reads, ReadsMembers, AllMeanAfter, has_open}
use Rattle.packed_json.proofs.OfTapes.Leaves.{weaker}
use Rattle.packed_json.proofs.OfTapes.Lists.{items_begin, items_next, items_end, sequence_means, array_means}
use Rattle.packed_json.proofs.OfTapes.Slots.{members_begin, members_next, members_end, found_at, faithful_at, structure_means}
use Rattle.packed_json.proofs.tapes.parts.+read_part.Goals as goal

pub read_items-loop-item-init : goal.read_items-loop-item-init
read_items-loop-item-init t c j begins =
    let F = value_of (tree c.args.ty.now) in
    let n = depth (tree c.args.ty.now) in
    let shape = c.in_ok-items.ensures j begins in
    (shape.0, shape.0, shape.1, shape.2, subst (λ (vs : List Packed). AllMeanAfter F n shape.0 shape.0 (map packed_val vs)) (sym c.new-values.ensures) (items_begin F n shape.0))

pub read_items-loop-item-preserved : goal.read_items-loop-item-preserved
read_items-loop-item-preserved t c j begins =
    let F = value_of (tree c.args.ty.now) in
    let n = depth (tree c.args.ty.now) in
    let now = c.loop-item.invariant j begins in
    let f = c.in-Some.ensures.value now.1 now.3 in
    (now.0, f.1, now.2, f.4, subst (λ (vs : List Packed). AllMeanAfter F n now.0 f.1 (map packed_val vs)) (sym c.in-Ok.ensures.ok) (subst (AllMeanAfter F n now.0 f.1) (sym (map-append packed_val c.loop-item.values (c.in_ok-value.value ∷ []))) (items_next F n now.0 now.1 f.1 f.0 (map packed_val c.loop-item.values) (packed_val c.in_ok-value.value) f.2 (c.in_ok-value.ensures f.0 f.3) now.4)))

pub read_items-returns : goal.read_items-returns
read_items-returns t c j begins =
    let F = value_of (tree c.args.ty.now) in
    let n = depth (tree c.args.ty.now) in
    let now = c.loop-item.invariant j begins in
    let done : now.1 ≡ no_items = subst (λ (r : Option (List Token)). NextItem c.loop-item.items r c.next.new.self) c.in_default.is c.next.ensures.value now.1 now.3 in
    (now.0, now.2, items_end F n now.0 now.1 (map packed_val c.loop-item.values) done now.4)

pub read_members-loop-key-init : goal.read_members-loop-key-init
read_members-loop-key-init t c =
    let ms = c.args.members.now in
    let slots = c.in_ok-slots.slots in
    let empty = c.in_ok-slots.ensures in record {
      so_far = λ j begins. let shape = c.in_ok-rest.ensures j begins in (shape.0, shape.0, shape.1, shape.2, members_begin ms (members_depth (members_tree ms)) shape.0 (map packed_slot slots) empty);
      as_many = sym (length-map slots packed_slot) ∙ ap length empty ∙ length-replicate (length ms) absent;
    }

pub read_members-read_member-requires : goal.read_members-read_member-requires
read_members-read_member-requires t c =
    let ms = c.args.members.now in
    let m = c.index-members-at.result in
    let at = c.in_ok-at.at in
    let is = c.index-members-at.is in
    let here = found_at ms c.in-Some.key.now at m (sym c.in_ok-at.ensures) is in
    let within = here.0 in
    let faithful = faithful_at ms at m within is c.requires.faithful in
    let smaller = rw (← is) at (at_most member_laws.the_size ms at m within) in
    search rules

pub read_members-loop-key-preserved : goal.read_members-loop-key-preserved
read_members-loop-key-preserved t c =
    let ms = c.args.members.now in
    let n = members_depth (members_tree ms) in
    let m = c.index-members-at.result in
    let at = c.in_ok-at.at in
    let is = c.index-members-at.is in
    let becomes = c.fill.ensures in record {
      so_far = λ j begins.
          let now = c.loop-key.invariant.so_far j begins in
          let f = c.in-Some.ensures.value now.1 now.3 in
          let means = c.in_ok-value.ensures f.0 f.3 in
          (now.0, f.1, now.2, f.4, members_next ms n now.0 now.1 f.1 c.in-Some.key.now f.0 at m (packed_val c.in_ok-value.value) (map packed_slot c.loop-key.slots) (map packed_slot c.fill.new.slots) f.2 (sym c.in_ok-at.ensures) is c.requires.apart (le_refl n) means becomes now.4);
      as_many = sym (length-map c.fill.new.slots packed_slot) ∙ ap length becomes ∙ length-set (map packed_slot c.loop-key.slots) at (present (packed_val c.in_ok-value.value)) ∙ length-map c.loop-key.slots packed_slot ∙ c.loop-key.invariant.as_many;
    }

pub read_members-returns : goal.read_members-returns
read_members-returns t c j begins =
    let ms = members_tree c.args.members.now in
    let n = members_depth ms in
    let now = c.loop-key.invariant.so_far j begins in
    let done : now.1 ≡ no_members = subst (λ r. NextMember c.loop-key.rest (option_map (λ m. (m.0.now, m.1)) r) c.next.new.self) c.in_default.is c.next.ensures.value now.1 now.3 in
    (now.0, now.2, members_end ms n now.0 now.1 (map packed_slot c.loop-key.slots) done now.4)

pub read_sequence-returns : goal.read_sequence-returns
read_sequence-returns t c j begins =
    let kind = c.args.kind.now in
    let within = ap (is_past kind.bound) (sym c.len.ensures) ∙ sym c.is_past.ensures ∙ c.if-is_past.false in
    sequence_means kind c.args.part.now c.in_ok-values.values c.in_ok-values.ensures within j begins

pub read_sequence-returns-in-Prim : goal.read_sequence-returns-in-Prim
read_sequence-returns-in-Prim t c =
    let kind = c.args.kind.now in
    let q = c.in-Prim.prim in
    let r = c.read_run.result in
    let inner : tree kind.elem.ty ≡ prim q = ap tree c.in-Prim.is ∙ tree_prim q in
    let is : sequence_tree kind ≡ sequence kind.bound kind.elem.tc (prim q) = sequence_tree_is kind ∙ ap (sequence kind.bound kind.elem.tc) inner in
    subst (λ (u : Tree). Reads (value_of u) (depth u) c.args.part.now r) (sym is) (weaker (sequence_of kind.bound (prim_of q)) 1 2 c.args.part.now r (omega arith) c.read_run.ensures)

pub read_array-returns-in-Prim : goal.read_array-returns-in-Prim
read_array-returns-in-Prim t c =
    let kind = c.args.kind.now in
    let q = c.in-Prim.prim in
    let r = c.read_grid.result in
    let inner : tree kind.elem.ty ≡ prim q = ap tree c.in-Prim.is ∙ tree_prim q in
    let is : array_tree kind ≡ array kind.dims kind.elem.tc (prim q) = array_tree_is kind ∙ ap (array kind.dims kind.elem.tc) inner in
    let reads : Reads (array_of kind.dims (prim_of q)) 1 c.args.part.now r = subst (λ (ds : List ℕ). Reads (array_of ds (prim_of q)) 1 c.args.part.now r) c.as_slice.ensures c.read_grid.ensures in
    subst (λ (u : Tree). Reads (value_of u) (depth u) c.args.part.now r) (sym is) (weaker (array_of kind.dims (prim_of q)) 1 2 c.args.part.now r (omega arith) reads)

pub read_array-returns : goal.read_array-returns
read_array-returns t c j begins =
    let kind = c.args.kind.now in
    let values = c.in_ok-values.values in
    let small : length values < 18446744073709551615 = search rules in
    let same : length values ≡ min 18446744073709551615 (product kind.dims) = ap length (sym c.as_slice-2.ensures) ∙ c.if-count-elements_of.false ∙ c.elements_of.ensures ∙ ap (λ ds. min 18446744073709551615 (product ds)) c.as_slice-3.ensures in
    array_means kind c.args.part.now values c.in_ok-values.ensures (omega (arith, same, small)) j begins

pub read_struct-returns : goal.read_struct-returns
read_struct-returns t c j begins =
    let part = c.args.part.now in
    let slots = c.in_ok-slots.slots in
    structure_means c.args.kind.now part slots (subst (λ (ms : List Member). ReadsMembers (members_tree ms) (members_depth (members_tree ms)) part (Some slots)) c.as_slice.ensures c.in_ok-slots.ensures)
    (ap₂ (λ (ms : List Member) (ss : List PackedSlot). has_open (members_tree ms) (map packed_slot ss)) (sym c.as_slice-2.ensures) (sym c.as_slice-3.ensures) ∙ sym c.has_open_slot.ensures ∙ c.if-has_open_slot.false) j begins

pub read_part-returns-in-Prim : goal.read_part-returns-in-Prim
read_part-returns-in-Prim t c =
    let is : tree c.args.ty.now ≡ prim c.in-Prim.prim = ap tree c.in-Prim.is ∙ tree_prim c.in-Prim.prim in
    let r = c.read_prim.result in
    subst (λ (u : Tree). Reads (value_of u) (depth u) c.args.part.now r) (sym is) (weaker (prim_of c.in-Prim.prim) 0 1 c.args.part.now r (omega arith) c.read_prim.ensures)

pub read_part-returns-in-Str : goal.read_part-returns-in-Str
read_part-returns-in-Str t c =
    let is : tree c.args.ty.now ≡ str c.in-Str.bound = ap tree c.in-Str.is ∙ tree_str c.in-Str.bound in
    let r = c.read_text.result in
    subst (λ (u : Tree). Reads (value_of u) (depth u) c.args.part.now r) (sym is) (weaker (text_of c.in-Str.bound) 0 1 c.args.part.now r (omega arith) c.read_text.ensures)

pub read_part-returns-in-Enum : goal.read_part-returns-in-Enum
read_part-returns-in-Enum t c =
    let e = c.in-Enum.kind in
    let is = ap tree c.in-Enum.is ∙ tree_enum e in
    let r = c.read_literal.result in
    let reads : Reads (literal_of e.value.literals) 0 c.args.part.now r = subst (λ (ls : List Literal). Reads (literal_of ls) 0 c.args.part.now r) (c.as_slice.ensures ∙ ap (λ (k : EnumType). k.literals) c.deref.ensures) c.read_literal.ensures in
    subst (λ (u : Tree). Reads (value_of u) (depth u) c.args.part.now r) (sym is) (weaker (literal_of e.value.literals) 0 1 c.args.part.now r (omega arith) reads)

pub read_part-returns-in-Mask : goal.read_part-returns-in-Mask
read_part-returns-in-Mask t c =
    let m = c.in-Mask.kind in
    let is = ap tree c.in-Mask.is ∙ tree_mask m in
    let r = c.read_mask.result in
    let reads : Reads (whole_of (is_below (2 ^ m.value.bits))) 0 c.args.part.now r = subst (λ (k : MaskType). Reads (whole_of (is_below (2 ^ k.bits))) 0 c.args.part.now r) c.deref-in-Mask.ensures c.read_mask.ensures in
    subst (λ (u : Tree). Reads (value_of u) (depth u) c.args.part.now r) (sym is) (weaker (whole_of (is_below (2 ^ m.value.bits))) 0 1 c.args.part.now r (omega arith) reads)

pub read_part-returns-in-Alias : goal.read_part-returns-in-Alias
read_part-returns-in-Alias t c =
    let a = c.in-Alias.kind in
    let inner = tree a.value.ty in
    let is = ap tree c.in-Alias.is ∙ tree_alias a ∙ alias_tree_is a.value in
    let r = c.read_part.result in
    let reads : Reads (value_of inner) (depth inner) c.args.part.now r = subst (λ (k : AliasType). Reads (value_of (tree k.ty)) (depth (tree k.ty)) c.args.part.now r) c.deref-in-Alias.ensures c.read_part.ensures in
    subst (λ (u : Tree). Reads (value_of u) (depth u) c.args.part.now r) (sym is) (weaker (value_of inner) (depth inner) (1 + depth inner) c.args.part.now r (omega arith) reads)
