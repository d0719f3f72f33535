use denote.Param.Weighed.{at_most}
use Rattle.std.proofs.Common.{ap, ◌∙◌, arith, rules}
use Rattle.std.specs.Prelude.{Ok}
use Rattle.std.proofs.lemmas.Result.{err_from_is_err_and}
use Rattle.type_trees.proofs.types.Member.TheLaws as member_laws
use Rattle.type_trees.proofs.Views.{tree_prim, tree_str, tree_enum, tree_mask, tree_struct, tree_union, tree_alias, sequence_tree_is, array_tree_is, map_tree_is, alias_tree_is, union_tree_is}
use Rattle.type_trees.specs.declared.types.StructType.{out-StructType}
use Rattle.type_trees.specs.View.{tree, members_tree}
use Rattle.type_resolve.specs.Views.{seen, hashes_seen, member_sides, case_sides, member_head, case_head}
use Rattle.type_resolve.proofs.Added.{stores_err}
use Rattle.type_resolve.proofs.Known.{held_after}
use Rattle.type_resolve.proofs.Loops.{members_same, members_start, members_on, members_end, members_free, members_done, cases_start, cases_on, cases_end, cases_free, cases_done, none_behind}
use Rattle.type_resolve.proofs.Layers.{most-of, head_of, none_yet, next_base, no_base_left, base_ends, base_refused, base_on, top_ends, top_stores}
use Rattle.type_resolve.specs.Objects.{between}
use Rattle.type_resolve.proofs.Steps.{prim_stores, str_stores, sequence_stores, sequence_halts, array_stores, array_halts, map_stores, key_halts, value_halts, alias_stores, alias_halts, union_stores, disc_halts, cases_halts}
use Rattle.type_resolve.proofs.walk.+objects.Goals as goal

pub alias-returns-in_err-related : goal.alias-returns-in_err-related
alias-returns-in_err-related t c =
    let p = err_from_is_err_and c.from_residual.result c.from_residual.ensures.1 in
    stores_err hashes_seen c.from_residual.result _ _ _ _ _ _ p.1 p.2 (alias_halts _ _ _ _ _ (alias_tree_is c.args.kind.now) _ c.in_err-related.ensures)

pub alias-returns : goal.alias-returns
alias-returns t c = alias_stores c.args.pool.now _ _ _ _ (alias_tree_is c.args.kind.now) _ c.add_made.result _ _ c.in_ok-related.ensures.0 c.in_ok-related.ensures.1 c.alias_pair.ensures c.add_made.ensures

pub sequence-returns-in_err-element : goal.sequence-returns-in_err-element
sequence-returns-in_err-element t c =
    let p = err_from_is_err_and c.from_residual.result c.from_residual.ensures.1 in
    stores_err seen c.from_residual.result _ _ _ _ _ _ p.1 p.2 (sequence_halts _ _ _ _ _ _ (sequence_tree_is c.args.kind.now) _ c.in_err-element.ensures)

pub sequence-returns : goal.sequence-returns
sequence-returns t c = sequence_stores _ _ _ _ _ _ (sequence_tree_is c.args.kind.now) _ _ c.in_ok-element.ensures.0 c.in_ok-element.ensures.1 c.of_sequence.ensures

pub array-returns-in_err-element : goal.array-returns-in_err-element
array-returns-in_err-element t c =
    let p = err_from_is_err_and c.from_residual.result c.from_residual.ensures.1 in
    stores_err seen c.from_residual.result _ _ _ _ _ _ p.1 p.2 (array_halts _ _ _ _ _ _ (array_tree_is c.args.kind.now) _ c.in_err-element.ensures)

pub array-returns : goal.array-returns
array-returns t c = array_stores _ _ _ _ _ _ (array_tree_is c.args.kind.now) _ _ c.in_ok-element.ensures.0 c.in_ok-element.ensures.1 c.of_array.ensures

pub map-returns-in_err-key : goal.map-returns-in_err-key
map-returns-in_err-key t c =
    let p = err_from_is_err_and c.from_residual.result c.from_residual.ensures.1 in
    stores_err seen c.from_residual.result _ _ _ _ _ _ p.1 p.2 (key_halts _ _ _ _ _ _ _ _ (map_tree_is c.args.kind.now) _ c.in_err-key.ensures)

pub map-returns-in_err-value : goal.map-returns-in_err-value
map-returns-in_err-value t c =
    let r = c.from_residual-in_err-value in
    let p = err_from_is_err_and r.result r.ensures.1 in
    stores_err seen r.result _ _ _ _ _ _ p.1 p.2 (value_halts _ _ _ _ _ _ _ _ (map_tree_is c.args.kind.now) _ _ c.in_ok-key.ensures.0 c.in_err-value.ensures)

pub map-returns : goal.map-returns
map-returns t c = map_stores _ _ _ _ _ _ _ _ (map_tree_is c.args.kind.now) _ _ _ _ c.in_ok-key.ensures.0 c.in_ok-value.ensures.0 c.in_ok-key.ensures.1 c.in_ok-value.ensures.1 c.of_map.ensures

pub identify-returns-in-Prim : goal.identify-returns-in-Prim
identify-returns-in-Prim t c = prim_stores c.args.pool.now (tree c.args.ty.now) (seen c.of_prim.result) c.in-Prim.prim (ap tree c.in-Prim.is ∙ tree_prim c.in-Prim.prim) c.of_prim.ensures

pub identify-returns-in-Str : goal.identify-returns-in-Str
identify-returns-in-Str t c = str_stores c.args.pool.now (tree c.args.ty.now) (seen c.of_string.result) c.in-Str.bound (ap tree c.in-Str.is ∙ tree_str c.in-Str.bound) c.of_string.ensures

pub identify-keep-requires-clause-held : goal.identify-keep-requires-clause-held
identify-keep-requires-clause-held t c = held_after (ap tree c.in-Enum.is ∙ tree_enum c.in-Enum.kind) (rw c.deref.ensures at c.in_ok-ids-in-Enum.ensures.0)

pub identify-keep-requires-in-Mask-clause-held : goal.identify-keep-requires-in-Mask-clause-held
identify-keep-requires-in-Mask-clause-held t c = held_after (ap tree c.in-Mask.is ∙ tree_mask c.in-Mask.kind) (rw c.deref-in-Mask.ensures at c.in_ok-ids-in-Mask.ensures.0)

pub identify-keep-requires-in-Struct-clause-held : goal.identify-keep-requires-in-Struct-clause-held
identify-keep-requires-in-Struct-clause-held t c = held_after (ap tree c.in-Struct.is ∙ tree_struct c.in-Struct.kind) (rw c.deref-in-Struct.ensures at c.in_ok-ids-in-Struct.ensures.0)

pub identify-keep-requires-in-Union-clause-held : goal.identify-keep-requires-in-Union-clause-held
identify-keep-requires-in-Union-clause-held t c = held_after (ap tree c.in-Union.is ∙ tree_union c.in-Union.kind) (rw c.deref-in-Union.ensures at c.in_ok-ids-in-Union.ensures.0)

pub identify-keep-requires-in-Alias-clause-held : goal.identify-keep-requires-in-Alias-clause-held
identify-keep-requires-in-Alias-clause-held t c = held_after (ap tree c.in-Alias.is ∙ tree_alias c.in-Alias.kind) (rw c.deref-in-Alias.ensures at c.in_ok-ids-in-Alias.ensures.0)

pub union-returns-in_err-disc : goal.union-returns-in_err-disc
union-returns-in_err-disc t c =
    let p = err_from_is_err_and c.from_residual.result c.from_residual.ensures.1 in
    stores_err hashes_seen c.from_residual.result _ _ _ _ _ _ p.1 p.2 (disc_halts _ _ _ _ _ _ (union_tree_is c.args.kind.now) _ c.in_err-disc.ensures)

pub union-returns-in_err-cases : goal.union-returns-in_err-cases
union-returns-in_err-cases t c =
    let r = c.from_residual-in_err-cases in
    let p = err_from_is_err_and r.result r.ensures.1 in
    stores_err hashes_seen r.result _ _ _ _ _ _ p.1 p.2 (cases_halts _ _ _ _ _ _ (union_tree_is c.args.kind.now) _ _ c.in_ok-disc.ensures.0 (rw (← c.as_slice.ensures) c.in_err-cases.ensures))

pub union-returns : goal.union-returns
union-returns t c =
    let cases = rw c.as_slice.ensures at c.in_ok-cases.ensures in
    union_stores _ _ _ _ _ _ (union_tree_is c.args.kind.now) c.union_pair.result c.add_made.result _ _ _ _ c.in_ok-disc.ensures.0 cases.0 c.in_ok-disc.ensures.1 cases.1 c.union_pair.ensures c.add_made.ensures

pub members-loop-member-init : goal.members-loop-member-init
members-loop-member-init t c = members_start c.args.pool.now c.between-own.result.now (member_sides c.new-parts.result) c.new-parts.ensures

pub members-returns-in_err-ty : goal.members-returns-in_err-ty
members-returns-in_err-ty t c =
    let p = err_from_is_err_and c.from_residual.result c.from_residual.ensures.1 in
    members_same c.from_residual.result c.args.pool.now c.member_type.new.pool c.between-own.result.now _ c.between-own.ensures (stores_err member_sides c.from_residual.result _ _ _ _ _ _ p.1 p.2 (members_end c.args.pool.now c.loop-member.pool c.between-own.result.now c.loop-member.member-index c.member-item.result (omega (arith, c.loop-member-test.true)) c.member-item.is _ c.loop-member.invariant _ _ (rw c.number_of-number.ensures.same at c.in_err-ty.ensures)))

pub members-returns-in_err-push : goal.members-returns-in_err-push
members-returns-in_err-push t c =
    let r = c.from_residual-in_err-push in
    let p = err_from_is_err_and r.result r.ensures.1 in
    members_same r.result c.args.pool.now c.member_type.new.pool c.between-own.result.now _ c.between-own.ensures (stores_err member_sides r.result _ _ _ _ _ _ p.1 p.2 (members_free c.args.pool.now c.loop-member.pool c.between-own.result.now c.loop-member.member-index c.member-item.result (omega (arith, c.loop-member-test.true)) c.member-item.is _ c.loop-member.invariant _ _ c.in_err-push.ensures.only_memory (rw c.number_of-number.ensures.same at c.in_ok-ty.ensures.0)))

pub members-loop-member-preserved : goal.members-loop-member-preserved
members-loop-member-preserved t c =
    members_on c.args.pool.now c.loop-member.pool c.between-own.result.now c.loop-member.member-index c.member-item.result (omega (arith, c.loop-member-test.true)) c.member-item.is (member_sides c.loop-member.parts) c.loop-member.invariant c.member_type.new.pool (seen c.in_ok-ty.ty) (member_head c.of_member.result) (member_sides c.push.new.self) c.of_member.ensures.head
    (rw c.number_of-number.ensures.same at c.in_ok-ty.ensures.0) c.in_ok-ty.ensures.1 c.in_ok-push.ensures.minimal c.in_ok-push.ensures.complete

pub members-returns : goal.members-returns
members-returns t c =
    members_same (Ok c.loop-member.parts) c.args.pool.now c.loop-member.pool c.between-own.result.now _ c.between-own.ensures
    (members_done c.args.pool.now c.loop-member.pool c.between-own.result.now c.loop-member.member-index (member_sides c.loop-member.parts) (none_behind c.between-own.result.now c.loop-member.member-index (omega (arith, c.loop-member-test.false))) c.loop-member.invariant)

pub cases-loop-case-init : goal.cases-loop-case-init
cases-loop-case-init t c = cases_start c.args.pool.now c.args.cases.now (case_sides c.new-parts.result) c.new-parts.ensures

pub cases-returns-in_err-ty : goal.cases-returns-in_err-ty
cases-returns-in_err-ty t c =
    let p = err_from_is_err_and c.from_residual.result c.from_residual.ensures.1 in
    stores_err case_sides c.from_residual.result _ _ _ _ _ _ p.1 p.2 (cases_end c.args.pool.now c.loop-case.pool c.args.cases.now c.loop-case.case-index c.case-item.result (omega (arith, c.loop-case-test.true)) c.case-item.is _ c.loop-case.invariant _ _ c.in_err-ty.ensures)

pub cases-returns-in_err-push : goal.cases-returns-in_err-push
cases-returns-in_err-push t c =
    let r = c.from_residual-in_err-push in
    let p = err_from_is_err_and r.result r.ensures.1 in
    stores_err case_sides r.result _ _ _ _ _ _ p.1 p.2 (cases_free c.args.pool.now c.loop-case.pool c.args.cases.now c.loop-case.case-index c.case-item.result (omega (arith, c.loop-case-test.true)) c.case-item.is _ c.loop-case.invariant _ _ c.in_err-push.ensures.only_memory c.in_ok-ty.ensures.0)

pub cases-loop-case-preserved : goal.cases-loop-case-preserved
cases-loop-case-preserved t c =
    cases_on c.args.pool.now c.loop-case.pool c.args.cases.now c.loop-case.case-index c.case-item.result (omega (arith, c.loop-case-test.true)) c.case-item.is (case_sides c.loop-case.parts) c.loop-case.invariant c.identify.new.pool (seen c.in_ok-ty.ty) (case_head c.of_case.result) (case_sides c.push.new.self) c.of_case.ensures
    c.in_ok-ty.ensures.0 c.in_ok-ty.ensures.1 c.in_ok-push.ensures.minimal c.in_ok-push.ensures.complete

pub cases-returns : goal.cases-returns
cases-returns t c = cases_done c.args.pool.now c.loop-case.pool c.args.cases.now c.loop-case.case-index (case_sides c.loop-case.parts) (none_behind c.args.cases.now c.loop-case.case-index (omega (arith, c.loop-case-test.false))) c.loop-case.invariant

pub structure-loop-layer-init : goal.structure-loop-layer-init
structure-loop-layer-init t c = none_yet (head_of c.args.kind.now) (members_tree (out-StructType c.args.kind.now).members) c.args.pool.now

pub structure-returns-in_err-parts : goal.structure-returns-in_err-parts
structure-returns-in_err-parts t c =
    let p = err_from_is_err_and c.from_residual.result c.from_residual.ensures.1 in
    let more = next_base c.as_slice-layer-items.result.now (out-StructType c.args.kind.now).bases c.loop-layer.layer-index c.layer-item.result c.as_slice-layer-items.ensures (omega (arith, c.loop-layer-test.true)) c.layer-item.is in
    let own = ap (between c.loop-layer.had c.layer-item.result.count) c.as_slice.ensures in
    stores_err hashes_seen c.from_residual.result _ _ _ _ _ _ p.1 p.2 (base_ends c.args.kind.now c.args.pool.now c.loop-layer.pool c.loop-layer.base c.loop-layer.had (between c.loop-layer.had c.layer-item.result.count c.as_slice.result.now) c.layer-item.result own _ _ more c.loop-layer.invariant _ _ c.in_err-parts.ensures)

pub structure-returns-in_err-add_made : goal.structure-returns-in_err-add_made
structure-returns-in_err-add_made t c =
    let r = c.from_residual-in_err-add_made in
    let p = err_from_is_err_and r.result r.ensures.1 in
    let more = next_base c.as_slice-layer-items.result.now (out-StructType c.args.kind.now).bases c.loop-layer.layer-index c.layer-item.result c.as_slice-layer-items.ensures (omega (arith, c.loop-layer-test.true)) c.layer-item.is in
    let own = ap (between c.loop-layer.had c.layer-item.result.count) c.as_slice.ensures in
    stores_err hashes_seen r.result _ _ _ _ _ _ p.1 p.2
    (base_refused c.args.kind.now c.args.pool.now c.loop-layer.pool c.loop-layer.base c.loop-layer.had (between c.loop-layer.had c.layer-item.result.count c.as_slice.result.now) c.layer-item.result own _ _ more c.loop-layer.invariant c.struct_pair.result c.add_made.result c.members.new.pool c.add_made.new.pool (member_sides c.in_ok-parts.parts)
    c.in_ok-parts.ensures.0 c.in_ok-parts.ensures.1 c.struct_pair.ensures c.add_made.ensures c.in_err-add_made.field-0.0 c.in_err-add_made.was)

pub structure-loop-layer-preserved : goal.structure-loop-layer-preserved
structure-loop-layer-preserved t c =
    let more = next_base c.as_slice-layer-items.result.now (out-StructType c.args.kind.now).bases c.loop-layer.layer-index c.layer-item.result c.as_slice-layer-items.ensures (omega (arith, c.loop-layer-test.true)) c.layer-item.is in
    let own = ap (between c.loop-layer.had c.layer-item.result.count) c.as_slice.ensures in
    base_on c.args.kind.now c.args.pool.now c.loop-layer.pool c.loop-layer.base c.loop-layer.had (between c.loop-layer.had c.layer-item.result.count c.as_slice.result.now) c.layer-item.result own _ _ more c.loop-layer.invariant c.struct_pair.result c.add_made.result c.members.new.pool c.add_made.new.pool (member_sides c.in_ok-parts.parts)
    c.in_ok-parts.ensures.0 c.in_ok-parts.ensures.1 c.struct_pair.ensures c.add_made.ensures c.in_ok-add_made.field-0 c.max-had.result c.in_ok-add_made.was c.max-had.ensures

pub members-member_type-requires : goal.members-member_type-requires
members-member_type-requires t c =
    let smaller = rw (← c.member-item.is) at (at_most member_laws.the_size c.between-own.result.now c.loop-member.member-index c.member-item.result (omega (arith, c.loop-member-test.true))) in
    let whole = most-of member_laws.the_size c.args.had c.args.count c.between-own.result.now c.args.members.now c.between-own.ensures in
    search rules

pub structure-returns-in_err-parts-2 : goal.structure-returns-in_err-parts-2
structure-returns-in_err-parts-2 t c =
    let r = c.from_residual-in_err-parts-2 in
    let p = err_from_is_err_and r.result r.ensures.1 in
    let own = ap (between c.loop-layer.had c.len-count.result) c.as_slice-2.ensures ∙ ap (λ n. between c.loop-layer.had n (out-StructType c.args.kind.now).members) c.len-count.ensures in
    let stands = no_base_left c.args.kind.now c.args.pool.now c.loop-layer.pool c.loop-layer.base c.loop-layer.had c.loop-layer.layer-index c.as_slice-layer-items.result.now c.as_slice-layer-items.ensures c.loop-layer-test.false c.loop-layer.invariant in
    stores_err hashes_seen r.result _ _ _ _ _ _ p.1 p.2 (top_ends c.args.kind.now c.args.pool.now c.loop-layer.pool c.loop-layer.base c.loop-layer.had (between c.loop-layer.had c.len-count.result c.as_slice-2.result.now) own stands _ _ c.in_err-parts-2.ensures)

pub structure-returns : goal.structure-returns
structure-returns t c =
    let own = ap (between c.loop-layer.had c.len-count.result) c.as_slice-2.ensures ∙ ap (λ n. between c.loop-layer.had n (out-StructType c.args.kind.now).members) c.len-count.ensures in
    let stands = no_base_left c.args.kind.now c.args.pool.now c.loop-layer.pool c.loop-layer.base c.loop-layer.had c.loop-layer.layer-index c.as_slice-layer-items.result.now c.as_slice-layer-items.ensures c.loop-layer-test.false c.loop-layer.invariant in
    top_stores c.args.kind.now c.args.pool.now c.loop-layer.pool c.loop-layer.base c.loop-layer.had (between c.loop-layer.had c.len-count.result c.as_slice-2.result.now) own stands c.struct_pair-2.result c.add_made-2.result _ _ _ c.in_ok-parts-2.ensures.0 c.in_ok-parts-2.ensures.1 c.struct_pair-2.ensures c.add_made-2.ensures
