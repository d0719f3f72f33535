use Rattle.std.proofs.Common.{◌≡◌, ◌∷◌, refl, rules, Some, slice_get, get_or, List, map, subst, arith}
use Rattle.std.proofs.lemmas.Option.{slice_get-get_or}
use Rattle.try_construct.specs.Guides.{Indexes}
use Rattle.type_trees.specs.declared.types.Case.{Case}
use Rattle.type_trees.specs.declared.types.UnionType.{out-UnionType}
use Rattle.type_trees.specs.Bridge.{cases_shape}
use Rattle.type_trees.specs.View.{tree}
use Rattle.packed_json.specs.Plans.{Entry, PlansCases, meaning}
use Rattle.type_trees.proofs.Views.{map_tree_is}
use Rattle.packed_json.proofs.MapLaws.{map_planned}
use Rattle.packed_json.proofs.UnionLaws.{cases_next, kind_planned}
use Rattle.packed_json.proofs.Meanings as of
use Rattle.packed_json.proofs.ListLaws.{list_planned}
use Rattle.packed_json.proofs.Structures.{members_step, planned_member, structure_planned}
use Rattle.packed_json.proofs.plan.+planning.Goals as goal

pub plan_list-returns-in-Ok : goal.plan_list-returns-in-Ok
plan_list-returns-in-Ok t c = rw (of.plan_list c.in-Ok.item, c.in-Ok.ensures.ok) (list_planned (tree c.args.elem.now.ty) (meaning c.in_ok-item.item) c.in_ok-item.ensures)

pub plan_member-returns : goal.plan_member-returns
plan_member-returns t c =
    let ms = c.args.members.now in
    let m = get_or ms c.args.at c.index-members-at.result in
    let there : slice_get ms c.args.at ≡ Some m = slice_get-get_or ms c.args.at c.index-members-at.result (omega arith) in
    planned_member ms (c.args.name, c.args.at) _ m there refl c.in_ok-key.ensures c.in_ok-plan.ensures

pub plan_members-loop-name-preserved : goal.plan_members-loop-name-preserved
plan_members-loop-name-preserved t c =
    let e : Entry = (c.in-Some.name.now, c.in-Some.at.now) in
    let here : c.loop-name.name-iterator ≡ e ∷ c.next.new.self = search rules in
    members_step c.args.members.now e c.loop-name.name-iterator c.next.new.self c.args.order.now.entries c.loop-name.planned c.push.new.self c.in_ok-member.member here c.in-Ok.ensures.ok c.in_ok-member.ensures c.loop-name.invariant

pub plan_structure-returns : goal.plan_structure-returns
plan_structure-returns t c = structure_planned c.args.kind.now c.as_slice-members.result.now c.in_ok-order.order.entries c.in_ok-planned.planned c.as_slice-members.ensures c.in_ok-order.ensures c.in_ok-planned.ensures

pub plan_map-returns-in-Ok : goal.plan_map-returns-in-Ok
plan_map-returns-in-Ok t c =
    let kind = c.args.kind.now in
    let key = c.in_ok-key.key in
    let value = c.in_ok-value.value in
    rw (of.plan_map c.in-Ok.planned, c.in-Ok.ensures.ok, map_tree_is kind) (map_planned (tree kind.key.ty) (tree kind.value.ty) (meaning key) (meaning value) c.in_ok-key.ensures c.in_ok-value.ensures)

pub plan_cases-loop-case-init : goal.plan_cases-loop-case-init
plan_cases-loop-case-init t c = rw c.new-planned.ensures (tt, refl)

pub plan_cases-loop-case-preserved : goal.plan_cases-loop-case-preserved
plan_cases-loop-case-preserved t c = cases_next c.args.cases.now c.loop-case.planned c.push.new.self c.in_ok-plan.plan c.loop-case.case-index c.case-item.result c.in-Ok.ensures.ok c.loop-case-test.true c.case-item.is c.in_ok-plan.ensures c.loop-case.invariant

pub plan_union-returns-in-Ok-new : goal.plan_union-returns-in-Ok-new
plan_union-returns-in-Ok-new t c =
    let u = out-UnionType c.args.kind.now in
    let index = c.in-Ok.index in
    let ms = map meaning c.in_ok-cases.cases in
    let indexed : Indexes (cases_shape u.cases) index = subst (λ (cs : List Case). Indexes (cases_shape cs) index) c.as_slice.ensures c.in-Ok.ensures in
    let planned : PlansCases u.cases ms = subst (λ (cs : List Case). PlansCases cs ms) c.as_slice-2.ensures c.in_ok-cases.ensures in
    rw (of.plan_union c.in-Ok-new.planned, c.in-Ok-new.ensures.ok) (kind_planned c.args.kind.now (meaning c.in_ok-disc.disc) index ms c.in_ok-disc.ensures indexed planned)
