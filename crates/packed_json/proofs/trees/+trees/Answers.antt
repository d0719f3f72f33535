use Rattle.std.proofs.Common.{◌≡◌, Some, sym, ap, ◌∙◌, map, rules}
use Rattle.std.specs.Int.{w128}
use Rattle.std.proofs.lemmas.Int.{to_z-of_z}
use Rattle.try_construct.specs.Guides.{found_at}
use Rattle.type_trees.specs.View.{body_val}
use Rattle.type_trees.proofs.Views.{body_val_present}
use Rattle.packed_json.specs.Plans.{meaning}
use Rattle.packed_json.proofs.UnionLaws.{body_found}
use Rattle.packed_json.proofs.trees.+trees.Goals as goal

pub tree_body-returns-in_ok-at-in-Present : goal.tree_body-returns-in_ok-at-in-Present
tree_body-returns-in_ok-at-in-Present t c =
    let plan = c.args.plan.now in
    let value = c.args.value.now in
    let at = c.in_ok-at-in-Present.at in
    let found : found_at plan.index value.disc ≡ Some at = rw (to_z-of_z w128 value.disc (search rules)) at (sym c.find.ensures ∙ c.in_ok-at-in-Present.was) in
    let body = ap body_val c.in-Present.is ∙ body_val_present _ in
    body_found c.tree_case.result plan.index (map meaning plan.cases) (map meaning c.as_slice.result.now) value.disc at (body_val value.body) _ c.args.out.now c.tree_case.new.out found (ap (map meaning) c.as_slice.ensures) body c.tree_case.ensures
