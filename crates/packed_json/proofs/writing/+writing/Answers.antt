use Rattle.std.proofs.Common.{◌≡◌, Some, sym, ap, ◌∙◌, map, rules}
use Rattle.std.specs.Int.{w128}
use Rattle.std.proofs.lemmas.Int.{to_z-of_z}
use Rattle.try_construct.specs.Guides.{found_at}
use Rattle.packed_reader.specs.View.{packed_slot}
use Rattle.packed_reader.proofs.Views.{packed_present}
use Rattle.packed_json.specs.Plans.{meaning}
use Rattle.packed_json.proofs.UnionLaws.{body_found}
use Rattle.packed_json.proofs.writing.+writing.Goals as goal

pub write_body-returns-in_ok-at-in-Present : goal.write_body-returns-in_ok-at-in-Present
write_body-returns-in_ok-at-in-Present t c =
    let plan = c.args.plan.now in
    let value = c.args.value.now in
    let at = c.in_ok-at-in-Present.at in
    let found : found_at plan.index value.disc ≡ Some at = rw (to_z-of_z w128 value.disc (search rules)) at (sym c.find.ensures ∙ c.in_ok-at-in-Present.was) in
    let body = ap packed_slot c.in-Present.is ∙ packed_present _ in
    body_found c.write_case.result plan.index (map meaning plan.cases) (map meaning c.as_slice.result.now) value.disc at (packed_slot value.body) _ c.args.out.now c.write_case.new.out found (ap (map meaning) c.as_slice.ensures) body c.write_case.ensures
