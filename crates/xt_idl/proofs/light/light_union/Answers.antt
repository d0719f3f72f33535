use Rattle.std.proofs.Common.{rules, ◌∙◌, ◌≡◌, ap, map, sym}
use Rattle.type_trees.specs.View.{case_tree, cases_of}
use Rattle.idl_types.specs.Definitions.{declared, case_whole}
use Rattle.xt_idl.specs.Light.{bare_used, light_cases}
use Rattle.xt_idl.proofs.Lightened.{cases_are}
use Rattle.xt_idl.proofs.light.light_union.Goals as goal

pub returns : goal.returns
returns c =
    let ts = declared c.args.types.now in
    let own = c.in_ok-cases.ensures ∙ ap (λ cs. map bare_used cs) c.as_slice.ensures in
    let all : cases_of (map case_tree c.in_ok-cases.cases) ≡ light_cases (cases_of (map (case_whole ts) c.args.kind.now.cases)) = ap cases_of own ∙ sym (cases_are ts c.args.kind.now.cases) in
    search (rules, all)
