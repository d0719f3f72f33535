use Rattle.std.proofs.Common.{rules, ◌∙◌, ◌≡◌, ap, map, sym}
use Rattle.type_trees.specs.View.{case_tree, cases_of}
use Rattle.idl_types.specs.declared.declarations.UsedCase.{UsedCase}
use Rattle.idl_types.specs.Uses.{whole}
use Rattle.idl_types.specs.Definitions.{declared, case_head, case_whole}
use Rattle.xt_idl.specs.Outlines.{use_outline, cases_outline}
use Rattle.xt_idl.proofs.Outlined.{cases_are}
use Rattle.xt_idl.proofs.outlines.outline_union.Goals as goal

pub returns : goal.returns
returns c =
    let ts = declared c.args.types.now in
    let own = c.in_ok-cases.ensures ∙ ap (λ cs. map (λ (x : UsedCase). (case_head x, use_outline (whole ts x.used))) cs) c.as_slice.ensures in
    let all : cases_of (map case_tree c.in_ok-cases.cases) ≡ cases_outline (cases_of (map (case_whole ts) c.args.kind.now.cases)) = ap cases_of own ∙ sym (cases_are ts c.args.kind.now.cases) in
    search (rules, all)
