use Rattle.std.proofs.Common.{refl, ◌∙◌, rules}
use Rattle.std.specs.Int.{w128}
use Rattle.std.proofs.lemmas.Int.{to_z-of_z}
use Rattle.type_trees.specs.Bridge.{cases_shape}
use Rattle.try_construct.proofs.CasesByIndex.{index_finds, selected_inside}
use Rattle.try_construct.proofs.guides.Guide.find.Goals as goal

pub returns-in-Cases-clause-position : goal.returns-in-Cases-clause-position
returns-in-Cases-clause-position c =
    let known = rw c.in-Cases.is at c.requires in
    let is = rw (to_z-of_z w128 c.args.number (search rules)) at c.find.ensures in
    is ∙ index_finds (cases_shape c.args.cases.now) c.in-Cases.index c.args.number known

pub returns-in-Cases-clause-within : goal.returns-in-Cases-clause-within
returns-in-Cases-clause-within c =
    let known = rw c.in-Cases.is at c.requires in
    let is = rw (to_z-of_z w128 c.args.number (search rules)) at c.find.ensures in
    selected_inside c.args.cases.now c.args.number c.find.result (is ∙ index_finds (cases_shape c.args.cases.now) c.in-Cases.index c.args.number known)

pub returns-in-Nothing-clause-within : goal.returns-in-Nothing-clause-within
returns-in-Nothing-clause-within c =
    let is = rw (to_z-of_z w128 c.args.number (search rules)) at c.find_selected.ensures in
    selected_inside c.args.cases.now c.args.number c.find_selected.result is
