use Rattle.std.proofs.Common.{◌≡◌, sym, ap, ◌∙◌, ◌+◌, ◌-◌, is_some, drop, cond, get_or, subst, Some, arith}
use Rattle.std.specs.Option.{option_and_then}
use Rattle.std.specs.Ordering.{int_eq}
use Rattle.xt_shapes.specs.Lists.{has}
use Rattle.xt_shapes.specs.Select.{labelled}
use Rattle.type_trees.specs.Bridge.{cases_shape}
use Rattle.try_construct.specs.Guides.{case_index}
use Rattle.try_construct.proofs.CasesByIndex.{case_there, labelled_from}
use Rattle.try_construct.proofs.guiding.labels_of.Goals as goal

pub unwrap-first-requires : goal.unwrap-first-requires
unwrap-first-requires c =
    let cs = c.args.cases.now in
    let case = c.index-cases-at.result in
    let position = c.place_in.ensures ∙ c.requires case.id in
    ap is_some position ∙ rw c.index-cases-at.is (case_there cs (c.cases.at - 1) case (omega (arith, c.cases-test.true, c.cases.invariant.0)))

pub cases-preserved : goal.cases-preserved
cases-preserved c =
    let cs = c.args.cases.now in
    let i = c.cases.at - 1 in
    let case = c.index-cases-at.result in
    let f = case_index (cases_shape cs) in
    let next : i + 1 ≡ c.cases.at = omega (arith, c.cases-test.true) in
    let first : Some c.unwrap-first.result ≡ f case.id = sym c.unwrap-first.ensures ∙ (c.place_in.ensures ∙ c.requires case.id) in
    let added = rw c.as_slice.ensures at c.in_ok-add_labels.ensures in (
      omega (arith, c.cases.invariant.0),
      λ n.
          added n
          ∙ ap (λ x. cond (has (int_eq n) case.labels) (Some c.unwrap-first.result) x) (c.cases.invariant.1 n)
          ∙ ap (λ k. cond (has (int_eq n) case.labels) (Some c.unwrap-first.result) (option_and_then f (labelled (cases_shape (drop k cs)) n))) (sym next)
          ∙ ap (λ x. cond (has (int_eq n) case.labels) x (option_and_then f (labelled (cases_shape (drop (i + 1) cs)) n))) first
          ∙ sym (labelled_from cs i case n f (omega (arith, c.cases-test.true, c.cases.invariant.0)) c.index-cases-at.is),
    )
