use Rattle.std.proofs.Common.{rules, subst, ap, ◌≡◌, ◌∙◌, Ok}
use Rattle.idl_types.specs.Uses.{whole}
use Rattle.idl_input.specs.Input.{Parser, Reads}
use Rattle.idl_types.specs.Views.{state}
use Rattle.idl_definitions.specs.Lists.{to_brace}
use Rattle.idl_definitions.specs.Unions.{Gathered, case, label, no_cases_yet}
use Rattle.idl_definitions.specs.Views as view
use Rattle.idl_definitions.proofs.LabelForms.{same_cases}
use Rattle.idl_definitions.proofs.unions.cases_over.Goals as goal

pub returns-in_err-cases : goal.returns-in_err-cases
returns-in_err-cases c =
    let by_form : Gathered → Parser Gathered = to_brace (case (state c.args.reader.now) c.args.hashed (view.form c.in_ok-form.form)) in
    let same = ap by_form c.no_cases-gathered.ensures ∙ same_cases (state c.args.reader.now) c.args.hashed (view.form c.in_ok-form.form) (whole (state c.args.reader.now).types c.args.disc.now) no_cases_yet (subst (λ ts. label (view.form c.in_ok-form.form) ≡ label (whole ts c.args.disc.now)) c.types.ensures.same c.in_ok-form.ensures) in
    subst (λ p. Reads (view.gathered (state c.args.reader.now).types) (p c.args.tokens.now) c.from_residual-in_err-cases.result c.cases.new.tokens) same (search rules)

pub returns : goal.returns
returns c =
    let by_form : Gathered → Parser Gathered = to_brace (case (state c.args.reader.now) c.args.hashed (view.form c.in_ok-form.form)) in
    let same = ap by_form c.no_cases-gathered.ensures ∙ same_cases (state c.args.reader.now) c.args.hashed (view.form c.in_ok-form.form) (whole (state c.args.reader.now).types c.args.disc.now) no_cases_yet (subst (λ ts. label (view.form c.in_ok-form.form) ≡ label (whole ts c.args.disc.now)) c.types.ensures.same c.in_ok-form.ensures) in
    subst (λ p. p c.args.tokens.now ≡ Ok (view.gathered (state c.args.reader.now).types c.cases.new.gathered, c.cases.new.tokens)) same c.in_ok-cases.ensures
