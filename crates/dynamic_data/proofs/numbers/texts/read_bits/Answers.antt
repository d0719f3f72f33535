use Rattle.std.proofs.Common.{◌≡◌, ℕ, List, Ok, IfOk, ◌∙◌, subst}
use Rattle.type_trees.specs.View.{tree, val}
use Rattle.type_rules.proofs.Kept.{limits_kept}
use Rattle.json_values.specs.Read.{read_as}
use Rattle.json_values.specs.Steps.{FailsAs}
use Rattle.dynamic_data.proofs.NameTexts.{type_has_texts}
use Rattle.dynamic_data.proofs.OfNumbers.TextTurns.{bits_text_is}
use Rattle.dynamic_data.proofs.numbers.texts.read_bits.Goals as goal

pub turned-requires-clause-deep : goal.turned-requires-clause-deep
turned-requires-clause-deep c = (limits_kept (tree c.args.ty.now) c.requires.valid).0

pub turned-requires-clause-named : goal.turned-requires-clause-named
turned-requires-clause-named c = type_has_texts (tree c.args.ty.now) c.requires.valid

pub returns-in-Some-clause-ok : goal.returns-in-Some-clause-ok
returns-in-Some-clause-ok c =
    let t = tree c.args.ty.now in
    let is = c.as_slice.ensures.value ∙ bits_text_is c.args.form t c.args.text.now _ c.requires.bits (rw c.in-Some.is at c.in_ok-bits.ensures) in
    subst (λ (s : List ℕ). IfOk c.from_json.result (λ value. read_as t s ≡ Ok (val value))) is c.from_json.ensures.ok

pub returns-in-Some-clause-err : goal.returns-in-Some-clause-err
returns-in-Some-clause-err c =
    let t = tree c.args.ty.now in
    let is = c.as_slice.ensures.value ∙ bits_text_is c.args.form t c.args.text.now _ c.requires.bits (rw c.in-Some.is at c.in_ok-bits.ensures) in
    subst (λ (s : List ℕ). FailsAs (read_as t s) c.from_json.result) is c.from_json.ensures.err
