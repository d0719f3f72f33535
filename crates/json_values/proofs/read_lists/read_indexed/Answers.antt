use Rattle.std.proofs.Common.{◌≡◌, ◌∙◌, refl, rules, sym, ap, []}
use Rattle.std.specs.Prelude.{Some, None, string_bytes}
use Rattle.type_trees.proofs.Views.{val_rules}
use Rattle.json_values.specs.declared.faults.JsonRule.{JsonRule}
use Rattle.json_values.specs.declared.faults.ValueFault.TheVariants.{Wrong}
use Rattle.json_values.specs.Indices.{value_named}
use Rattle.json_values.proofs.DataViews.{view_string}
use Rattle.json_values.proofs.IndexSteps.{named_value, unnamed}
use Rattle.json_values.proofs.read_lists.read_indexed.Goals as goal

pub returns-in-Some-clause-ok : goal.returns-in-Some-clause-ok
returns-in-Some-clause-ok c = λ ls held.
    let found : value_named ls (string_bytes c.in-String.text) ≡ Some c.in-Some.value = sym (ap (value_named ls) c.as_str.ensures.value) ∙ sym (c.value_named.ensures ls held) ∙ c.in-Some.is in
    rw (c.in-String.is, view_string c.in-String.text, named_value ls (string_bytes c.in-String.text) c.in-Some.value found) (search (rules, val_rules))

pub returns-in-None-clause-err : goal.returns-in-None-clause-err
returns-in-None-clause-err c = λ ls held.
    let found : value_named ls (string_bytes c.in-String.text) ≡ None = sym (ap (value_named ls) c.as_str.ensures.value) ∙ sym (c.value_named.ensures ls held) ∙ c.in-None.is in
    let here : c.wrong.result ≡ Wrong [] JsonRule.Literal = cc in
    rw (c.in-String.is, view_string c.in-String.text, unnamed ls (string_bytes c.in-String.text) found, c.below.ensures, here) refl
