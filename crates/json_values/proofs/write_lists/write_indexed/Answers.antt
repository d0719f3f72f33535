use Rattle.std.proofs.Common.{◌≡◌, ◌∙◌, rules, sym, ap, option_map, Bor, List, ℕ}
use Rattle.std.specs.Prelude.{Some, None}
use Rattle.type_trees.proofs.Views.{val_int}
use Rattle.json_values.specs.Indices.{text_of_value}
use Rattle.json_values.proofs.IndexSteps.{valued, unvalued}
use Rattle.json_values.proofs.write_lists.write_indexed.Goals as goal

pub returns-in-Some-clause-ok : goal.returns-in-Some-clause-ok
returns-in-Some-clause-ok c = λ ls held.
    let found : text_of_value ls c.in-Int.number ≡ Some c.in-Some.name.now = sym (ap (text_of_value ls) (search rules)) ∙ sym (c.name_of.ensures ls held) ∙ ap (option_map (λ (t : Bor (List ℕ)). t.now)) c.in-Some.is in
    rw (c.in-Int.is, val_int c.in-Int.number, valued ls c.in-Int.number c.in-Some.name.now found) c.string.ensures.ok

pub returns-in-None-clause-ok : goal.returns-in-None-clause-ok
returns-in-None-clause-ok c = λ ls held.
    let found : text_of_value ls c.in-Int.number ≡ None = sym (ap (text_of_value ls) (search rules)) ∙ sym (c.name_of.ensures ls held) ∙ ap (option_map (λ (t : Bor (List ℕ)). t.now)) c.in-None.is in
    rw (c.in-Int.is, val_int c.in-Int.number, unvalued ls c.in-Int.number found) c.null-in-None.ensures.ok
