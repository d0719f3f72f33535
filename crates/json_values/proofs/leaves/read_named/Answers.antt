use Rattle.std.proofs.Common.{◌≡◌, ◌∙◌, refl, rules, sym, []}
use Rattle.type_trees.proofs.Views.{val_rules}
use Rattle.json_values.specs.declared.faults.JsonRule.{JsonRule}
use Rattle.json_values.specs.declared.faults.ValueFault.TheVariants.{Wrong}
use Rattle.json_values.proofs.IndexSteps.{named_value, unnamed}
use Rattle.json_values.proofs.leaves.read_named.Goals as goal

pub returns-in-Some-clause-ok : goal.returns-in-Some-clause-ok
returns-in-Some-clause-ok c = rw (named_value c.args.literals.now c.args.text.now c.in-Some.value (sym c.literal_named.ensures ∙ c.in-Some.is)) (search (rules, val_rules))

pub returns-in-None-clause-err : goal.returns-in-None-clause-err
returns-in-None-clause-err c =
    let here : c.wrong.result ≡ Wrong [] JsonRule.Literal = cc in
    rw (unnamed c.args.literals.now c.args.text.now (sym c.literal_named.ensures ∙ c.in-None.is), here) refl
