use Rattle.std.proofs.Common.{◌∙◌, ap, sym, rules, tests, not, ◌&&◌}
use Rattle.std.specs.Prelude.{◌==◌}
use Rattle.std.proofs.lemmas.Iterator.{YieldsList-from_slice}
use Rattle.std.proofs.lemmas.Iterator.Search.{all_from_yields_List}
use Rattle.xt_shapes.specs.Lists.{has}
use Rattle.type_values.proofs.ListTests.{list_all_not, octets_are}
use Rattle.type_values.proofs.numbers.has_no_nul.Goals as goal

pub returns : goal.returns
returns c =
    let octets = c.args.octets.now in
    let each = all_from_yields_List (λ b. not (b == 0)) _ _ c.all.result c.all.ensures.ran (YieldsList-from_slice octets cc) (λ x b q k. search (rules, tests)) in
    each ∙ list_all_not (λ b. b == 0) octets ∙ ap (λ r. r && not (has (λ b. b == 0) octets)) (sym (octets_are octets c.type_inv.octets))
