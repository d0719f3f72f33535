use Rattle.std.proofs.Common.{◌∙◌, rules, tests}
use Rattle.std.proofs.lemmas.Iterator.{YieldsList-from_slice}
use Rattle.std.proofs.lemmas.Iterator.Search.{any_from_yields_List}
use Rattle.std.specs.Ordering.{int_eq}
use Rattle.xt_shapes.specs.Shape.{Literal}
use Rattle.type_trees.specs.Bridge.{literal_shape}
use Rattle.node_rules.proofs.ListTests.{list_any_mapped}
use Rattle.node_rules.proofs.numbers.has_literal.Goals as goal

pub returns : goal.returns
returns c =
    let literals = c.args.literals.now in
    any_from_yields_List (λ l. int_eq l.value c.args.number) _ _ c.any.result c.any.ensures.ran (YieldsList-from_slice literals cc) (λ x b q k. search (rules, tests))
    ∙ list_any_mapped literal_shape (λ (l : Literal). int_eq l.value c.args.number) literals
