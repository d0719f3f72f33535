use Rattle.std.proofs.Common.{◌∙◌, rules}
use Rattle.std.proofs.lemmas.Iterator.{YieldsList-from_slice}
use Rattle.std.proofs.lemmas.Iterator.Search.{any_from_yields_List}
use Rattle.xt_shapes.specs.Vals.{Val}
use Rattle.xt_shapes.specs.Typing.{same_key}
use Rattle.type_trees.specs.View.{val, pair_val}
use Rattle.type_trees.proofs.Views.{val_rules}
use Rattle.node_rules.proofs.ListTests.{list_any_mapped}
use Rattle.type_values.proofs.keys.has_key.Goals as goal

pub returns : goal.returns
returns c =
    let pairs = c.args.pairs.now in
    let key = val c.args.key.now in
    any_from_yields_List (λ pair. same_key key (pair_val pair).0) _ _ c.any.result c.any.ensures.ran (YieldsList-from_slice pairs cc) (λ x b q k. search (rules, val_rules))
    ∙ list_any_mapped pair_val (λ (entry : Val × Val). same_key key entry.0) pairs
