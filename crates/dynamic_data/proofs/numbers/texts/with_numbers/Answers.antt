use Rattle.type_trees.specs.View.{tree}
use Rattle.type_rules.proofs.Kept.{limits_kept}
use Rattle.dynamic_data.proofs.NameTexts.{type_has_texts}
use Rattle.dynamic_data.proofs.numbers.texts.with_numbers.Goals as goal

pub turned-requires-clause-deep : goal.turned-requires-clause-deep
turned-requires-clause-deep c = (limits_kept (tree c.args.ty.now) c.requires).0

pub turned-requires-clause-named : goal.turned-requires-clause-named
turned-requires-clause-named c = type_has_texts (tree c.args.ty.now) c.requires
