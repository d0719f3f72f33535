use Rattle.std.proofs.Common.{◌∙◌, sym, map}
use Rattle.type_trees.specs.View.{pair_val}
use Rattle.type_values.proofs.SortedKeys.{by_numbers, by_texts}
use Rattle.type_values.proofs.sorted_keys.has_same_keys.Goals as goal

pub returns-then-has_repeats : goal.returns-then-has_repeats
returns-then-has_repeats c = c.if-has_repeats.true ∙ by_numbers (map pair_val c.args.pairs.now) c.in_ok-numbers.numbers.items c.in_ok-numbers.ensures (sym c.has_repeats.ensures ∙ c.if-has_repeats.true)

pub returns-else-has_repeats : goal.returns-else-has_repeats
returns-else-has_repeats c =
    c.has_repeats-else-has_repeats.ensures
    ∙ by_texts (λ r. r.now) (map pair_val c.args.pairs.now) c.in_ok-numbers.numbers.items c.in_ok-texts.texts.items c.in_ok-numbers.ensures c.in_ok-texts.ensures (sym c.has_repeats.ensures ∙ c.if-has_repeats.false)
