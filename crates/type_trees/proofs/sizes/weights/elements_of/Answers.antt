use Rattle.std.proofs.Common.{rules, ◌≡◌, ◌+◌, ◌*◌, min, arith, ◌∙◌, ap, sym, drop, get_or}
use Rattle.std.proofs.lemmas.List.{at_drop_more}
use Rattle.xt_shapes.specs.Shape.{product}
use Rattle.type_trees.proofs.OfSizes.Capped.{capped_step}
use Rattle.std.proofs.Math.Nat.{min_comm}
use Rattle.type_trees.proofs.sizes.weights.elements_of.Goals as goal

pub loop-dim-preserved : goal.loop-dim-preserved
loop-dim-preserved c =
    let i = c.loop-dim.dim-index in
    let dims = c.args.dims.now in
    let rest = product (drop (i + 1) dims) in
    let here : get_or dims i 0 ≡ c.from.result = search rules in
    let split : product (drop i dims) ≡ c.from.result * rest = at_drop_more product dims i 0 (search rules) ∙ ap (λ n. n * rest) here in (
      ap (λ n. min 18446744073709551615 (n * rest)) (c.saturating_mul-count.ensures ∙ min_comm _ _) ∙ capped_step 18446744073709551615 c.loop-dim.count c.from.result rest ∙ ap (λ n. min 18446744073709551615 (c.loop-dim.count * n)) (sym split) ∙ c.loop-dim.invariant.0,
      omega (arith, c.saturating_mul-count.ensures),
    )
