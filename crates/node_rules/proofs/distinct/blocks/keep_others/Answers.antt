use Rattle.std.proofs.Common.{rules, ◌≡◌, ◌+◌, ◌∷◌, pos, true, false, get_or, drop, w64, to_z, of_z}
use Rattle.std.proofs.lemmas.List.{drop_more}
use Rattle.node_rules.proofs.OfDistinct.Appended.{kept_more}
use Rattle.node_rules.specs.distinct.InBlocks.{holds_one, without}
use Rattle.node_rules.proofs.distinct.blocks.keep_others.Goals as goal

pub loop-number-preserved-then-holds : goal.loop-number-preserved-then-holds
loop-number-preserved-then-holds c =
    let i = c.loop-number.number-index in
    let xs = c.args.numbers.now in
    let x = get_or xs i (pos 0) in
    let next : drop i xs ≡ x ∷ drop (i + 1) xs = drop_more xs i (pos 0) (search rules) in
    let here : true ≡ holds_one c.args.block.now x = search rules in
    record {
      kept = kept_more true c.args.block.now c.loop-number.kept.items (drop (i + 1) xs) (without c.args.block.now xs) x here (rw next at c.loop-number.invariant.kept);
      few = search rules;
    }

pub loop-number-preserved : goal.loop-number-preserved
loop-number-preserved c =
    let i = c.loop-number.number-index in
    let xs = c.args.numbers.now in
    let x = get_or xs i (pos 0) in
    let next : drop i xs ≡ x ∷ drop (i + 1) xs = drop_more xs i (pos 0) (search rules) in
    let here : false ≡ holds_one c.args.block.now x = search rules in
    let same : to_z w64 (of_z w64 x) ≡ x = search rules in
    record {
      kept = rw (c.push.ensures.items, same) (kept_more false c.args.block.now c.loop-number.kept.items (drop (i + 1) xs) (without c.args.block.now xs) x here (rw next at c.loop-number.invariant.kept));
      few = search rules;
    }
