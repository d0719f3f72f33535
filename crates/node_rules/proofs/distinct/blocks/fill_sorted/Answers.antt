use Rattle.std.proofs.Common.{◌≡◌, ap, ◌∙◌, length}
use Rattle.std.specs.List.{refill}
use Rattle.std.specs.List.Sorted.{IsPermutation}
use Rattle.arrayvec.proofs.ArrayVecLemmas.{items-with_items}
use Rattle.arrayvec.specs.ArrayVec.{array_vec_len}
use Rattle.node_rules.proofs.OfDistinct.Appended.{ordered}
use Rattle.node_rules.proofs.distinct.blocks.fill_sorted.Goals as goal

pub returns : goal.returns
returns g c =
    let front = c.fill.new.block.items in
    let block = c.sort_unstable.new.self in
    let moved : IsPermutation front block = rw (← c.as_mut_slice.ensures.value) c.sort_unstable.ensures.permutation in
    let long : length block ≡ array_vec_len c.fill.new.block = c.sort_unstable.ensures.len ∙ ap (λ l. length l) c.as_mut_slice.ensures.value in
    let now : refill (array_vec_len c.fill.new.block) front block ≡ block = items-with_items c.fill.new.block block long in
    rw now (ordered (g.N.Numbers.left c.args.numbers.now) front block (g.N.Numbers.left c.fill.new.numbers) c.fill.ensures moved c.sort_unstable.ensures.sorted)
