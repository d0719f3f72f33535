use Rattle.std.proofs.Common.{◌≡◌, [], rules}
use Rattle.dynamic_data.proofs.OfNumbers.TextTurns.{tree_read}
use Rattle.dynamic_data.proofs.numbers.texts.parsed.Goals as goal

pub returns-in-Ok-clause-tree : goal.returns-in-Ok-clause-tree
returns-in-Ok-clause-tree c =
    let ended : c.read.new.reader ≡ [] = search rules in
    tree_read c.args.text.now _ _ _ c.utf8.text c.in_ok-reader.ensures.ok c.in-Ok.ensures.ok ended
