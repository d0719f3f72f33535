use Rattle.std.proofs.Common.{map, rules}
use Rattle.node_judge.proofs.MarkSteps.{by_columns}
use Rattle.node_judge.proofs.marks.block_fits.Goals as goal

pub returns : goal.returns
returns g c =
    by_columns _ _ (map g.T.Marked.mark_of c.args.items.now) (map g.T.Marked.mark_of c.args.others.now) c.all_fit.ensures (search rules)
