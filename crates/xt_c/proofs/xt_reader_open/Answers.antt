use Rattle.xt_c.proofs.Told.{projections}
use Rattle.xt_c.proofs.xt_reader_open.Goals as goal

pub returns-clause-projections : goal.returns-clause-projections
returns-clause-projections c = projections c.headline.ensures c.args.types.now.held c.args.reads.now c.args.writes.now c.args.rep c.args.flags _ _ _ _ _ c.open_reader.ensures.opens
