use Rattle.type_resolve.proofs.Steps.{mask_stores}
use Rattle.type_resolve.proofs.walk.bitmask.Goals as goal

pub returns : goal.returns
returns c = mask_stores c.args.pool.now c.add_made.new.pool c.mask_pair.result c.add_made.result _ _ _ c.mask_pair.ensures c.add_made.ensures
