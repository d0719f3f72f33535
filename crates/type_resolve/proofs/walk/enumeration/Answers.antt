use Rattle.type_resolve.proofs.Steps.{enum_stores}
use Rattle.type_resolve.proofs.walk.enumeration.Goals as goal

pub returns : goal.returns
returns c = enum_stores c.args.pool.now c.add_made.new.pool c.enum_pair.result c.add_made.result _ _ _ _ c.enum_pair.ensures c.add_made.ensures
