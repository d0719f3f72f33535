use Rattle.idl_types.specs.Definitions.{declared}
use Rattle.type_resolve.proofs.Places.{base_is}
use Rattle.type_resolve.proofs.uses.base_ids.Goals as goal

pub returns-in-Some-clause-minimal : goal.returns-in-Some-clause-minimal
returns-in-Some-clause-minimal c = (base_is (declared c.args.types.now) c.args.ids.now c.args.kind.now.ext c.args.kind.now.base c.in-Some.at c.ids_at.result c.requires.named c.requires.fits c.in-Some.is c.ids_at.ensures).0

pub returns-in-Some-clause-complete : goal.returns-in-Some-clause-complete
returns-in-Some-clause-complete c = (base_is (declared c.args.types.now) c.args.ids.now c.args.kind.now.ext c.args.kind.now.base c.in-Some.at c.ids_at.result c.requires.named c.requires.fits c.in-Some.is c.ids_at.ensures).1
