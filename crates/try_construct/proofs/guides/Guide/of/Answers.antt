use Rattle.type_trees.specs.Bridge.{type_shape}
use Rattle.try_construct.proofs.GuideSteps.{nothing_guides}
use Rattle.try_construct.proofs.guides.Guide.of.Goals as goal

pub returns-in-Err : goal.returns-in-Err
returns-in-Err c = nothing_guides (type_shape c.args.ty.now) c.nothing.result c.nothing.ensures
