use Rattle.std.proofs.Common.{◌≡◌, subst}
use Rattle.std.specs.Prelude.{IfOk}
use Rattle.type_trees.specs.View.{tree}
use Rattle.idl_types.specs.Definitions.{declared}
use Rattle.xt_idl.proofs.Stood.{stood_outline}
use Rattle.xt_idl.proofs.outlines.ByNameStands.stand.Goals as goal

pub returns : goal.returns
returns c = subst (λ outline. IfOk c.with_places.result (λ t. tree t ≡ outline)) (stood_outline (declared c.args.self.now.types.now) c.args.used.now) c.with_places.ensures
