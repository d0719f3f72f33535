use Rattle.std.proofs.Common.{sym, ◌∙◌}
use Rattle.xt_shapes.specs.declared.leaves.Primitive.TheVariants.{Boolean}
use Rattle.type_trees.proofs.Views.{tree_prim}
use Rattle.xt_idl.proofs.NamedAt.{at_none}
use Rattle.xt_idl.proofs.trees.CopiesPlaces.at.Goals as goal

pub returns-in-None : goal.returns-in-None
returns-in-None c = tree_prim Boolean ∙ sym (at_none c.args.self.now.types.now c.args.at (sym (rw c.in-None.is at c.named_at.ensures)))
