use Rattle.std.proofs.Common.{◌∙◌, sym}
use Rattle.type_trees.specs.View.{tree}
use Rattle.xt_calls.proofs.WithoutFloats.{same_form, bits_stand}
use Rattle.xt_calls.proofs.readers.Reader.form.Goals as goal

pub returns-then-self : goal.returns-then-self
returns-then-self c = same_form c.args.floats (tree c.args.self.now.ty)

pub returns-else-self : goal.returns-else-self
returns-else-self c =
    let self = c.args.self.now in
    bits_stand c.plain_is_shown.ensures c.plain_is_read.ensures (tree self.ty) self.valid (sym self.settled ∙ c.if-self.false) c.args.floats
