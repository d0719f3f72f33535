use Rattle.std.proofs.Common.{◌-◌, ap, ◌∙◌, arith}
use Rattle.object_formats.specs.Tables as spec
use Rattle.object_formats.specs.View as view
use Rattle.object_writer.proofs.Writes.{nested_written}
use Rattle.object_writer.proofs.writer.Writer.+nested.Goals as goal

pub nested-returns : goal.nested-returns
nested-returns t c =
    nested_written c.branch-self.result c.args.complete c.args.deep (c.args.deep - 1) c.code_octet.result (view.identifier c.args.ty.now) _ _ _
    (omega arith) (c.code_octet.ensures ∙ ap (spec.code_octet c.args.complete) c.code.ensures) c.in_ok-tag.ensures c.branch-self.ensures
