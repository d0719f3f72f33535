use Rattle.std.proofs.Common.{ap, sym, ◌∙◌}
use Rattle.object_writer.proofs.Writes.{several_written}
use Rattle.object_writer.proofs.writer.Writer.several.Goals as goal

pub returns : goal.returns
returns g c = several_written c.each.result (g.P.Part.format c.args.form) _ _ _ _ _ _ (c.len.ensures ∙ sym (g.P.Part.same_count c.args.parts.now)) (ap g.P.Part.all_seen c.as_slice.ensures) c.in_ok-count.ensures c.each.ensures
