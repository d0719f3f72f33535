use Rattle.object_formats.specs.Format.{several}
use Rattle.object_writer.proofs.Writes.{region_written}
use Rattle.object_writer.proofs.writer.Writer.listed.Goals as goal

pub returns : goal.returns
returns g c = region_written c.close.result (several (g.P.Part.format c.args.form)) _ _ _ _ _ _ c.in_ok-start.ensures.count c.in_ok-start.ensures.start c.in_ok-several.ensures c.close.ensures
