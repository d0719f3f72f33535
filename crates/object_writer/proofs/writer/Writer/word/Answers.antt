use Rattle.object_writer.proofs.Writes.{word_written}
use Rattle.object_writer.proofs.writer.Writer.word.Goals as goal

pub returns : goal.returns
returns c = word_written c.raw.result c.args.number _ _ _ _ c.word_octets.ensures c.in_ok-pad.ensures c.raw.ensures
