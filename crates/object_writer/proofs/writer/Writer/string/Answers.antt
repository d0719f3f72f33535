use Rattle.std.proofs.Common.{◌++◌, ap, ◌∙◌, rules}
use Rattle.object_writer.proofs.Writes.{text_written}
use Rattle.object_writer.proofs.writer.Writer.string.Goals as goal

pub returns-in_ok-raw-in-Some : goal.returns-in_ok-raw-in-Some
returns-in_ok-raw-in-Some c = text_written c.octet.result c.args.octets.now c.in-Some.count _ _ _ _ (search rules) c.in_ok-count-in-Some.ensures (c.in_ok-raw-in-Some.ensures ∙ ap (λ text. c.count.new.self ++ text) c.octets.ensures) c.octet.ensures
