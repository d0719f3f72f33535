use Rattle.xt_wire.proofs.OfWriter.Puts.{puts_nothing}
use Rattle.xcdr_writer.proofs.encoding.encode_presence.Goals as goal

pub returns-else-optional : goal.returns-else-optional
returns-else-optional g c = rw c.if-optional.false (puts_nothing c.args.out.now)
