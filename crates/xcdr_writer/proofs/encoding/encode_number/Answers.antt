use Rattle.xcdr_model.specs.FixedSpelling.{number_fixed, nothing}
use Rattle.xcdr_model.specs.Numbers.{raw}
use Rattle.xt_wire.proofs.OfWriter.Puts.{same_puts, puts_nothing}
use Rattle.xcdr_writer.specs.Parts.{most_of}
use Rattle.xcdr_writer.proofs.Chains.{number_none}
use Rattle.xcdr_writer.proofs.encoding.encode_number.Goals as goal

pub returns-in-0 : goal.returns-in-0
returns-in-0 g c = rw c.in-0.is (same_puts (number_fixed (most_of c.args.rep) c.args.out.now.order 0 (raw 0 c.args.number)) nothing (λ p at. number_none c.args.rep c.args.out.now.order (raw 0 c.args.number) p) (puts_nothing c.args.out.now))
