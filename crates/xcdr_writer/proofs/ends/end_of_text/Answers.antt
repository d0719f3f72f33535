use Rattle.std.proofs.Common.{rules}
use Rattle.xt_shapes.specs.declared.leaves.Order.TheVariants.{Little}
use Rattle.xcdr_writer.proofs.SizeSteps.{end_of_text}
use Rattle.xcdr_writer.proofs.ends.end_of_text.Goals as goal

pub returns : goal.returns
returns c = rw (end_of_text Little c.args.octets.now c.args.place) (search rules)
