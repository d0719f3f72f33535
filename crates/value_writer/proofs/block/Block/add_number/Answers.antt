use Rattle.std.proofs.Common.{ap, ◌∙◌, ◌++◌, ℕ, List}
use Rattle.xcdr_model.specs.Numbers.{octets}
use Rattle.value_writer.proofs.Blocks.{one_octet}
use Rattle.value_writer.proofs.block.Block.add_number.Goals as goal

pub returns-then-size-eq1 : goal.returns-then-size-eq1
returns-then-size-eq1 c = rw (c.if-size-eq1.true, one_octet c.args.order c.args.number) c.add_octet.ensures

pub returns-in-Little : goal.returns-in-Little
unfolding octets
returns-in-Little c = rw c.in-Little.is c.add_low.ensures

pub returns-in-Big : goal.returns-in-Big
returns-in-Big c = c.add.ensures ∙ ap (λ (l : List ℕ). c.args.self.now ++ l) c.octets_of.ensures
