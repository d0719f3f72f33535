use Rattle.std.proofs.Common.{◌≡◌, ◌++◌, ◌∙◌, [], append-nil, arith}
use Rattle.std.specs.Int.{bytes_low_first}
use Rattle.xt_wire.proofs.OfNumbers.UnitSteps.{unit_small}
use Rattle.xt_wire.proofs.OfWriter.NumberSteps.{low_front}
use Rattle.xt_wire.proofs.writer.digits.low_octets.Goals as goal

pub returns : goal.returns
returns c =
    let written : c.write_u128.new.buf ≡ bytes_low_first 0 16 c.args.number ++ [] = c.write_u128.ensures in
    let is : c.write_u128.new.buf ≡ bytes_low_first 0 16 c.args.number = written ∙ append-nil (bytes_low_first 0 16 c.args.number) in
    rw is (low_front 16 c.args.size c.args.number (omega (arith, unit_small c.args.size c.requires)))
