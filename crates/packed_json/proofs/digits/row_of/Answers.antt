use Rattle.std.proofs.Common.{◌∙◌, ◌*◌, ap, take, drop, arith}
use Rattle.packed_json.specs.declared.digits.TheConstants.{ROWS}
use Rattle.packed_json.proofs.Rows.{row_at}
use Rattle.packed_json.proofs.digits.row_of.Goals as goal

pub returns : goal.returns
returns c = c.split_at-2.ensures.front ∙ ap (take 4) (c.split_at.ensures.back ∙ ap (λ n. drop (n * 4) ROWS) c.from.ensures) ∙ row_at c.args.octet (omega (arith, c.ranges.octet.fits))
