use Rattle.std.proofs.Common.{◌++◌, ◌∙◌, ap, List, ℕ, arith}
use Rattle.packed_json.proofs.Rows.{row_text}
use Rattle.packed_json.proofs.digits.add_behind.Goals as goal

pub returns : goal.returns
returns c =
    let n = c.args.octet in
    let added = rw (c.width_of.ensures, c.row_of.ensures) at c.add_first.ensures in
    added ∙ ap (λ (l : List ℕ). c.args.block.now ++ l) (row_text n (omega (arith, c.ranges.octet.fits)))
