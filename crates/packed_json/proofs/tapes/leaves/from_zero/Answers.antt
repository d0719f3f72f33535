use Rattle.std.proofs.Common.{◌≡◌, pos, Some, sym, ap, ◌∙◌, rules}
use mir.Val.{to_z, of_z}
use Rattle.std.specs.Int.{w128}
use Rattle.packed_json.proofs.OfTapes.Leaves.{from_zero_read}
use Rattle.packed_json.proofs.tapes.leaves.from_zero.Goals as goal

pub returns : goal.returns
returns c =
    let e = c.in_ok-number.ensures in
    let back : to_z w128 (of_z w128 c.from.result) ≡ c.from.result = search rules in
    from_zero_read c.args.numeral.now e.0.0 e.0.1 ∙ ap (λ k. Some (pos k)) (sym e.1) ∙ ap Some (sym (back ∙ c.from.ensures))
