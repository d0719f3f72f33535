use Rattle.std.proofs.Common.{◌≡◌, ℤ, pos, int_lt, true, Some, w64, sym, ap, subst, ◌∙◌, rules}
use mir.Val.{to_z, of_z}
use Rattle.std.specs.Int.{w128}
use Rattle.packed_json.proofs.OfTapes.Leaves.{below_zero_read}
use Rattle.packed_json.proofs.tapes.leaves.below_zero.Goals as goal

pub returns-then-number-lt0 : goal.returns-then-number-lt0
returns-then-number-lt0 c =
    let e = c.in_ok-number.ensures in
    let n = c.in_ok-number.number in
    let same : to_z w64 (of_z w64 n) ≡ n = search rules in
    let back : to_z w128 (of_z w128 c.from.result) ≡ c.from.result = search rules in
    below_zero_read c.args.numeral.now n e.0.0 e.0.1 e.1 (subst (λ (k : ℤ). int_lt k (pos 0) ≡ true) same c.if-number-lt0.true) ∙ ap Some (sym (back ∙ c.from.ensures ∙ same))
