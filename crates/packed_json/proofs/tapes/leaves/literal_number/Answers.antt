use Rattle.std.proofs.Common.{◌≡◌, ℤ, Ok, w32, sym, ap, ◌∙◌, rules}
use mir.Val.{to_z, of_z}
use Rattle.std.specs.Int.{w128}
use Rattle.xt_shapes.specs.Vals.{int}
use Rattle.json_values.proofs.IndexSteps.{named_value}
use Rattle.packed_json.proofs.tapes.leaves.literal_number.Goals as goal

pub returns : goal.returns
returns c =
    let n = c.in_ok-value.value in
    let same : to_z w32 (of_z w32 n) ≡ n = search rules in
    let back : to_z w128 (of_z w128 c.from.result) ≡ c.from.result = search rules in
    named_value c.args.literals.now c.args.text.now n (sym c.in_ok-value.ensures) ∙ ap (λ (k : ℤ). Ok (int k)) (sym (back ∙ c.from.ensures ∙ same))
