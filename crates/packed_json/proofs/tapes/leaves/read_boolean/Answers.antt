use Rattle.std.proofs.Common.{◌≡◌, ℤ, sym, subst, ◌∙◌, rules}
use mir.Val.{to_z, of_z}
use Rattle.std.specs.Int.{w128}
use Rattle.xt_shapes.specs.Vals.{int}
use Rattle.json_values.specs.Read.{boolean_of}
use Rattle.packed_json.specs.Tapes.{Means}
use Rattle.packed_json.proofs.OfTapes.Leaves.{boolean_means}
use Rattle.packed_json.proofs.tapes.leaves.read_boolean.Goals as goal

pub returns : goal.returns
returns c j begins =
    let number = c.truth_number.result in
    let same : to_z w128 (of_z w128 number) ≡ number = search rules in
    subst (λ (k : ℤ). Means boolean_of 0 j (int k)) (sym (same ∙ c.truth_number.ensures)) (boolean_means j c.in_ok-truth.truth (c.in_ok-truth.ensures j begins))
