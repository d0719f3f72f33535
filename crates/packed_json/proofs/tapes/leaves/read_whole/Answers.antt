use Rattle.std.proofs.Common.{◌≡◌, ℤ, true, sym, subst, rules}
use mir.Val.{to_z, of_z}
use Rattle.std.specs.Int.{w128}
use Rattle.xt_shapes.specs.Typing.{of_prim}
use Rattle.xt_shapes.specs.Vals.{int}
use Rattle.json_values.specs.Read.{whole_of}
use Rattle.packed_json.specs.Tapes.{Means}
use Rattle.packed_json.proofs.OfTapes.Leaves.{whole_means}
use Rattle.packed_json.proofs.tapes.leaves.read_whole.Goals as goal

pub returns-then-is_of_prim : goal.returns-then-is_of_prim
returns-then-is_of_prim c j begins =
    let fits = of_prim c.args.prim in
    let number = c.in_ok-number.number in
    let same : to_z w128 (of_z w128 number) ≡ number = search rules in
    subst (λ (k : ℤ). Means (whole_of fits) 0 j (int k)) (sym same) (whole_means fits j number (c.in_ok-number.ensures j begins) (subst (λ (k : ℤ). fits k ≡ true) same (sym c.if-is_of_prim.ensures)))
