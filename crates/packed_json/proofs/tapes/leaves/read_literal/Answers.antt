use Rattle.std.proofs.Common.{◌≡◌, ℤ, subst, rules}
use mir.Val.{to_z, of_z}
use Rattle.std.specs.Int.{w128}
use Rattle.std.specs.Prelude.{IfSome}
use Rattle.xt_shapes.specs.Vals.{int}
use Rattle.json_values.specs.Read.{literal_of}
use Rattle.packed_reader.specs.View.{packed_val}
use Rattle.packed_json.proofs.OfTapes.Leaves.{number_reads}
use Rattle.packed_json.proofs.tapes.leaves.read_literal.Goals as goal

pub returns : goal.returns
returns c =
    let number = c.in_ok-number.number in
    let r = c.integer.result in
    let same : to_z w128 (of_z w128 number) ≡ number = search rules in
    number_reads (literal_of c.args.literals.now) c.args.part.now number r c.in_ok-number.ensures (subst (λ (k : ℤ). IfSome r (λ v. packed_val v ≡ int k)) same c.integer.ensures)
