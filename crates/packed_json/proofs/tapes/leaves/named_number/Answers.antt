use Rattle.std.proofs.Common.{◌≡◌, ℕ, List, Ok, subst}
use Rattle.std.specs.Prelude.{IfSome}
use Rattle.xt_shapes.specs.Vals.{int}
use Rattle.json_values.specs.Read.{literal_named, literal_of}
use Rattle.packed_json.proofs.OfTapes.Leaves.{texts_mean}
use Rattle.packed_json.proofs.tapes.leaves.named_number.Goals as goal

pub returns : goal.returns
returns c j begins =
    let ls = c.args.literals.now in
    let r = c.literal_number.result in
    texts_mean int (literal_of ls) j c.in_ok-text.text.now r (c.in_ok-text.ensures j begins) (subst (λ (s : List ℕ). IfSome r (λ n. literal_named ls s ≡ Ok (int n))) c.as_bytes.ensures.value c.literal_number.ensures)
