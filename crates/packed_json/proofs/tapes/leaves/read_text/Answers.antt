use Rattle.std.proofs.Common.{◌≡◌, ℕ, List, Ok, subst}
use Rattle.std.specs.Prelude.{IfSome}
use Rattle.packed_reader.specs.View.{packed_val}
use Rattle.json_values.specs.Read.{octets_of, text_of}
use Rattle.packed_json.proofs.OfTapes.Leaves.{texts_mean}
use Rattle.packed_json.proofs.tapes.leaves.read_text.Goals as goal

pub returns : goal.returns
returns c j begins =
    let r = c.octets_in.result in
    texts_mean packed_val (text_of c.args.bound) j c.in_ok-text.text.now r (c.in_ok-text.ensures j begins) (subst (λ (s : List ℕ). IfSome r (λ v. octets_of c.args.bound s ≡ Ok (packed_val v))) c.as_bytes.ensures.value c.octets_in.ensures)
