use Rattle.std.proofs.Common.{◌≡◌, ℕ, List, Option, Some, option_and_then, subst}
use Rattle.std.specs.Prelude.{IfSome}
use Rattle.serde_json.specs.Find.{as_integer}
use Rattle.serde_json.specs.Read.{number_of}
use Rattle.packed_json.proofs.tapes.leaves.whole.Goals as goal

pub returns : goal.returns
returns c j begins =
    let r = c.whole_in_text.result in
    subst (λ (o : Option (List ℕ)). IfSome r (λ n. option_and_then as_integer (option_and_then number_of o) ≡ Some n)) (c.in_ok-text.ensures j begins)
    (subst (λ (s : List ℕ). IfSome r (λ n. option_and_then as_integer (number_of s) ≡ Some n)) c.as_bytes.ensures.value c.whole_in_text.ensures)
