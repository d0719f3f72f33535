use Rattle.std.proofs.Common.{◌≡◌, ◌∙◌, subst, ℕ, List}
use Rattle.std.specs.Prelude.{IfOk}
use Rattle.tool_types.proofs.refusals.object_line.Goals as goal

pub returns : goal.returns
returns c = subst (λ (octets : List ℕ). IfOk c.from_octets.result (λ text. text ≡ octets)) (c.as_bytes.ensures.value ∙ c.in_ok-text.ensures.ok) c.from_octets.ensures
