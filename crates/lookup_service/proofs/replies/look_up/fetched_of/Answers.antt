use Rattle.std.proofs.Common.{◌∙◌, ◌≤◌, refl, sym, ap, subst, List, ℕ, Some, length}
use Rattle.lookup_service.proofs.OfReplies.Getting.{short_text}
use Rattle.lookup_service.proofs.replies.look_up.fetched_of.Goals as goal

pub returns-clause-found : goal.returns-clause-found
returns-clause-found g c =
    let found = rw c.in-Some.is at c.in_ok-finding.ensures.found in
    let same = c.in_ok-octets.ensures ∙ c.octets.ensures.octets in
    (refl, found.1 ∙ ap (λ (o : List ℕ). Some o) (sym same), subst (λ (o : List ℕ). length o ≤ 131072) (sym same) (short_text _ c.octets.ensures.named.0))
