use Rattle.std.proofs.Common.{◌+◌, ◌≤◌, ◌∙◌, sym, ap, length, rules}
use Rattle.lookup_service.proofs.OfLink.Looping.{loop_given, given_now}
use Rattle.lookup_service.proofs.link.links.LoopLinkLink.read.Goals as goal

pub invariant_of-self : goal.invariant_of-self
invariant_of-self c =
    let within : c.self.inside.at + c.give-count.result ≤ length c.self.inside.replies = search rules in
    (c.self.invariant.0, within, loop_given _ _ _ _ _ _ _ _ c.self.invariant.2 _)

pub returns-clause-got : goal.returns-clause-got
returns-clause-got c =
    given_now _ c.self.inside.at c.give-count.result c.self.inside.replies _ (sym (ap (λ l. l.given) c.self.view_is ∙ c.want.ensures.given)) (rw c.octets.ensures at c.give-count.ensures.front)
