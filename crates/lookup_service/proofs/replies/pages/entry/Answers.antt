use Rattle.std.proofs.Common.{ap, length, rules, arith}
use Rattle.lookup_service.proofs.OfReplies.Getting.{short_text, named_kind}
use Rattle.lookup_service.proofs.replies.pages.entry.Goals as goal

pub overflow_cast-result : goal.overflow_cast-result
overflow_cast-result g c = let e = c.octets.ensures in let short = short_text _ e.named.0 in let long = ap length e.octets in omega (arith, short, long)

pub returns-clause-good : goal.returns-clause-good
returns-clause-good g c = named_kind g.N.Naming.name _ _ _ c.octets.ensures.named (rw c.unwrap-finding.ensures at c.find.ensures.found).1

pub returns-clause-range : goal.returns-clause-range
returns-clause-range g c = (search rules, let e = c.octets.ensures in let short = short_text _ e.named.0 in let long = ap length e.octets in omega (arith, short, long))
