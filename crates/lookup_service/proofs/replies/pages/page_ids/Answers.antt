use Rattle.std.proofs.Common.{arith}
use Rattle.lookup_service.proofs.OfReplies.Listing.{page_is}
use Rattle.lookup_service.proofs.replies.pages.page_ids.Goals as goal

pub returns-clause-page : goal.returns-clause-page
returns-clause-page c = page_is c.args.ids.now c.args.index c.min-count.result (let e = c.min-count.ensures in omega (arith, e)) (λ lt. let e = c.min-count.ensures in omega (arith, e))
