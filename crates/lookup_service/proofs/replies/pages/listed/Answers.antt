use Rattle.type_registry.specs.Passed.{known}
use Rattle.lookup_service.proofs.OfReplies.Listing.{listed_is, listed_known}
use Rattle.lookup_service.proofs.replies.pages.listed.Goals as goal

pub returns-clause-depends : goal.returns-clause-depends
returns-clause-depends g c = listed_is (known c.visit.new.pass) c.args.asked.now c.in_ok-seen.seen _ c.in_ok-among.among c.in_ok-left.left c.in_ok-seen.ensures.met c.as_slice.ensures c.in_ok-among.ensures c.in_ok-left.ensures.left

pub returns-clause-known : goal.returns-clause-known
returns-clause-known g c = listed_known (known c.visit.new.pass) c.args.asked.now c.in_ok-seen.seen _ c.in_ok-among.among c.in_ok-left.left c.in_ok-seen.ensures.met c.as_slice.ensures c.in_ok-left.ensures.left
