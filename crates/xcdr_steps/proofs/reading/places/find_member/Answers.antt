use Rattle.std.proofs.Common.{sym}
use Rattle.xcdr_steps.proofs.OfReading.ByIndex.{at_once}
use Rattle.xcdr_steps.proofs.reading.places.find_member.Goals as goal

pub returns-then-members-next : goal.returns-then-members-next
returns-then-members-next c =
    let item = c.index-members-next.result in
    sym (at_once c.args.members.now c.args.next c.args.id item c.requires c.if-next-members.true c.if-members-next.true)
