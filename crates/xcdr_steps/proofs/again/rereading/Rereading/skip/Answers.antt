use Rattle.std.proofs.Common.{arith, drop_of_length-le}
use Rattle.xcdr_steps.proofs.OfAgain.Passed.{moved_over}
use Rattle.xcdr_steps.proofs.again.rereading.Rereading.skip.Goals as goal

pub returns-in-Ok : goal.returns-in-Ok
returns-in-Ok g c =
    let self = c.args.self.now in
    moved_over _ self.failed _ self.place self.end self.origin self.order (drop_of_length-le self.next (omega (arith, self.sized, c.requires.none))) c.in-Ok.ensures (omega (arith, self.reached, c.requires.none)) c.requires.within self.in_whole
